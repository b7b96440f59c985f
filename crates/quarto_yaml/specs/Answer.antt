-- The calls that read a text, in numbers: document 01's number with two values, always three, or with a count; and every lent number
-- afterwards.
use Rattle.std.specs.Prelude.{◌≡◌, ℕ, Bool, List, [], ◌∷◌, ◌++◌, length, take}
use Rattle.records.specs.Record.{node_numbers}
use Rattle.spans.specs.Scalar.{mark}
use Rattle.parser.specs.Machine.{Outcome}
use Rattle.parser.specs.Call.{table_row, records_after, pieces_after, record_of, building, scalar_call}
use Rattle.quarto_yaml.specs.declared.build.Answered.{Answered}
use Rattle.quarto_yaml.specs.declared.build.AnsweredScalar.{AnsweredScalar}
use Rattle.quarto_yaml.specs.declared.count.Counted.{Counted}

-- a row of the table as three numbers: a refusal has 0 after its place
abbrev pub three : List ℕ → List ℕ
three row = take 3 (row ++ (0 ∷ []))

abbrev pub answer_numbers : Answered → List ℕ
answer_numbers r = r.code ∷ r.first ∷ r.second ∷ []

-- what `build` comes to in buffers as they are lent
abbrev pub build_outcome : List ℕ → List ℕ → List ℕ → List ℕ → Outcome
build_outcome text events lent_records lent_pieces = building text events (length lent_records) (length lent_pieces)

pub record Told (text events lent_records lent_pieces : List ℕ) (r : Answered) (records pieces : List ℕ) : Type 0 where
  pub answer : answer_numbers r ≡ three (table_row (build_outcome text events lent_records lent_pieces))
  pub all_records : records ≡ records_after (length lent_records) (build_outcome text events lent_records lent_pieces)
  pub all_pieces : pieces ≡ pieces_after (length lent_pieces) (build_outcome text events lent_records lent_pieces)

-- what `scalar` comes to
abbrev pub scalar_outcome : List ℕ → ℕ → ℕ → ℕ → Bool → List ℕ → List ℕ → Outcome
scalar_outcome text index column style empty_span value lent_pieces = scalar_call text (mark index column style empty_span) value (length lent_pieces)

pub record ToldScalar (text : List ℕ) (index column style : ℕ) (empty_span : Bool) (value lent_pieces : List ℕ) (r : AnsweredScalar) (pieces : List ℕ) : Type 0 where
  pub answer : answer_numbers r.answer ≡ three (table_row (scalar_outcome text index column style empty_span value lent_pieces))
  pub one_record : r.record ≡ node_numbers (record_of (scalar_outcome text index column style empty_span value lent_pieces))
  pub all_pieces : pieces ≡ pieces_after (length lent_pieces) (scalar_outcome text index column style empty_span value lent_pieces)

-- a call that counts, as two numbers
abbrev pub count_numbers : Counted → List ℕ
count_numbers r = r.code ∷ r.count ∷ []
