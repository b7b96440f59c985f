-- What is proved of the core schema, each theorem's type as a record; the proofs are in proofs/CoreSchema.antt, that of
-- `MatcherExact` in proofs/Derivative.antt.
use Rattle.std.specs.Prelude.{ℕ, ◌<◌, ◌≡◌, true, false, List, [], ◌∷◌, ℤ, length, get_or}
use Rattle.utf8.specs.Ascii.{Bytes}
use Rattle.schema.specs.Regex.{Regex, none, Matches}
use Rattle.schema.specs.Matcher.{accepts}
use Rattle.schema.specs.Rows.{decimal, number}
use Rattle.schema.specs.Integer.{Base, ten, eight, sixteen, in_range}
use Rattle.schema.specs.Standard.{null, Row, row, table, Meaning, integer, string, reads, standard}
use Rattle.schema.specs.CoreSchema.{limited, core_schema}
use Rattle.schema.specs.Kinds.{has_name, rows_of, read_as, core_real}
use Rattle.schema.specs.declared.plain.Resolved.TheVariants.{Integer, Real, Str}

-- the matcher accepts what the expression matches, and nothing else; so it need not be believed
pub record MatcherExact : Type 0 where
  pub sound : (s : List ℕ) (r : Regex) → accepts r s ≡ true → Matches r s
  pub complete : (s : List ℕ) (r : Regex) → Matches r s → accepts r s ≡ true

-- by `Matches`: m is what the first row that matches s reads, or a string where none does
pub data FirstRow : List Row → List ℕ → Meaning → Type 0 where
  no_row : {s : List ℕ} → FirstRow [] s string
  this_row : {r : Row} {rs : List Row} {s : List ℕ} → Matches r.expression s → FirstRow (r ∷ rs) s (reads r.kind s)
  later_row : {r : Row} {rs : List Row} {s : List ℕ} {m : Meaning} → (Matches r.expression s → ⊥) → FirstRow rs s m → FirstRow (r ∷ rs) s m

-- a row by its place, from 0 on
abbrev pub row_at : ℕ → Row
row_at k = get_or table k (row none null)

-- the decimal integer's row and the number's
abbrev pub decimal_place : ℕ
decimal_place = 3

abbrev pub number_place : ℕ
number_place = 6

-- no two rows match one scalar but the decimal integer's and the number's, and there the first lies inside the second; so
-- any row that matches tells what the scalar means, unless it is the number's and the scalar a digit run
pub record StandardSchema : Type 0 where
  pub first_row_decides : (s : List ℕ) → FirstRow table s (standard s)
  pub first_row_only : (s : List ℕ) (m : Meaning) → FirstRow table s m → m ≡ standard s
  pub rows_apart : (i j : ℕ) → i < j → j < length table → ((i ≡ decimal_place) × (j ≡ number_place) → ⊥) → (s : List ℕ) → Bytes s
      → Matches (row_at i).expression s → Matches (row_at j).expression s → ⊥
  pub decimal_is_number : (s : List ℕ) → Bytes s → Matches decimal s → Matches number s
  pub any_row_decides : (k : ℕ) → k < length table → (s : List ℕ) → Bytes s → Matches (row_at k).expression s
      → (k ≡ number_place → Matches decimal s → ⊥) → standard s ≡ reads (row_at k).kind s

-- the standard, but for the range; so what the first row reads that matches, but for the range
pub record CoreSchema : Type 0 where
  pub limited-standard : (s : List ℕ) → core_schema s ≡ limited (standard s)
  pub by_first_row : (s : List ℕ) (m : Meaning) → FirstRow table s m → core_schema s ≡ limited m
  pub in_range_lem : (base : Base) (z : ℤ) → in_range z ≡ true → limited (integer base z) ≡ Integer z
  pub decimal_beyond : (z : ℤ) → in_range z ≡ false → limited (integer ten z) ≡ Real
  pub octal_beyond : (z : ℤ) → in_range z ≡ false → limited (integer eight z) ≡ Str
  pub hexadecimal_beyond : (z : ℤ) → in_range z ≡ false → limited (integer sixteen z) ≡ Str

-- what a tag reads is what the first row of its kind reads that matches, and what any row of its kind reads that matches
pub record AnyOrder : Type 0 where
  pub first_of_kind : (name s : List ℕ) → FirstRow (rows_of (has_name name) table) s (read_as name s)
  pub any_of_kind : (name s : List ℕ) → Bytes s → (k : ℕ) → k < length table → has_name name (row_at k).kind ≡ true
      → Matches (row_at k).expression s → read_as name s ≡ reads (row_at k).kind s
  pub digit_run_is_real : (s : List ℕ) → Bytes s → Matches decimal s → core_real s ≡ true
