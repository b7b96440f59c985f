-- Numbers matched with a list, one after another: what is left of it, or none. Once a number differs, or the list has ended, all that follows
-- differs. How each answer is told in numbers is the oracle's: 0 for none; 1 for no and 2 for yes; one more than a record's number; otherwise
-- 1 and the numbers.
use Rattle.std.specs.Prelude.{ℕ, ◌+◌, Bool, true, false, ◌&&◌, if◌then◌else◌, List, [], ◌∷◌, leb, ltb, eqb, length, drop, Option, Some, None, option_and_then}
use Rattle.std.specs.Option.{option_map, option_copied}
use Rattle.records.specs.Record.{node_numbers}
use Rattle.records.specs.declared.record.Extent.{Extent}
use Rattle.records.specs.declared.record.Node.{Node}
use Rattle.records.specs.declared.record.PieceList.{PieceList}
use Rattle.records.specs.declared.record.TagInfo.{TagInfo}
use Rattle.node.specs.declared.entry.YamlHashEntry.{YamlHashEntry}
use Rattle.replay.specs.Case.{number}
use Rattle.replay_accessors.specs.declared.matched.Matcher.{Matcher}

-- none once a number differs; then what is left of the list, or none of it where its last number was cut off
abbrev pub Matched : Type 0
Matched = Option (Option (List ℕ))

-- what a matcher has come to
abbrev pub matched_of : Matcher → Matched
matched_of m = option_map option_copied m.rest

-- whether x is the number that comes first, whose bytes past the end are 0
abbrev pub stands_first : List ℕ → ℕ → Bool
stands_first rest x = ltb 0 (length rest) && eqb (number rest 0) x

-- what is left behind a number
abbrev pub behind_first : List ℕ → Option (List ℕ)
behind_first rest = if leb 4 (length rest) then Some (drop 4 rest) else None

abbrev pub match_first : ℕ → Option (List ℕ) → Matched
match_first x None = None
match_first x (Some rest) = if stands_first rest x then Some (behind_first rest) else None

-- x behind the numbers that were matched
unfoldable pub match_number : Matched → ℕ → Matched
match_number m x = option_and_then (match_first x) m

-- whether the whole list was matched, and no more
abbrev pub matched_whole : Matched → Bool
matched_whole (Some (Some rest)) = eqb (length rest) 0
matched_whole (Some None) = false
matched_whole None = false

-- some numbers behind them
abbrev pub match_all : Matched → List ℕ → Matched
match_all m [] = m
match_all m (x ∷ xs) = match_all (match_number m x) xs

-- ---- answers in numbers

-- 1 and the numbers, or 0
abbrev pub or_none : {A : Type 0} → (A → List ℕ) → Option A → List ℕ
or_none f None = 0 ∷ []
or_none f (Some a) = 1 ∷ f a

abbrev pub flag_numbers : Option Bool → List ℕ
flag_numbers None = 0 ∷ []
flag_numbers (Some false) = 1 ∷ []
flag_numbers (Some true) = 2 ∷ []

abbrev pub count_numbers : Option ℕ → List ℕ
count_numbers = or_none (λ (k : ℕ). k ∷ [])

abbrev pub span_numbers : Option Extent → List ℕ
span_numbers = or_none (λ (e : Extent). e.start ∷ e.end ∷ [])

abbrev pub tag_numbers : Option TagInfo → List ℕ
tag_numbers = or_none (λ (t : TagInfo). t.start ∷ t.end ∷ t.suffix ∷ t.len ∷ [])

abbrev pub piece_numbers : Option PieceList → List ℕ
piece_numbers = or_none (λ (l : PieceList). l.first ∷ l.count ∷ [])

abbrev pub record_numbers : Option Node → List ℕ
record_numbers = or_none node_numbers

-- ---- answers that hold a record's number, which a list of 32-bit numbers may have no room for

abbrev pub match_record : Matched → ℕ → Matched
match_record m n = if ltb n 0xffff_ffff then match_number m (n + 1) else None

abbrev pub match_place : Matched → Option ℕ → Matched
match_place m None = match_number m 0
match_place m (Some n) = match_record m n

abbrev pub match_entry : Matched → Option YamlHashEntry → Matched
match_entry m None = match_number m 0
match_entry m (Some e) =
    match_all (match_record (match_record m e.key) e.value)
    (e.key_span.start ∷ e.key_span.end ∷ e.value_span.start ∷ e.value_span.end ∷ e.entry_span.start ∷ e.entry_span.end ∷ [])
