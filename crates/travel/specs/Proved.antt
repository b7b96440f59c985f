-- What is proved of the cursor's travel: the types of the theorems in proofs/CountLaws.antt, and of `moves_by_one` (proofs/StepLaws.antt).
use Rattle.std.specs.Prelude.{ℕ, ◌+◌, ◌^◌, ◌<◌, ◌≤◌, ◌≡◌, true, false, List, [], ◌∷◌, map, length}
use Rattle.utf8.specs.Utf8.{Utf8, is_ascii}
use Rattle.utf8.specs.Characters.{codes}
use Rattle.text.specs.Offset.{byte_offset}
use Rattle.text.specs.declared.offset.Cursor.{Cursor}
use Rattle.travel.specs.Travel.{clamped, cursor_travel, counted}
use Rattle.travel.specs.Steps.{start, Travels, steps}

-- from k on no index is below the one before it
abbrev pub NeverFall : ℕ → List ℕ → Type 0
NeverFall k [] = Unit {0}
NeverFall k (m ∷ ms) = (k ≤ m) × NeverFall m ms

-- of the count: where the text is not ASCII, the cursor can visit the markers by single steps, and however it does, it takes so many
pub record CountSays (text markers : List ℕ) (count : ℕ) : Type 0 where
  pub ascii : is_ascii text ≡ true → count ≡ 0
  pub way : is_ascii text ≡ false → (ways : List (List Cursor)) × Travels text start markers ways
  pub every_way : is_ascii text ≡ false → (ways : List (List Cursor)) → Travels text start markers ways → steps ways ≡ count
  pub never_fall : NeverFall 0 (map (clamped (length (codes text))) markers) → count ≤ length (codes text)
  pub most : count ≤ 2 ^ 40

-- by the two numbers that the exported call answers
abbrev pub EveryCount : Type 0
EveryCount = (text markers : List ℕ) (count : ℕ) → counted (cursor_travel text markers) ≡ 0 ∷ count ∷ [] → CountSays text markers count

-- which of the three answers it is, in these numbers
pub record Answers (text markers : List ℕ) : Type 0 where
  pub long_text : 1_048_576 < length text → counted (cursor_travel text markers) ≡ 1 ∷ 0 ∷ []
  pub many_markers : 1_048_576 < length markers → counted (cursor_travel text markers) ≡ 1 ∷ 0 ∷ []
  pub no_utf8 : length text ≤ 1_048_576 → length markers ≤ 1_048_576 → (Utf8 text → ⊥) → counted (cursor_travel text markers) ≡ 2 ∷ 0 ∷ []
  pub admitted : length text ≤ 1_048_576 → length markers ≤ 1_048_576 → Utf8 text → (count : ℕ) × (counted (cursor_travel text markers) ≡ 0 ∷ count ∷ [])

abbrev pub EveryAnswer : Type 0
EveryAnswer = (text markers : List ℕ) → Answers text markers

-- a marker that moves by one: its byte offset moves by one to four bytes, and by none only at the end
pub record MovesByOne (text : List ℕ) (marker : ℕ) : Type 0 where
  pub most : byte_offset text (marker + 1) ≤ byte_offset text marker + 4
  pub least : marker < length (codes text) → byte_offset text marker + 1 ≤ byte_offset text (marker + 1)
  pub at_end : length (codes text) ≤ marker → (byte_offset text marker ≡ length text) × (byte_offset text (marker + 1) ≡ length text)

abbrev pub EveryMarker : Type 0
EveryMarker = (text : List ℕ) → Utf8 text → (marker : ℕ) → MovesByOne text marker
