-- How far the cursor travels (02, (k)): over a text that is not ASCII the distances between successive clamped indices, starting from 0;
-- an ASCII text does without the cursor. What a cursor does is told in Steps.antt.
use Rattle.std.specs.Prelude.{ℕ, ◌+◌, ◌-◌, Bool, true, false, cond, List, [], ◌∷◌, map, min, ltb, length, Result, Ok, Err}
use Rattle.utf8.specs.Characters.{codes}
use Rattle.text.specs.Admission.{admission, error_number}
use Rattle.text.specs.declared.admission.TextError.{TextError}
use Rattle.text.specs.declared.admission.TextError.TheVariants.{TooLong}

-- the most markers of a call
abbrev pub markers_limit : ℕ
markers_limit = 1_048_576

-- a marker's index in a text of so many characters: an index past the text stands for the text's end
abbrev pub clamped : ℕ → ℕ → ℕ
clamped chars marker = min chars marker

-- `-` stops at 0, so one of the two is 0
abbrev pub distance : ℕ → ℕ → ℕ
distance a b = (a - b) + (b - a)

-- from index k to the first of these, and so on to the last
unfoldable pub distances : ℕ → List ℕ → ℕ
distances k [] = 0
distances k (m ∷ ms) = distance k m + distances m ms

-- over a text that is admitted, ASCII or not; one that is not is refused so (R1, R2)
abbrev pub travel_of : List ℕ → List ℕ → Result Bool TextError → Result ℕ TextError
travel_of text markers (Ok true) = Ok 0
travel_of text markers (Ok false) = Ok (distances 0 (map (clamped (length (codes text))) markers))
travel_of text markers (Err e) = Err e

-- more markers than a call takes are refused as too long, before UTF-8 is looked at (RO)
unfoldable pub cursor_travel : List ℕ → List ℕ → Result ℕ TextError
cursor_travel text markers = cond (ltb markers_limit (length markers)) (Err TooLong) (travel_of text markers (admission text))

-- as numbers: 0 with the count, or the table's number with 0
abbrev pub counted : Result ℕ TextError → List ℕ
counted (Ok n) = 0 ∷ n ∷ []
counted (Err e) = error_number e ∷ 0 ∷ []
