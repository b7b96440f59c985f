-- Runs of bytes (W1: the walk's white space goes by bytes, never by code points). A run is the list of its bytes: the white space that
-- a source goes on with, and the blanks and newlines that a value goes on with.
use Rattle.std.specs.Prelude.{ℕ, suc, ◌+◌, Bool, true, ◌&&◌, cond, List, [], ◌∷◌, ltb, eqb, take}
use Rattle.utf8.specs.Class.{is_white_space_byte}
use Rattle.utf8.specs.Ascii.{newline}
use Rattle.measure.specs.Plain.{is_fold}

-- the white-space bytes that a source begins with
unfoldable pub white_run : List ℕ → List ℕ
white_run [] = []
white_run (b ∷ bs) = cond (is_white_space_byte b) (b ∷ white_run bs) []

unfoldable pub newlines_in : List ℕ → ℕ
newlines_in [] = 0
newlines_in (b ∷ bs) = cond (eqb b newline) (suc (newlines_in bs)) (newlines_in bs)

-- how many bytes go up to the last newline, it counted in; 0 where there is none
unfoldable pub through_last : List ℕ → ℕ
through_last [] = 0
through_last (b ∷ bs) = cond (eqb (through_last bs) 0) (cond (eqb b newline) 1 0) (suc (through_last bs))

-- a run as a block scalar takes it: with a column above 0, at most column bytes after its last newline
unfoldable pub cut : Bool → ℕ → List ℕ → List ℕ
cut block column run = cond (block && ltb 0 column) (take (through_last run + column) run) run

-- the blanks and newlines that a value begins with
unfoldable pub blank_run : List ℕ → List ℕ
blank_run [] = []
blank_run (b ∷ bs) = cond (is_fold b) (b ∷ blank_run bs) []

unfoldable pub only_newlines : List ℕ → Bool
only_newlines [] = true
only_newlines (b ∷ bs) = eqb b newline && only_newlines bs
