-- What the code counts of a run in one pass, and how far its places go.
use Rattle.std.specs.Prelude.{ℕ, ◌+◌, min, Bool, ◌&&◌, cond, List, ltb, length}
use Rattle.text.specs.Admission.{text_limit}
use Rattle.provenance.specs.declared.run.Run.{Run}
use Rattle.provenance.specs.Run.{white_run, newlines_in, through_last}

-- an escape claims at most four bytes past the text's end
abbrev pub place_limit : ℕ
place_limit = text_limit + 4

-- the run that a source begins with, in numbers: its bytes, its newlines, the bytes up to and with the last of them
abbrev pub run_with : ℕ → ℕ → ℕ → Run
run_with n k m = record { len = n; newlines = k; last = m }

abbrev pub no_run : Run
no_run = run_with 0 0 0

abbrev pub run_numbers : List ℕ → Run
run_numbers run = run_with (length run) (newlines_in run) (through_last run)

unfoldable pub counted_run : List ℕ → Run
counted_run src = run_numbers (white_run src)

-- how many bytes of a run are left by the cut
unfoldable pub cut_len : Bool → ℕ → Run → ℕ
cut_len block column run = cond (block && ltb 0 column) (min (run.last + column) run.len) run.len
