-- What the code counts in one pass: a run, a line. The measures are told without it.
use Rattle.std.specs.Prelude.{ℕ, List, [], ◌∷◌}
use Rattle.measure.specs.Run.{bytes_of, white_space_run, holds_newline}
use Rattle.measure.specs.Block.{lines, trimmed_len}
use Rattle.measure.specs.declared.run.Run.{Run}
use Rattle.measure.specs.declared.block.Line.{Line}

-- the run that the characters begin with, in numbers
unfoldable pub run_of : List ℕ → Run
run_of cs = record { len = bytes_of (white_space_run cs); newline = holds_newline (white_space_run cs) }

-- the first of some lines
abbrev pub first_of : List (List ℕ) → List ℕ
first_of [] = []
first_of (l ∷ ls) = l

-- the first line in numbers: its leading white space, which is all of a blank line; up to its last character that is no white
-- space; and all of it
unfoldable pub line_of : List ℕ → Line
line_of cs =
    record {
      lead = bytes_of (white_space_run (first_of (lines cs)));
      trimmed = trimmed_len (first_of (lines cs));
      len = bytes_of (first_of (lines cs));
    }
