-- Where the walk of a plain scalar goes along with its measure. The measure goes by code points and the walk by bytes (W1), so they part
-- at white space of two or more bytes: of a run the walk sees only the ASCII characters before it. They part at a tab of the value too:
-- to the measure it is a character like any other, to the walk it begins a break, which takes nothing of the value. What holds of a
-- scalar that is measured is in `Measured`.
use Rattle.std.specs.Prelude.{ℕ, ◌+◌, Bool, true, not, ◌&&◌, ◌||◌, cond, List, [], ◌∷◌, ltb, eqb, length, drop, None, Option, Some}
use Rattle.utf8.specs.Ascii.{tab}
use Rattle.utf8.specs.Utf8.{is_ascii}
use Rattle.utf8.specs.WhiteSpace.{is_white_space}
use Rattle.measure.specs.Run.{white_space_run, after_run, holds_newline}
use Rattle.measure.specs.Plain.{begins_with, takes_run}
use Rattle.provenance.specs.declared.step.Step.{Step}
use Rattle.provenance.specs.Reading.{source_len, Piece}

-- the ASCII characters that a run begins with
unfoldable pub ascii_front : List ℕ → List ℕ
ascii_front [] = []
ascii_front (c ∷ cs) = cond (ltb c 0x80) (c ∷ ascii_front cs) []

-- how many bytes of a run the walk takes for the value's character c: its ASCII front, if that holds a newline; else c alone, if the
-- run begins with it; else none
unfoldable pub run_taken : ℕ → List ℕ → ℕ
run_taken c run = cond (holds_newline (ascii_front run)) (length (ascii_front run)) (cond (begins_with c run) 1 0)

-- whether the walk goes along over a run that the value's character c takes, before the characters cs: all of it is ASCII. At the value's
-- end it is enough that the walk takes something of it
unfoldable pub run_alike : ℕ → List ℕ → List ℕ → Bool
run_alike c [] run = ltb 0 (run_taken c run)
run_alike c (d ∷ cs) run = is_ascii run

-- whether it goes along over an equal character c: not over a tab where the ASCII white space from it on holds a newline
unfoldable pub equal_alike : ℕ → List ℕ → Bool
equal_alike c rest = not (eqb c tab && holds_newline (ascii_front (white_space_run rest)))

-- whether the walk goes along to the value's end: of the value's characters and the rest's, where the measure finds the value
unfoldable pub reads_alike : List ℕ → List ℕ → Bool
reads_alike [] rest = true
reads_alike (c ∷ cs) rest =
    cond (takes_run c rest) (run_alike c cs (white_space_run rest) && reads_alike cs (after_run rest))
    (equal_alike c rest && reads_alike cs (drop 1 rest))

-- how many bytes the walk takes past the span: what it takes of the run for the value's last character
unfoldable pub past_span : List ℕ → List ℕ → ℕ
past_span [] rest = 0
past_span (c ∷ []) rest = cond (takes_run c rest) (run_taken c (white_space_run rest)) 0
past_span (c ∷ d ∷ cs) rest = cond (takes_run c rest) (past_span (d ∷ cs) (after_run rest)) (past_span (d ∷ cs) (drop 1 rest))

-- how many source bytes steps take
unfoldable pub source_lens : List Step → ℕ
source_lens [] = 0
source_lens (t ∷ ts) = source_len t + source_lens ts

-- and a reading, if there is one
abbrev pub source_taken : Option (List Step) → Option ℕ
source_taken None = None
source_taken (Some ts) = Some (source_lens ts)

-- where pieces end that begin at the place `first` of the text
unfoldable pub pieces_end : ℕ → List Piece → ℕ
pieces_end first [] = first
pieces_end first (p ∷ ps) = pieces_end p.end ps

-- what is enough for it to go along: no tab in the value, and no white space of two or more bytes in the rest
unfoldable pub no_tabs : List ℕ → Bool
no_tabs [] = true
no_tabs (c ∷ cs) = not (eqb c tab) && no_tabs cs

unfoldable pub narrow_spaces : List ℕ → Bool
narrow_spaces [] = true
narrow_spaces (c ∷ cs) = (not (is_white_space c) || ltb c 0x80) && narrow_spaces cs
