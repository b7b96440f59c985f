-- Where the walk of a scalar starts (S14), and the scalar's piece list, if it has one. `start` is the scalar's start in the text and
-- `len` the length of its span. The walk gets the rest of the text from its first byte on (F3).
use Rattle.std.specs.Prelude.{ℕ, suc, ◌+◌, Bool, ◌&&◌, ◌||◌, cond, List, [], ◌∷◌, ltb, eqb, length, drop, get_or, None, Option}
use Rattle.utf8.specs.Boundary.{is_boundary}
use Rattle.measure.specs.Scalar.{single_quoted, double_quoted}
use Rattle.provenance.specs.Run.{only_newlines}
use Rattle.utf8.specs.Ascii.{newline}
use Rattle.provenance.specs.Grammar.{Rules, is_block, rules_of}
use Rattle.provenance.specs.Reading.{Piece, reading_of}
use Rattle.provenance.specs.Layout.{pieces_if}

abbrev pub is_quoted : ℕ → Bool
is_quoted style = eqb style single_quoted || eqb style double_quoted

-- the bytes `|` and `>`
abbrev pub is_header : ℕ → Bool
is_header b = eqb b 124 || eqb b 62

-- `rest` is the text from the scalar's start on
unfoldable pub at_empty_block_header : List ℕ → List ℕ → Bool
at_empty_block_header rest value = is_header (get_or rest 0 0) && only_newlines value

-- how many bytes stand before the first newline; all of them where there is none
unfoldable pub before_newline : List ℕ → ℕ
before_newline [] = 0
before_newline (b ∷ bs) = cond (eqb b newline) 0 (suc (before_newline bs))

-- the header line's newline, or the span's end if there is none
unfoldable pub header_end : List ℕ → ℕ → ℕ
header_end rest len = cond (ltb (before_newline rest) (length rest)) (before_newline rest) len

unfoldable pub walk_start : List ℕ → ℕ → ℕ → List ℕ → ℕ → ℕ
walk_start text start len value style =
    cond (is_quoted style) (start + 1)
    (cond (is_block style && at_empty_block_header (drop start text) value) (start + header_end (drop start text) len)
    start)

-- the piece list of a walk over the text from `first` on: none if that is past the text or inside a character, or without a reading
unfoldable pub list_from : Rules → List ℕ → ℕ → List ℕ → Option (List Piece)
list_from r text first value = cond (is_boundary text first) (pieces_if first (reading_of r (drop first text) value)) None

unfoldable pub scalar_list : List ℕ → ℕ → ℕ → List ℕ → ℕ → ℕ → Option (List Piece)
scalar_list text start len value style column = list_from (rules_of style column) text (walk_start text start len value style) value
