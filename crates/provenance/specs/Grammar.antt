-- The piece grammar (S11), from document 01 and without the walk: at a source place and a value place four steps are tried in turn,
-- and the first that fits is taken. A step looks at nothing before its places, so each is given the source and the value from there
-- on. Nothing is left of the source at its end and past it.
--
-- The escape table and the facts of the style are parameters.
use Rattle.std.specs.Prelude.{ℕ, Bool, ◌&&◌, ◌||◌, cond, Option, Some, None, option_map, List, [], ◌∷◌, ltb, eqb, length, take, drop, get_or}
use Rattle.std.specs.Option.{option_or}
use Rattle.utf8.specs.Ascii.{same_bytes, tab, newline, carriage_return}
use Rattle.utf8.specs.Class.{is_white_space_byte}
pub use Rattle.style.specs.Style.{is_block}
use Rattle.provenance.specs.declared.escape.Escape.{Escape}
use Rattle.provenance.specs.declared.step.Step.{Step}
use Rattle.provenance.specs.declared.step.Step.TheVariants.{Verbatim, Replacement}
use Rattle.provenance.specs.Run.{white_run, newlines_in, cut, blank_run, only_newlines}
use Rattle.measure.specs.Plain.{is_fold}
use Rattle.provenance.specs.Escape.{EscapeTable, escapes_of}

-- what a style decides: its escapes, whether it is a block, and the column, which only blocks look at
pub record Rules : Type 0 where
  pub escapes : EscapeTable
  pub block : Bool
  pub column : ℕ

-- what fits at two places: a step, or none
abbrev pub FittingStep : Type 0
FittingStep = Option Step

-- ---- step 1, a break

-- source bytes and content: verbatim if they are equal, else a replacement
abbrev pub paired : List ℕ → List ℕ → Step
paired xs ys = cond (same_bytes xs ys) (Verbatim (length xs)) (Replacement (length xs) (length ys))

-- a run, cut by the column, with at most one blank or newline of the value for each newline of the uncut run
unfoldable pub break_pair : Bool → ℕ → List ℕ → List ℕ → Step
break_pair block column run val = paired (cut block column run) (take (newlines_in run) (blank_run val))

abbrev pub break_over : Bool → ℕ → List ℕ → List ℕ → FittingStep
break_over block column run val = cond (ltb 0 (newlines_in run)) (Some (break_pair block column run val)) None

-- the source's byte: CR or newline in a block (W3), any white space elsewhere
abbrev pub starts_break : Bool → ℕ → Bool
starts_break block b = cond block (eqb b newline || eqb b carriage_return) (is_white_space_byte b)

-- with the value's byte: blank, newline or tab
abbrev pub is_break_byte : ℕ → Bool
is_break_byte c = is_fold c || eqb c tab

unfoldable pub opens_break : Bool → ℕ → ℕ → Bool
opens_break block b c = is_break_byte c && starts_break block b

unfoldable pub break_step : Rules → List ℕ → List ℕ → FittingStep
break_step r src val =
    cond (opens_break r.block (get_or src 0 0) (get_or val 0 0)) (break_over r.block r.column (white_run src) val) None

-- ---- step 2, an escape

abbrev pub as_step : Escape → Step
as_step e = Replacement e.source e.content

abbrev pub escape_step : Rules → List ℕ → FittingStep
escape_step r src = option_map as_step (r.escapes src)

-- ---- step 3, equal bytes

unfoldable pub equal_step : List ℕ → List ℕ → FittingStep
equal_step [] val = None
equal_step (x ∷ xs) [] = None
equal_step (x ∷ xs) (y ∷ ys) = cond (eqb x y) (Some (Verbatim 1)) None

-- ---- step 4, newlines that no source is left for

unfoldable pub end_step : List ℕ → List ℕ → FittingStep
end_step [] val = cond (only_newlines val) (Some (Replacement 0 (length val))) None
end_step (x ∷ xs) val = None

-- ---- the four in turn

unfoldable pub step : Rules → List ℕ → List ℕ → FittingStep
step r src val = option_or (break_step r src val) (option_or (escape_step r src) (option_or (equal_step src val) (end_step src val)))

-- at a source place and a value place
abbrev pub step_at : Rules → List ℕ → List ℕ → ℕ → ℕ → FittingStep
step_at r src val s v = step r (drop s src) (drop v val)

-- ---- the rules of a style, which is a number as in `measure`

abbrev pub rules_of : ℕ → ℕ → Rules
rules_of style column = record { escapes = escapes_of style; block = is_block style; column = column }
