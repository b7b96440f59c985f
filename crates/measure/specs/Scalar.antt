-- How many bytes a scalar occupies: the measure of its style, then cut to the text left (S4). A block scalar on an empty span has
-- none (S7). Styles are numbers, 0 to 4; what is none of the first three is measured as a block. Each measure also says whether its
-- length was measured or assumed (02, (b)); a block's always was.
use Rattle.std.specs.Prelude.{ℕ, min, Bool, cond, List, eqb, length}
use Rattle.measure.specs.Length.{measured}
use Rattle.measure.specs.Plain.{plain_measure}
use Rattle.measure.specs.Quoted.{quoted_measure}
use Rattle.utf8.specs.Ascii.{single_quote, double_quote}
use Rattle.measure.specs.Block.{block_len}
use Rattle.measure.specs.declared.length.Measure.{Measure}
pub use Rattle.style.specs.Style.{plain, single_quoted, double_quoted, literal, folded}

-- a block: 0 on an empty span (S7)
unfoldable pub block_measure : List ℕ → Bool → ℕ → Measure
block_measure rest empty_span column = measured (cond empty_span 0 (block_len rest column))

-- before the cut: plain, single-quoted, double-quoted, or a block (S5 to S8)
unfoldable pub style_measure : List ℕ → List ℕ → ℕ → Bool → ℕ → Measure
style_measure rest value style empty_span column =
    cond (eqb style plain) (plain_measure rest value)
    (cond (eqb style single_quoted) (quoted_measure rest value single_quote)
    (cond (eqb style double_quoted) (quoted_measure rest value double_quote)
    (block_measure rest empty_span column)))

-- cut to n bytes; what was measured stays so
abbrev pub cut_to : ℕ → Measure → Measure
cut_to n m = record { len = min m.len n; measured = m.measured }

-- cut to the text left (S4)
unfoldable pub scalar_measure : List ℕ → List ℕ → ℕ → Bool → ℕ → Measure
scalar_measure rest value style empty_span column = cut_to (length rest) (style_measure rest value style empty_span column)

abbrev pub scalar_len : List ℕ → List ℕ → ℕ → Bool → ℕ → ℕ
scalar_len rest value style empty_span column = (scalar_measure rest value style empty_span column).len
