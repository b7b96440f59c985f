-- A scalar by any number for its style: it is measured as the style by which the number is read, so a number that no style has as a block.
use Rattle.std.specs.Prelude.{◌≡◌, refl, Bool, List, ℕ}
use Rattle.std.proofs.Common.{arith}
use Rattle.std.proofs.lemmas.Bool.{ne_eqb}
use Rattle.style.specs.Style.{style_number, style_of}
use Rattle.style.specs.StyleLaws.{as_style}
use Rattle.measure.specs.Scalar.{style_measure, scalar_measure}

pub any_number : (rest value : List ℕ) (n : ℕ) (empty : Bool) (column : ℕ)
    → scalar_measure rest value n empty column ≡ scalar_measure rest value (style_number (style_of n)) empty column
unfolding style_measure scalar_measure
any_number rest value n empty column =
    as_style (λ k. scalar_measure rest value k empty column)
    (λ k h. rw (ne_eqb k 0 (λ e. absurd (omega arith)), ne_eqb k 1 (λ e. absurd (omega arith)), ne_eqb k 2 (λ e. absurd (omega arith))) refl) n
