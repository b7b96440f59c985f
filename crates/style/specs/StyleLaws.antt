-- Styles and their numbers, there and back.
use Rattle.std.specs.Prelude.{ℕ, zero, suc, ◌≡◌, refl, ◌≤◌, ◌<◌, Some}
use Rattle.std.proofs.Common.{arith, ap, sym, ◌∙◌}
use Rattle.std.proofs.Math.Decide.{dec_lt}
use Rattle.std.proofs.lemmas.Bool.{ne_eqb}
use Rattle.style.specs.Style.{plain, single_quoted, double_quoted, literal, folded, style_number, style_numbered, style_of}
use Rattle.style.specs.declared.Style.{Style}
use Rattle.style.specs.declared.Style.TheVariants.{Plain, SingleQuoted, DoubleQuoted, Literal, Folded}

-- the styles by the numbers that an event has for them (E1); all else goes by their names
pub record StyleNumbers : Type 0 where
  pub flow : (plain ≡ 0) × (single_quoted ≡ 1) × (double_quoted ≡ 2)
  pub block : (literal ≡ 3) × (folded ≡ 4)

pub style_numbers : StyleNumbers
style_numbers = record { flow = (refl, refl, refl); block = (refl, refl) }

pub style_back : (style : Style) → style_of (style_number style) ≡ style
style_back Plain = refl
style_back SingleQuoted = refl
style_back DoubleQuoted = refl
style_back Literal = refl
style_back Folded = refl

pub number_back : (style : Style) → style_numbered (style_number style) ≡ Some style
number_back Plain = refl
number_back SingleQuoted = refl
number_back DoubleQuoted = refl
number_back Literal = refl
number_back Folded = refl

pub style_known : (style : Style) → style_number style ≤ folded
style_known Plain = omega arith
style_known SingleQuoted = omega arith
style_known DoubleQuoted = omega arith
style_known Literal = omega arith
style_known Folded = omega arith

-- a number up to 4 is its style's, and any other is read as a block
pub known_back : (n : ℕ) → n ≤ folded → style_number (style_of n) ≡ n
known_back zero h = refl
known_back (suc zero) h = refl
known_back (suc (suc zero)) h = refl
known_back (suc (suc (suc zero))) h = refl
known_back (suc (suc (suc (suc zero)))) h = refl
known_back (suc (suc (suc (suc (suc n))))) h = absurd (omega arith)

pub beyond_is_folded : (n : ℕ) → literal < n → style_of n ≡ Folded
beyond_is_folded n h =
    rw (
      ne_eqb n 0 (λ e. absurd (omega arith)),
      ne_eqb n 1 (λ e. absurd (omega arith)),
      ne_eqb n 2 (λ e. absurd (omega arith)),
      ne_eqb n 3 (λ e. absurd (omega arith)),
    )

-- what takes every number past 4 as it takes 4 takes every number as its style's
pub as_style : {A : Type 0} (f : ℕ → A) → ((n : ℕ) → folded < n → f n ≡ f folded) → (n : ℕ) → f n ≡ f (style_number (style_of n))
as_style f past n = go (dec_lt folded n)
  where
    go : Dec (folded < n) → f n ≡ f (style_number (style_of n))
    go (yes h) = past n h ∙ ap (λ s. f (style_number s)) (sym (beyond_is_folded n (omega arith)))
    go (no h) = ap f (sym (known_back n (omega arith)))
