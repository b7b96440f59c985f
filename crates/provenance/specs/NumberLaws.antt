-- A style's number: one that no style has goes as a block, as the style that `style_of` takes it for.
use Rattle.std.specs.Prelude.{◌≡◌, List, ℕ}
use mathlib.Core.Path.{fun_ext}
use Rattle.std.proofs.Common.{refl, arith}
use Rattle.std.proofs.lemmas.Bool.{ne_eqb, le-leb}
use Rattle.style.specs.Style.{literal, folded, style_number, style_of}
use Rattle.style.specs.StyleLaws.{as_style}
use Rattle.provenance.specs.Escape.{escapes_of}
use Rattle.provenance.specs.Grammar.{rules_of}
use Rattle.provenance.specs.Start.{walk_start}

pub any_number : (n column : ℕ) → rules_of n column ≡ rules_of (style_number (style_of n)) column
unfolding escapes_of
any_number n column =
    as_style (λ k. rules_of k column)
    (λ k lt.
    let none : escapes_of k ≡ escapes_of folded = fun_ext (λ src. rw (ne_eqb k 1 (λ e. absurd (omega arith)), ne_eqb k 2 (λ e. absurd (omega arith))) refl) in
    rw (none, le-leb literal k (omega arith)) refl) n

pub any_number_starts : (text : List ℕ) (start len : ℕ) (value : List ℕ) (n : ℕ)
    → walk_start text start len value n ≡ walk_start text start len value (style_number (style_of n))
unfolding walk_start
any_number_starts text start len value n =
    as_style (walk_start text start len value)
    (λ k lt. rw (ne_eqb k 1 (λ e. absurd (omega arith)), ne_eqb k 2 (λ e. absurd (omega arith)), le-leb literal k (omega arith)) refl) n
