-- Chunks: what holds of the places before one and of those in it, and the parts of a list.
use Rattle.std.specs.Prelude.{◌≡◌, List, ℕ, ◌+◌, ◌-◌, ◌<◌, length, take, drop}
use Rattle.std.proofs.Common.{subst, arith, length-drop}
use Rattle.std.proofs.Math.Seq.{take_all}
use Rattle.utf8.specs.Tests.{by_order}

-- what the first i places have, and the n behind them
pub each_more : (P : ℕ → Type 0) (i n : ℕ) → ((j : ℕ) → j < i → P j) → ((j : ℕ) → j < n → P (i + j)) → (j : ℕ) → j < i + n → P j
each_more P i n f g j h = by_order j i (f j) (λ le. let e : i + (j - i) ≡ j = omega arith in subst P e (g (j - i) (omega arith)))

-- from a place on to the end
pub part_is : (l : List ℕ) (i : ℕ) → take (length l - i) (drop i l) ≡ drop i l
part_is l i = take_all (length l - i) (drop i l) (let e = length-drop i l in omega arith)
