-- The numbers of a list, from a place on.
use Rattle.std.proofs.Common.{◌≡◌, ℕ, ◌+◌, ◌-◌, ◌≤◌, ◌<◌, ◌&&◌, List, length, drop, get_or, leb, eqb, refl, arith, length-drop, drop_of_length-le, le-leb, eq-eqb, ne_eqb}
use Rattle.std.proofs.Math.Decide.{dec_lt}
use native.Mathlib.Numerals.{add-one}
use borrow.Author.Tests.{lt-leb}
use lib.Seq.{drop-cons}
use Rattle.replay.specs.Case.{number, same_numbers}

-- the number at a place of the buffer is compared with the first of the list, and those behind it with the rest
pub numbers_from : (ns s : List ℕ) (k : ℕ) → k < length ns → same_numbers (drop k ns) s ≡ (eqb (get_or ns k 0) (number s 0) && same_numbers (drop (k + 1) ns) (drop 4 s))
unfolding same_numbers
numbers_from ns s k h = rw (drop-cons ns k 0 h, add-one) refl

-- behind the buffer's last number the two are alike where the list ends too
pub numbers_end : (ns s : List ℕ) (k i : ℕ) → length ns ≤ k → same_numbers (drop k ns) (drop i s) ≡ leb (length s) i
unfolding same_numbers
numbers_end ns s k i h = rw (drop_of_length-le ns {i = k} h, length-drop i s) (go (dec_lt i (length s)))
  where
    go : Dec (i < length s) → eqb (length s - i) 0 ≡ leb (length s) i
    go (yes l) = let n : length s - i ≡ 0 → ⊥ = (λ e. omega arith) in rw (ne_eqb (length s - i) 0 n, lt-leb (length s) i l)
    go (no l) = let e : length s - i ≡ 0 = omega arith in rw (eq-eqb (length s - i) 0 e, le-leb (length s) i (omega arith))
