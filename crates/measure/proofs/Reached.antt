-- How far something reaches, told from further on: `at` bytes were passed, of which the first `end` count for certain, and what is
-- left reaches n bytes from here, 0 where it adds nothing.
use mathlib.Core.Path.{◌≡◌, refl}
use Prim.Native.Nat.{ℕ, zero, suc, ◌+◌, ◌<◌}
use native.Mathlib.Nat.{zero-add}
use native.Mathlib.Omega.{arith}

abbrev pub reached : ℕ → ℕ → ℕ → ℕ
reached at end zero = end
reached at end (suc n) = at + suc n

pub reached_start : (n : ℕ) → reached 0 0 n ≡ n
reached_start zero = refl
reached_start (suc n) = zero-add (suc n)

pub reached_more : (at end n : ℕ) → 0 < n → reached at end n ≡ at + n
reached_more at end zero h = absurd (omega arith)
reached_more at end (suc n) h = refl

-- k bytes further on, all of which count
pub reached_on : (at end k n : ℕ) → 0 < k → reached at end (k + n) ≡ reached (at + k) (at + k) n
reached_on at end k zero h = let e = reached_more at end (k + 0) (omega arith) in omega arith
reached_on at end k (suc n) h = let e = reached_more at end (k + suc n) (omega arith) in omega arith
