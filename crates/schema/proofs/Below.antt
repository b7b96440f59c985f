-- Integers at most zero, each as the negative of a natural number (F8): what the operations on an i64 do to that number,
-- which `omega` reads; and when 64 signed bits hold it. One law for every base.
use mathlib.Core.Path.{◌≡◌, refl, sym, ◌∙◌, ap, ap₂, subst}
use mathlib.Core.Bool.{Bool, true, false, cond}
use Prim.Native.Nat.{ℕ, zero, suc, ◌+◌, ◌*◌, ◌^◌, ◌≤◌, ◌<◌}
use native.Mathlib.Nat.{zero-mul}
use native.Mathlib.Omega.{arith}
use native.Mathlib.Decide.{dec_le}
use lib.IntN.{ℤ, pos, neg_ℤ, ◌-ℤ◌, ◌*ℤ◌, neg_ℤ-+ℤ, neg_ℤ-neg_ℤ}
use lib.Signed.{mag}
use mir.Syntax.{w64}
use mir.Val.{SFits, to_z, of_z}
use mir.Facts.{to_z-of_z}
use borrow.Author.Tests.{le-ltb, lt-ltb}
use Rattle.schema.specs.Integer.{in_range, held}
use Rattle.std.specs.Prelude.{Option, Some, None, SomeIff}

neg_mul : (m k : ℕ) → neg_ℤ (pos m) *ℤ pos k ≡ neg_ℤ (pos (m * k))
neg_mul zero k = ap pos (zero-mul k) ∙ sym (ap (λ (n : ℕ). neg_ℤ (pos n)) (zero-mul k))
neg_mul (suc m) k = refl

neg_sub : (a b : ℕ) → neg_ℤ (pos a) -ℤ pos b ≡ neg_ℤ (pos (a + b))
neg_sub a b = sym (neg_ℤ-+ℤ (pos a) (pos b))

neg_mag : (m b : ℕ) → m ≤ b → 0 < b → mag (neg_ℤ (pos m)) < b
neg_mag zero b h p = p
neg_mag (suc m) b h p = h

neg_fits : (m : ℕ) → m ≤ 2 ^ 63 → SFits w64 (neg_ℤ (pos m))
neg_fits m h = record { sfits = neg_mag m (2 ^ 63) h (omega arith) }

-- z is -m. A record, so that z and m are inferred.
pub record Neg (z : ℤ) (m : ℕ) : Type 0 where
  pub is : z ≡ neg_ℤ (pos m)

pub neg : (m : ℕ) → Neg (neg_ℤ (pos m)) m
neg m = record { is = refl }

pub fits : {z : ℤ} {m : ℕ} → Neg z m → m ≤ 2 ^ 63 → SFits w64 z
fits {z} {m} e h = rw e.is (neg_fits m h)

-- a signed local, read back
pub back : {z : ℤ} {m : ℕ} → SFits w64 z → Neg z m → Neg (to_z w64 (of_z w64 z)) m
back f e = record { is = to_z-of_z f ∙ e.is }

pub pos_fits : {z : ℤ} {m : ℕ} → z ≡ pos m → m < 2 ^ 63 → SFits w64 z
pos_fits {z} {m} e h = rw e (record { sfits = h })

-- what a checked step gives, read back
pub checked : {y z : ℤ} {m : ℕ} → SFits w64 z × (y ≡ z) → Neg z m → Neg (to_z w64 (of_z w64 y)) m
checked {y} {z} {m} p e = rw p.1 (back p.0 e)

-- an unsigned number, made an i64 and read back
pub unsigned_back : {z : ℤ} {d : ℕ} → z ≡ pos d → d < 2 ^ 63 → to_z w64 (of_z w64 z) ≡ pos d
unsigned_back e h = to_z-of_z (pos_fits e h) ∙ e

-- what the number is, where 64 signed bits hold z, and where they do not
pub within : {z : ℤ} {m : ℕ} → Neg z m → SFits w64 z → m ≤ 2 ^ 63
within {z} {m} e f = at m (subst (SFits w64) e.is f)
  where
    at : (m : ℕ) → SFits w64 (neg_ℤ (pos m)) → m ≤ 2 ^ 63
    at zero f = omega arith
    at (suc m) f = f.sfits

pub out_of : {z : ℤ} {m : ℕ} → Neg z m → (SFits w64 z → ⊥) → 2 ^ 63 < m
out_of {z} {m} e n = go (dec_le m (2 ^ 63))
  where
    go : Dec (m ≤ 2 ^ 63) → 2 ^ 63 < m
    go (yes h) = absurd (n (fits e h))
    go (no k) = omega arith

-- the difference
pub less : {z y : ℤ} {m d : ℕ} → Neg z m → y ≡ pos d → Neg (z -ℤ y) (m + d)
less {z} {y} {m} {d} e f = record { is = ap₂ (λ (x w : ℤ). x -ℤ w) e.is f ∙ neg_sub m d }

-- the product with a base
pub times_by : {z y : ℤ} {m k : ℕ} → Neg z m → y ≡ pos k → Neg (z *ℤ y) (m * k)
times_by {z} {y} {m} {k} e f = record { is = ap₂ (λ (x w : ℤ). x *ℤ w) e.is f ∙ neg_mul m k }

-- ---- the range of 64 signed bits
neg_in : (m : ℕ) → m ≤ 2 ^ 63 → in_range (neg_ℤ (pos m)) ≡ true
unfolding in_range
neg_in zero h = lt-ltb 0 (2 ^ 63) (omega arith)
neg_in (suc m) h = lt-ltb m (2 ^ 63) (omega arith)

neg_out : (m : ℕ) → 2 ^ 63 < m → in_range (neg_ℤ (pos m)) ≡ false
unfolding in_range
neg_out zero h = absurd (omega arith)
neg_out (suc m) h = le-ltb m (2 ^ 63) (omega arith)

pub held_neg : {z : ℤ} {m : ℕ} → Neg z m → m ≤ 2 ^ 63 → Some z ≡ held (neg_ℤ (pos m))
unfolding held
held_neg {z} {m} e h = rw (neg_in m h) (ap Some e.is)

pub beyond_neg : (m : ℕ) → 2 ^ 63 < m → None ≡ held (neg_ℤ (pos m))
unfolding held
beyond_neg m h = rw (neg_out m h)

pub held_pos : {z : ℤ} {m : ℕ} → z ≡ pos m → m < 2 ^ 63 → Some z ≡ held (pos m)
unfolding held in_range
held_pos {z} {m} e h = rw (lt-ltb m (2 ^ 63) h) (ap Some e)

pub beyond_pos : (m : ℕ) → 2 ^ 63 ≤ m → None ≡ held (pos m)
unfolding held in_range
beyond_pos m h = rw (le-ltb m (2 ^ 63) h)

-- what an answer says
pub value_neg : (m : ℕ) (z : ℤ) → Some z ≡ held (neg_ℤ (pos m)) → Neg z m × (m ≤ 2 ^ 63)
unfolding held
value_neg m z e = go (dec_le m (2 ^ 63))
  where
    clash : Some z ≡ None → ⊥
    clash e = let x : ◌≡◌ {A = ℕ} 0 1 = cc in omega arith

    under_it : (m ≤ 2 ^ 63 → ⊥) → 2 ^ 63 < m
    under_it n = omega arith

    same_value : {y : ℤ} → Some z ≡ Some y → z ≡ y
    same_value p = cc

    go : Dec (m ≤ 2 ^ 63) → Neg z m × (m ≤ 2 ^ 63)
    go (yes h) = (record { is = same_value (e ∙ ap (λ (t : Bool). cond t (Some (neg_ℤ (pos m))) None) (neg_in m h)) }, h)
    go (no n) = absurd (clash (e ∙ ap (λ (t : Bool). cond t (Some (neg_ℤ (pos m))) None) (neg_out m (under_it n))))

pub nothing_neg : (m : ℕ) → None ≡ held (neg_ℤ (pos m)) → 2 ^ 63 < m
unfolding held
nothing_neg m e = go (dec_le m (2 ^ 63))
  where
    clash : None ≡ Some (neg_ℤ (pos m)) → ⊥
    clash e = let x : ◌≡◌ {A = ℕ} 0 1 = cc in omega arith

    go : Dec (m ≤ 2 ^ 63) → 2 ^ 63 < m
    go (yes h) = absurd (clash (e ∙ ap (λ (t : Bool). cond t (Some (neg_ℤ (pos m))) None) (neg_in m h)))
    go (no n) = omega arith

-- ---- turned about
pub negated : {z : ℤ} {m : ℕ} → Neg z m → neg_ℤ z ≡ pos m
negated {z} {m} e = ap neg_ℤ e.is ∙ neg_ℤ-neg_ℤ (pos m)

-- what a checked negation gives
pub turned_about : {z : ℤ} (m : ℕ) (r : Option ℤ) → z ≡ pos m → SomeIff r (SFits w64 z) z → r ≡ held (pos m)
turned_about m (Some y) e p = held_pos (p.1 ∙ e) (subst (SFits w64) e p.0).sfits
turned_about {z} m None e n = beyond_pos m (go (dec_le (2 ^ 63) m))
  where
    go : Dec (2 ^ 63 ≤ m) → 2 ^ 63 ≤ m
    go (yes h) = h
    go (no k) = absurd (n (pos_fits e (omega arith)))
