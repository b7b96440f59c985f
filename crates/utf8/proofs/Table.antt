-- A rule that holds of every number below a bound, by one test that antt computes; and by it the table of the bytes' classes.
use native.Mathlib.Omega.{arith}
use native.Mathlib.Decide.{dec_lt}
use mathlib.Core.Path.{◌≡◌, subst}
use mathlib.Core.Bool.{Bool, true, false, ◌&&◌}
use Prim.Native.Nat.{ℕ, zero, suc, ◌<◌}
use lib.Dec.{T, eqb, eqb→eq}
use lib.ListN.{get_or}
use Rattle.utf8.specs.Class.{class_of}
use Rattle.utf8.specs.ClassTable.{class_table, ClassesAre}

pub holds_left : (a b : Bool) → T (a && b) → T a
holds_left true b t = tt
holds_left false b t = t

pub holds_right : (a b : Bool) → T (a && b) → T b
holds_right true b t = t
holds_right false b t = absurd t

-- a test that passes at each number below n
abbrev pub all : ℕ → (ℕ → Bool) → Bool
all zero f = true
all (suc n) f = f n && all n f

pub all_at : (n : ℕ) (f : ℕ → Bool) → T (all n f) → (k : ℕ) → k < n → T (f k)
all_at zero f t k h = absurd (omega arith)
all_at (suc n) f t k h = go (dec_lt k n) (all_at n f (holds_right (f n) (all n f) t) k)
  where
    last : (k < n → ⊥) → n ≡ k
    last e = omega arith

    go : Dec (k < n) → (k < n → T (f k)) → T (f k)
    go (yes p) r = r p
    go (no p) r = subst (λ (m : ℕ). T (f m)) (last p) (holds_left (f n) (all n f) t)

pub classes_are : ClassesAre
unfolding class_of class_table
classes_are b h = eqb→eq (class_of b) (get_or class_table b 0) (all_at 256 (λ b. eqb (class_of b) (get_or class_table b 0)) tt b h)
