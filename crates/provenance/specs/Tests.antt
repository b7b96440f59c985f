-- Laws of tests and choices, and of the bytes of a list.
use Rattle.std.specs.Prelude.{◌≡◌, refl, Bool, true, false, ◌&&◌, cond, List, [], ◌∷◌, ℕ, zero, suc, ◌≤◌, ◌<◌, length, get_or}
use Rattle.std.proofs.Common.{arith}
use Rattle.utf8.specs.Tests.{by_order}

pub by_test : (P : Bool → Type 0) (t : Bool) → P true → P false → P t
by_test P true f g = f
by_test P false f g = g

pub by_answer : {X : Type 0} (t : Bool) → (t ≡ true → X) → (t ≡ false → X) → X
by_answer true f g = f refl
by_answer false f g = g refl

pub and_no : (t : Bool) → t && false ≡ false
and_no true = refl
and_no false = refl

-- what a choice that came out as t says of the question
pub cond_taken : {A : Type 0} (t : Bool) (x y w : A) → (y ≡ w → ⊥) → cond t x y ≡ w → (t ≡ true) × (x ≡ w)
cond_taken true x y w n h = (refl, h)
cond_taken false x y w n h = absurd (n h)

pub cond_other : {A : Type 0} (t : Bool) (x y w : A) → (x ≡ w → ⊥) → cond t x y ≡ w → (t ≡ false) × (y ≡ w)
cond_other true x y w n h = absurd (n h)
cond_other false x y w n h = (refl, h)

pub by_cond : {A X : Type 0} (t : Bool) (x y w : A) → cond t x y ≡ w → (x ≡ w → X) → (y ≡ w → X) → X
by_cond true x y w h f g = f h
by_cond false x y w h f g = g h

-- the byte past the end is 0
pub byte_past : (l : List ℕ) (i : ℕ) → length l ≤ i → get_or l i 0 ≡ 0
byte_past [] i h = refl
byte_past (x ∷ xs) zero h = absurd (omega arith)
byte_past (x ∷ xs) (suc i) h = byte_past xs i (omega arith)

-- a byte that is not 0 stands inside
pub byte_inside : (l : List ℕ) (i b : ℕ) → get_or l i 0 ≡ b → 0 < b → i < length l
byte_inside l i b e h = by_order i (length l) (λ lt. lt) (λ le. let z = byte_past l i le in absurd (omega arith))
