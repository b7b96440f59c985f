-- Tests over lists that antt computes, and what they say of each entry.
use mathlib.Core.Path.{◌≡◌, refl, sym, ap, ap₂}
use mathlib.Core.Bool.{Bool, true, false, ◌&&◌, ◌||◌}
use mathlib.Core.List.{List, [], ◌∷◌}
use Prim.Native.Nat.{ℕ, zero, suc, ◌+◌, ◌<◌}
use native.Mathlib.Nat.{add-zero, add-suc, suc-add, zero-add, le_of_suc-le-suc, not-suc-le-zero}
use native.Mathlib.Omega.{arith}
use lib.ListN.{length, get_or}
use Rattle.utf8.specs.Tests.{clash, and_left, and_right}

module _ {A : Type 0} (f : A → Bool) where
  -- each entry passes
  abbrev pub every : List A → Bool
  every [] = true
  every (x ∷ xs) = f x && every xs

  pub every_at : (d : A) (xs : List A) → every xs ≡ true → (k : ℕ) → k < length xs → f (get_or xs k d) ≡ true
  every_at d [] e k h = absurd (not-suc-le-zero h)
  every_at d (x ∷ xs) e zero h = and_left (f x) (every xs) e
  every_at d (x ∷ xs) e (suc k) h = every_at d xs (and_right (f x) (every xs) e) k (le_of_suc-le-suc h)

  -- some entry passes
  abbrev pub any_entry : List A → Bool
  any_entry [] = false
  any_entry (x ∷ xs) = f x || any_entry xs

  pub record Found (d : A) (xs : List A) : Type 0 where
    pub at : ℕ
    pub low : at < length xs
    pub is : f (get_or xs at d) ≡ true

  next_found : (d x : A) (xs : List A) → Found d xs → Found d (x ∷ xs)
  next_found d x xs p = let h = p.low in record { at = suc p.at; low = omega arith; is = p.is }

  this_or : (d x : A) (xs : List A) (b : Bool) → f x ≡ b → b || any_entry xs ≡ true → (any_entry xs ≡ true → Found d xs) → Found d (x ∷ xs)
  this_or d x xs true h e g = record { at = 0; low = omega arith; is = h }
  this_or d x xs false h e g = next_found d x xs (g e)

  pub found : (d : A) (xs : List A) → any_entry xs ≡ true → Found d xs
  found d [] e = absurd (clash (sym e))
  found d (x ∷ xs) e = this_or d x xs (f x) refl e (found d xs)

module _ {A : Type 0} (f : ℕ → A → Bool) where
  -- each entry passes with its place, counted from i
  abbrev pub placed : ℕ → List A → Bool
  placed i [] = true
  placed i (x ∷ xs) = f i x && placed (suc i) xs

  pub placed_at : (d : A) (i : ℕ) (xs : List A) → placed i xs ≡ true → (k : ℕ) → k < length xs → f (i + k) (get_or xs k d) ≡ true
  placed_at d i [] e k h = absurd (not-suc-le-zero h)
  placed_at d i (x ∷ xs) e zero h = rw (add-zero i) (and_left (f i x) (placed (suc i) xs) e)
  placed_at d i (x ∷ xs) e (suc k) h =
      rw (add-suc i k, ← suc-add i k) (placed_at d (suc i) xs (and_right (f i x) (placed (suc i) xs) e) k (le_of_suc-le-suc h))

module _ {A B : Type 0} (f : A → B → Bool) where
  -- two lists of one length, and each entry passes with the other's
  abbrev pub pairwise : List A → List B → Bool
  pairwise [] [] = true
  pairwise [] (y ∷ ys) = false
  pairwise (x ∷ xs) [] = false
  pairwise (x ∷ xs) (y ∷ ys) = f x y && pairwise xs ys

  pub pairwise-length : (xs : List A) (ys : List B) → pairwise xs ys ≡ true → length xs ≡ length ys
  pairwise-length [] [] e = refl
  pairwise-length [] (y ∷ ys) e = absurd (clash (sym e))
  pairwise-length (x ∷ xs) [] e = absurd (clash (sym e))
  pairwise-length (x ∷ xs) (y ∷ ys) e = ap suc (pairwise-length xs ys (and_right (f x y) (pairwise xs ys) e))

  pub pairwise_at : (c : A) (d : B) (xs : List A) (ys : List B) → pairwise xs ys ≡ true → (k : ℕ) → k < length xs
      → f (get_or xs k c) (get_or ys k d) ≡ true
  pairwise_at c d [] ys e k h = absurd (not-suc-le-zero h)
  pairwise_at c d (x ∷ xs) [] e k h = absurd (clash (sym e))
  pairwise_at c d (x ∷ xs) (y ∷ ys) e zero h = and_left (f x y) (pairwise xs ys) e
  pairwise_at c d (x ∷ xs) (y ∷ ys) e (suc k) h = pairwise_at c d xs ys (and_right (f x y) (pairwise xs ys) e) k (le_of_suc-le-suc h)

pub placed_from_0 : {A : Type 0} (f : ℕ → A → Bool) (d : A) (xs : List A) → placed f 0 xs ≡ true → (k : ℕ) → k < length xs → f k (get_or xs k d) ≡ true
placed_from_0 f d xs e k h = rw (zero-add k) at (placed_at f d 0 xs e k h)

-- entries that are equal make equal lists
pub pairwise_same : {A : Type 0} (f : A → A → Bool) → ((x y : A) → f x y ≡ true → x ≡ y) → (xs ys : List A) → pairwise f xs ys ≡ true → xs ≡ ys
pairwise_same f s [] [] e = refl
pairwise_same f s [] (y ∷ ys) e = absurd (clash (sym e))
pairwise_same f s (x ∷ xs) [] e = absurd (clash (sym e))
pairwise_same {A} f s (x ∷ xs) (y ∷ ys) e =
    ap₂ {A = A} ◌∷◌ (s x y (and_left (f x y) (pairwise f xs ys) e)) (pairwise_same f s xs ys (and_right (f x y) (pairwise f xs ys) e))
