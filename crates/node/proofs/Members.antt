-- The members of a list by number.
use mathlib.Core.Path.{◌≡◌, refl, ap, ◌∙◌}
use mathlib.Core.List.{List, [], ◌∷◌, ◌++◌}
use Rattle.std.specs.Prelude.{None, Some, slice_get}
use Rattle.std.proofs.lemmas.Option.{none-some}
use Prim.Native.Nat.{ℕ, zero, suc, ◌+◌, ◌<◌, ◌≤◌}
use native.Mathlib.Omega.{arith}
use lib.ListN.{length}

module _ {A : Type 0} where
  pub member_left : (xs ys : List A) (n : ℕ) → n < length xs → slice_get (xs ++ ys) n ≡ slice_get xs n
  member_left [] ys n h = absurd (omega arith)
  member_left (x ∷ xs) ys zero h = refl
  member_left (x ∷ xs) ys (suc n) h = member_left xs ys n (omega arith)

  pub member_right : (xs ys : List A) (n : ℕ) → slice_get (xs ++ ys) (length xs + n) ≡ slice_get ys n
  member_right [] ys n = ap (slice_get ys) (omega arith)
  member_right (x ∷ xs) ys n = ap (slice_get (x ∷ (xs ++ ys))) (onward (length xs)) ∙ member_right xs ys n
    where
      onward : (m : ℕ) → suc m + n ≡ suc (m + n)
      onward m = omega arith

  pub member_past : (xs : List A) (n : ℕ) → length xs ≤ n → slice_get xs n ≡ None
  member_past [] n h = refl
  member_past (x ∷ xs) zero h = absurd (omega arith)
  member_past (x ∷ xs) (suc n) h = member_past xs n (omega arith)

  -- only a number within the list has a member
  pub member_within : (xs : List A) (n : ℕ) (x : A) → slice_get xs n ≡ Some x → n < length xs
  member_within [] n x e = absurd (none-some x e)
  member_within (y ∷ xs) zero x e = omega arith
  member_within (y ∷ xs) (suc n) x e = let r = member_within xs n x e in omega arith

  pub member_some : (xs : List A) (n : ℕ) → n < length xs → (x : A) × (slice_get xs n ≡ Some x)
  member_some [] n h = absurd (omega arith)
  member_some (y ∷ xs) zero h = (y, refl)
  member_some (y ∷ xs) (suc n) h = member_some xs n (omega arith)
