-- Laws of tests and of their answers, for every crate.
use Rattle.std.specs.Prelude.{◌≡◌, refl, Bool, true, false, ◌&&◌, ◌||◌, ◌⊎◌, ℕ, ◌≤◌, ◌<◌, leb}
use Rattle.std.proofs.Common.{sym, ◌∙◌, inl, inr, lt_of_not-le, arith, le-leb, leb-true}
use Rattle.std.proofs.Math.Decide.{dec_le, dec_lt}
use Rattle.std.proofs.lemmas.Bool.{lt-leb}
use Rattle.utf8.specs.Class.{inside}

pub clash : true ≡ false → ⊥
clash e = let z : ◌≡◌ {A = ℕ} 0 1 = cc in omega arith

-- one order or the other
pub by_order : {X : Type 0} (a b : ℕ) → (a < b → X) → (b ≤ a → X) → X
by_order a b f g = elim (dec_le b a) [ yes h ↦ g h | no h ↦ f (lt_of_not-le h) ]

pub and_left : (a b : Bool) → a && b ≡ true → a ≡ true
and_left true b e = refl
and_left false b e = e

pub and_right : (a b : Bool) → a && b ≡ true → b ≡ true
and_right true b e = e
and_right false b e = absurd (clash (sym e))

pub and_both : (a b : Bool) → a && b ≡ true → (a ≡ true) × (b ≡ true)
and_both a b e = (and_left a b e, and_right a b e)

-- ---- tests joined by `||`, asked one after the other: the first that says yes is the answer r

pub or_yes : {r : Bool} (a b : Bool) → r ≡ a → r ≡ true → r ≡ a || b
or_yes true b e t = e
or_yes false b e t = absurd (clash (sym t ∙ e))

pub or_no : {p r : Bool} (a b : Bool) → p ≡ a → p ≡ false → r ≡ b → r ≡ a || b
or_no true b e t x = absurd (clash (sym e ∙ t))
or_no false b e t x = x

-- ---- between two bounds

pub inside_low : (lo hi b : ℕ) → inside lo hi b ≡ true → lo ≤ b
inside_low lo hi b e = leb-true lo b (and_left (leb lo b) (leb b hi) e)

pub inside_high : (lo hi b : ℕ) → inside lo hi b ≡ true → b ≤ hi
inside_high lo hi b e = leb-true b hi (and_right (leb lo b) (leb b hi) e)

pub is_inside : (lo hi b : ℕ) → lo ≤ b → b ≤ hi → inside lo hi b ≡ true
is_inside lo hi b l h = rw (le-leb lo b l, le-leb b hi h)

pub below_inside : (lo hi b : ℕ) → b < lo → inside lo hi b ≡ false
below_inside lo hi b h = rw (lt-leb lo b h)

pub above_inside : (lo hi b : ℕ) → hi < b → inside lo hi b ≡ false
above_inside lo hi b h = go (leb lo b)
  where
    go : (t : Bool) → t && leb b hi ≡ false
    go true = lt-leb b hi h
    go false = refl

pub outside : (lo hi b : ℕ) → inside lo hi b ≡ false → (b < lo) ⊎ (hi < b)
outside lo hi b e = go (dec_lt b lo) (dec_lt hi b)
  where
    go : Dec (b < lo) → Dec (hi < b) → (b < lo) ⊎ (hi < b)
    go (yes p) q = inl p
    go (no p) (yes q) = inr q
    go (no p) (no q) = absurd (clash (sym (is_inside lo hi b (omega arith) (omega arith)) ∙ e))
