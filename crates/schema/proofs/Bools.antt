-- Booleans: what a conjunction, a disjunction or a computed test says.
use mathlib.Core.Path.{◌≡◌, refl, sym}
use mathlib.Core.Bool.{Bool, true, false, ◌&&◌, ◌||◌, beq}
use lib.Dec.{T}
use Rattle.utf8.specs.Tests.{clash}

pub is_true : (b : Bool) → T b → b ≡ true
is_true true t = refl
is_true false t = absurd t

pub and_both : {a b : Bool} → a ≡ true → b ≡ true → a && b ≡ true
and_both {a} {b} p q = rw (p, q)

pub or_cases : {A : Type 0} (a b : Bool) → a || b ≡ true → (a ≡ true → A) → (b ≡ true → A) → A
or_cases true b e f g = f refl
or_cases false b e f g = g e

pub or_left : (a b : Bool) → a ≡ true → a || b ≡ true
or_left a b p = rw p

pub or_right : (a b : Bool) → b ≡ true → a || b ≡ true
or_right true b p = refl
or_right false b p = p

pub beq_is : (a b : Bool) → beq a b ≡ true → a ≡ b
beq_is true true e = refl
beq_is true false e = sym e
beq_is false true e = e
beq_is false false e = refl

abbrev pub implies : Bool → Bool → Bool
implies true b = b
implies false b = true

pub implied : (a b : Bool) → implies a b ≡ true → a ≡ true → b ≡ true
implied true b t e = t
implied false b t e = absurd (clash (sym e))
