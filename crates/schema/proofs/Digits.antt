-- Digit runs, a byte at a time from a place of a list.
use mathlib.Core.Path.{◌≡◌, refl, sym, ◌∙◌, ap, subst}
use mathlib.Core.Bool.{Bool, true, false, ◌&&◌, and-true}
use mathlib.Core.List.{List, [], ◌∷◌, ◌++◌}
use Prim.Native.Nat.{ℕ, ◌+◌, ◌*◌, ◌≤◌, ◌<◌}
use native.Mathlib.Nat.{le_trans, mul-le-mul_left, le-add_right, mul-one}
use native.Mathlib.Numerals.{add-one}
use native.Mathlib.Omega.{arith}
use borrow.Author.Tests.{eqb-true}
use denote.Bor.{Bor}
use lib.Dec.{eqb}
use lib.Pointwise.{pointwise}
use lib.IntN.{pos, neg_ℤ}
use lib.ListN.{length, take, drop, get_or, drop_of_length-le}
use Rattle.std.specs.Prelude.{Option, Some, None, MatchOption, unwrap_or}
use lib.Seq.{drop-cons}
use Rattle.utf8.specs.Tests.{clash, and_left}
use Rattle.schema.specs.Integer.{digit_value, positional, value_of, signed_value}

-- a digit more
pub one_more_lem : (base m : ℕ) (s : List ℕ) (i : ℕ) → i < length s
    → positional base m (drop i s) ≡ positional base (m * base + digit_value (get_or s i 0)) (drop (i + 1) s)
unfolding positional
one_more_lem base m s i h = rw (drop-cons s i 0, add-one)

-- no digit left
pub no_more : (base m : ℕ) (s : List ℕ) (i : ℕ) → length s ≤ i → positional base m (drop i s) ≡ m
unfolding positional
no_more base m s i h = ap (positional base m) (drop_of_length-le s h)

-- a number only grows with its digits
at_least : (m base : ℕ) → 0 < base → m ≤ m * base
at_least m base p = subst (λ (n : ℕ). n ≤ m * base) (mul-one m) (mul-le-mul_left m p)

pub grows : (base : ℕ) → 0 < base → (s : List ℕ) (m : ℕ) → m ≤ positional base m s
unfolding positional
grows base p [] m = omega arith
grows base p (b ∷ s) m = le_trans (le_trans (at_least m base p) (le-add_right (m * base) (digit_value b))) (grows base p s (m * base + digit_value b))

-- digits that already pass a limit
pub beyond : (base : ℕ) → 0 < base → (m : ℕ) (s : List ℕ) (i whole limit : ℕ) → i < length s → positional base m (drop i s) ≡ whole
    → limit < m * base + digit_value (get_or s i 0) → limit < whole
beyond base p m s i whole limit h e l =
    let step = one_more_lem base m s i h in
    let up = grows base p (drop (i + 1) s) (m * base + digit_value (get_or s i 0)) in
    omega (arith, step, up, e, l)

-- ---- a sign, or none
abbrev pub begins : ℕ → List ℕ → Bool
begins b s = pointwise eqb (take 1 s) (b ∷ [])

-- what follows the byte b, if the list begins with it
abbrev pub Stripped : ℕ → List ℕ → Option (Bor (List ℕ)) → Type 0
Stripped b s r =
    MatchOption r (begins b s ≡ false) (λ x. (begins b s ≡ true) × (x.now ≡ drop 1 s) × (length x.now + 1 ≡ length s))

pub after_minus : (s digits : List ℕ) → begins 45 s ≡ true → digits ≡ drop 1 s → neg_ℤ (pos (value_of 10 digits)) ≡ signed_value s
unfolding signed_value
after_minus [] digits h e = absurd (clash (sym h))
after_minus (b ∷ s) digits h e = rw (e, and_left (eqb b 45) true h)

after_plus : (s digits : List ℕ) → begins 43 s ≡ true → digits ≡ drop 1 s → pos (value_of 10 digits) ≡ signed_value s
unfolding signed_value
after_plus [] digits h e = absurd (clash (sym h))
after_plus (b ∷ s) digits h e = let k : b ≡ 43 = eqb-true b 43 (and_left (eqb b 43) true h) in rw (e, k)

no_sign : (s : List ℕ) → begins 45 s ≡ false → begins 43 s ≡ false → pos (value_of 10 s) ≡ signed_value s
unfolding signed_value positional
no_sign [] h k = refl
no_sign (b ∷ s) h k = rw (first h, first k)
  where
    first : {a : Bool} → a && true ≡ false → a ≡ false
    first {a} e = sym (and-true a) ∙ e

pub no_minus : (v digits : Bor (List ℕ)) (r : Option (Bor (List ℕ))) → begins 45 v.now ≡ false → Stripped 43 v.now r → digits ≡ unwrap_or r v
    → pos (value_of 10 digits.now) ≡ signed_value v.now
no_minus v digits (Some x) h p e = after_plus v.now digits.now p.0 (rw e p.1)
no_minus v digits None h p e = rw e (no_sign v.now h p)

-- ---- positional: the last digit counts itself, and those before it the base as often
pub last_digit : (base m : ℕ) (s : List ℕ) (b : ℕ) → positional base m (s ++ (b ∷ [])) ≡ positional base m s * base + digit_value b
unfolding positional
last_digit base m [] b = refl
last_digit base m (c ∷ s) b = last_digit base (m * base + digit_value c) s b
