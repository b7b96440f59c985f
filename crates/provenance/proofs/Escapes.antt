-- Escapes, as the code tells them.
use Rattle.std.specs.List.{list_any}
use Rattle.std.specs.Char.{digit_value}
use Rattle.std.proofs.lemmas.Bool.Decides.{nat_tests}
use mathlib.Core.Path.{◌≡◌, refl, sym}
use mathlib.Core.Bool.{true, false}
use mathlib.Core.List.{List, [], ◌∷◌}
use Rattle.std.specs.Prelude.{Some, None}
use Prim.Native.Nat.{ℕ, ◌+◌, ◌*◌, ◌≤◌, ◌<◌}
use native.Mathlib.Numerals.{add-one}
use Rattle.std.proofs.Common.{arith}
use lib.ListN.{length, drop, get_or, drop_of_length-le}
use lib.Seq.{drop-cons}
use lib.Dec.{eqb}
use borrow.Author.Tests.{eq-eqb, ne_eqb, eqb-true, eqb-false}
use Rattle.provenance.specs.Tests.{by_answer}
use Rattle.utf8.specs.Class.{is_hex_digit}
use Rattle.provenance.specs.Escape.{hex_value, digits_from, digits, is_one_of}

-- ---- a search

-- by std's word
pub is_one_of_is : (l : List ℕ) (c : ℕ) → is_one_of l c ≡ list_any (λ b. eqb b c) l
unfolding is_one_of
is_one_of_is [] c = refl
is_one_of_is (b ∷ bs) c = by_answer (eqb b c) (λ e. rw (e, eq-eqb c b (sym (eqb-true b c e)))) (λ e. rw (e, ne_eqb c b (λ h. eqb-false b c e (sym h))) (is_one_of_is bs c))

-- ---- digits, as `char::to_digit` reads them

pub digit_read : (b : ℕ) → digit_value b < 16 → (is_hex_digit b ≡ true) × (hex_value b ≡ digit_value b)
digit_read b h = (grind (arith, nat_tests), grind (arith, nat_tests))

pub digit_not_read : (b : ℕ) → (digit_value b < 16 → ⊥) → is_hex_digit b ≡ false
digit_not_read b h = grind (arith, nat_tests)

pub digits_more : (l : List ℕ) (i n : ℕ) → i < length l → digit_value (get_or l i 0) < 16 → digits_from n (drop i l) ≡ digits_from (n * 16 + digit_value (get_or l i 0)) (drop (i + 1) l)
unfolding digits_from
digits_more l i n h e = let r = digit_read (get_or l i 0) e in rw (add-one i, drop-cons l i 0 h, r.0, r.1)

pub digits_bad : (l : List ℕ) (i n : ℕ) → i < length l → (digit_value (get_or l i 0) < 16 → ⊥) → digits_from n (drop i l) ≡ None
unfolding digits_from
digits_bad l i n h e = rw (drop-cons l i 0 h, digit_not_read (get_or l i 0) e)

pub digits_end : (l : List ℕ) (i n : ℕ) → length l ≤ i → digits_from n (drop i l) ≡ Some n
unfolding digits_from
digits_end l i n h = rw (drop_of_length-le l h)

pub digits_none : (l : List ℕ) → length l ≡ 0 → digits l ≡ None
unfolding digits
digits_none [] h = refl
digits_none (b ∷ bs) h = absurd (omega arith)

pub digits_some : (l : List ℕ) → 0 < length l → digits_from 0 l ≡ digits l
unfolding digits
digits_some [] h = absurd (omega arith)
digits_some (b ∷ bs) h = refl
