-- The table of white space, which spells its ranges out, and the gaps that no range reaches into.
use Rattle.std.specs.Prelude.{◌≡◌, Bool, true, false, ◌&&◌, ◌||◌, List, [], ◌∷◌, ◌++◌, ℕ, zero, suc, ◌+◌, ◌-◌, ◌<◌, ◌≤◌, T, leb, eqb}
use Rattle.std.specs.List.{list_any}
use Rattle.std.proofs.Common.{refl, ◌∙◌, ap, arith, eq-eqb, ne_eqb, leb-true}
use Rattle.std.proofs.lemmas.List.Folds.{list_any-append}
use Rattle.std.proofs.Math.Decide.{dec_lt}
use lib.Dec.{leb→le}
use Rattle.utf8.specs.Class.{inside}
use Rattle.utf8.specs.Tests.{is_inside, below_inside, above_inside}
use Rattle.utf8.specs.WhiteSpace.{Range, white_space, is_in, is_white_space}
use Rattle.utf8.proofs.Table.{holds_left, holds_right}

-- ---- ranges spelt out

-- n numbers from a on
abbrev count_up : ℕ → ℕ → List ℕ
count_up a zero = []
count_up a (suc n) = a ∷ count_up (suc a) n

abbrev pub spelt : List Range → List ℕ
spelt [] = []
spelt (r ∷ rs) = count_up r.low (suc (r.high - r.low)) ++ spelt rs

abbrev ordered : List Range → Bool
ordered [] = true
ordered (r ∷ rs) = leb r.low r.high && ordered rs

-- some entry is c
abbrev member : List ℕ → ℕ → Bool
member ws c = list_any (λ w. eqb w c) ws

member_count : (a n c : ℕ) → member (count_up a (suc n)) c ≡ inside a (a + n) c
member_count a zero c = go (dec_lt a c) (dec_lt c a)
  where
    go : Dec (a < c) → Dec (c < a) → eqb a c || false ≡ inside a (a + 0) c
    go (yes p) q = let n : a ≡ c → ⊥ = (λ e. omega arith) in rw (ne_eqb a c n, above_inside a (a + 0) c (omega arith))
    go (no p) (yes q) = let n : a ≡ c → ⊥ = (λ e. omega arith) in rw (ne_eqb a c n, below_inside a (a + 0) c q)
    go (no p) (no q) = rw (eq-eqb a c (omega arith), is_inside a (a + 0) c (omega arith) (omega arith))
member_count a (suc n) c = ap (λ (b : Bool). eqb a c || b) (member_count (suc a) n c) ∙ go (dec_lt a c) (dec_lt c a) (dec_lt (a + suc n) c)
  where
    go : Dec (a < c) → Dec (c < a) → Dec (a + suc n < c) → eqb a c || inside (suc a) (suc a + n) c ≡ inside a (a + suc n) c
    go (yes p) q (yes r) =
        let d : a ≡ c → ⊥ = (λ e. omega arith) in
        rw (ne_eqb a c d, above_inside (suc a) (suc a + n) c (omega arith), above_inside a (a + suc n) c r)
    go (yes p) q (no r) =
        let d : a ≡ c → ⊥ = (λ e. omega arith) in
        rw (ne_eqb a c d, is_inside (suc a) (suc a + n) c p (omega arith), is_inside a (a + suc n) c (omega arith) (omega arith))
    go (no p) (yes q) r =
        let d : a ≡ c → ⊥ = (λ e. omega arith) in
        rw (ne_eqb a c d, below_inside (suc a) (suc a + n) c (omega arith), below_inside a (a + suc n) c q)
    go (no p) (no q) r = rw (eq-eqb a c (omega arith), is_inside a (a + suc n) c (omega arith) (omega arith))

member-spelt : (rs : List Range) (c : ℕ) → T (ordered rs) → member (spelt rs) c ≡ is_in rs c
unfolding is_in
member-spelt [] c t = refl
member-spelt (r ∷ rs) c t =
    let h = leb→le r.low r.high (holds_left (leb r.low r.high) (ordered rs) t) in
    let e : r.low + (r.high - r.low) ≡ r.high = omega arith in
    list_any-append (λ w. eqb w c) (count_up r.low (suc (r.high - r.low))) (spelt rs)
    ∙ rw (member_count r.low (r.high - r.low) c, e, member-spelt rs c (holds_right (leb r.low r.high) (ordered rs) t))

-- the table of white space is its ranges spelt out, so a search in it answers by them
pub white_space_found : (c : ℕ) → list_any (λ w. eqb w c) (spelt white_space) ≡ is_white_space c
unfolding white_space is_white_space
white_space_found c = member-spelt white_space c tt

pub blank_is : (c : ℕ) → c ≡ 0x20 → is_white_space c ≡ true
unfolding is_white_space is_in white_space
blank_is c e = rw e

-- from the tab to the carriage return all is white space
pub all_within : (c : ℕ) → 0x9 ≤ c → c ≤ 0xd → is_white_space c ≡ true
unfolding is_white_space is_in white_space
all_within c l h = rw (is_inside 0x9 0xd c l h)

-- and from U+2000 to U+200A
pub all_within_wide : (c : ℕ) → 0x2000 ≤ c → c ≤ 0x200a → is_white_space c ≡ true
unfolding is_white_space is_in white_space
all_within_wide c l h =
    rw (
      above_inside 0x9 0xd c (omega arith),
      above_inside 0x20 0x20 c (omega arith),
      above_inside 0x85 0x85 c (omega arith),
      above_inside 0xa0 0xa0 c (omega arith),
      above_inside 0x1680 0x1680 c (omega arith),
      is_inside 0x2000 0x200a c l h,
    )

-- ---- a gap that no range reaches into

abbrev apart : ℕ → ℕ → List Range → Bool
apart lo hi [] = true
apart lo hi (r ∷ rs) = (leb r.high lo || leb hi r.low) && apart lo hi rs

outside_range : (a b lo hi c : ℕ) → T (leb b lo || leb hi a) → lo < c → c < hi → inside a b c ≡ false
outside_range a b lo hi c t l h = go (leb b lo) refl t
  where
    go : (x : Bool) → leb b lo ≡ x → T (x || leb hi a) → inside a b c ≡ false
    go true e t = let k = leb-true b lo e in above_inside a b c (omega arith)
    go false e t = let k = leb→le hi a t in below_inside a b c (omega arith)

none_in_gap : (lo hi : ℕ) (rs : List Range) (c : ℕ) → T (apart lo hi rs) → lo < c → c < hi → is_in rs c ≡ false
unfolding is_in
none_in_gap lo hi [] c t l h = refl
none_in_gap lo hi (r ∷ rs) c t l h =
    rw (outside_range r.low r.high lo hi c (holds_left (leb r.high lo || leb hi r.low) (apart lo hi rs) t) l h)
    (none_in_gap lo hi rs c (holds_right (leb r.high lo || leb hi r.low) (apart lo hi rs) t) l h)

-- from U+000E to U+001F there is no white space
pub none_below : (c : ℕ) → 0xd < c → c < 0x20 → is_white_space c ≡ false
unfolding is_white_space white_space
none_below c l h = none_in_gap 0xd 0x20 white_space c tt l h

-- nor from U+0021 to U+0084
pub none_between : (c : ℕ) → 0x20 < c → c < 0x85 → is_white_space c ≡ false
unfolding is_white_space white_space
none_between c l h = none_in_gap 0x20 0x85 white_space c tt l h

-- nor from U+00A1 to U+167F
pub none_between_wide : (c : ℕ) → 0xa0 < c → c < 0x1680 → is_white_space c ≡ false
unfolding is_white_space white_space
none_between_wide c l h = none_in_gap 0xa0 0x1680 white_space c tt l h

-- nor past U+3000
pub none_past : (c : ℕ) → 0x3000 < c → is_white_space c ≡ false
unfolding is_white_space white_space
none_past c l = none_in_gap 0x3000 (suc c) white_space c tt l (omega arith)
