-- What passes by windows is UTF-8: where no character goes on, one begins, and it lies whole within the bytes.
use mathlib.Core.Path.{◌≡◌, sym, ◌∙◌, ap, subst}
use mathlib.Core.Bool.{Bool, true, false}
use mathlib.Core.List.{List}
use mathlib.Core.Logic.{inl, inr}
use Prim.Native.Nat.{ℕ, zero, suc, ◌+◌, ◌-◌, ◌≤◌, ◌<◌}
use native.Mathlib.Decide.{dec_lt}
use native.Mathlib.Omega.{arith}
use borrow.Author.Tests.{lt-ltb, le-ltb, le-leb, lt-leb}
use lib.ListN.{length, drop, get_or}
use Rattle.utf8.specs.Characters.{character, code_of2, code_of3, code_of4, two_bytes, three_bytes, four_bytes, multi_byte, first_char, is_utf8}
use Rattle.utf8.proofs.Utf8Laws.{first_char_ascii, first_char_multi, utf8_on, utf8_end}
use Rattle.utf8.specs.Tests.{is_inside, below_inside, above_inside, clash}
use Rattle.utf8.specs.Class.{inside}
use Rattle.utf8.specs.declared.utf8.Char.{Char}
use Rattle.utf8.specs.Window.{awaits, BeginsCharacter, Follows, Fits, led, FitsAt, FirstFit}

-- ---- one character

two : (a b d e : ℕ) → 0xc2 ≤ a → a < 0xe0 → 0x80 ≤ b → b < 0xc0 → multi_byte a b d e ≡ character (code_of2 a b) 2
unfolding multi_byte two_bytes
two a b d e l h bl bh =
    rw (le-ltb a 0xc0 (omega arith), lt-ltb a 0xe0 h, is_inside 128 191 b bl (omega arith), le-leb 0x80 (code_of2 a b) (omega arith))

three : (a b d e : ℕ) → 0xe0 ≤ a → a < 0xf0 → 0x80 ≤ b → b < 0xc0 → 0x80 ≤ d → d < 0xc0 → Follows a b → multi_byte a b d e ≡ character (code_of3 a b d) 3
unfolding multi_byte three_bytes
three a b d e l h bl bh dl dh f =
    rw (
      le-ltb a 0xc0 (omega arith),
      le-ltb a 0xe0 l,
      lt-ltb a 0xf0 h,
      is_inside 128 191 b bl (omega arith),
      is_inside 128 191 d dl (omega arith),
      le-leb 0x800 (code_of3 a b d) (least (dec_lt 0xe0 a)),
      whole (dec_lt a 0xed) (dec_lt 0xed a),
    )
  where
    least : Dec (0xe0 < a) → 0x800 ≤ code_of3 a b d
    least (yes p) = omega arith
    least (no p) = let t = f.three (omega arith) in omega arith

    whole : Dec (a < 0xed) → Dec (0xed < a) → inside 0xd800 0xdfff (code_of3 a b d) ≡ false
    whole (yes p) q = below_inside 0xd800 0xdfff (code_of3 a b d) (omega arith)
    whole (no p) (yes q) = above_inside 0xd800 0xdfff (code_of3 a b d) (omega arith)
    whole (no p) (no q) = let t = f.whole (omega arith) in below_inside 0xd800 0xdfff (code_of3 a b d) (omega arith)

four : (a b d e : ℕ) → 0xf0 ≤ a → a < 0xf5 → 0x80 ≤ b → b < 0xc0 → 0x80 ≤ d → d < 0xc0 → 0x80 ≤ e → e < 0xc0 → Follows a b
    → multi_byte a b d e ≡ character (code_of4 a b d e) 4
unfolding multi_byte four_bytes
four a b d e l h bl bh dl dh el eh f =
    rw (
      le-ltb a 0xc0 (omega arith),
      le-ltb a 0xe0 (omega arith),
      le-ltb a 0xf0 l,
      lt-ltb a 0xf8 (omega arith),
      is_inside 128 191 b bl (omega arith),
      is_inside 128 191 d dl (omega arith),
      is_inside 128 191 e el (omega arith),
      is_inside 0x1_0000 0x10_ffff (code_of4 a b d e) (least (dec_lt 0xf0 a)) (most (dec_lt a 0xf4)),
    )
  where
    least : Dec (0xf0 < a) → 0x1_0000 ≤ code_of4 a b d e
    least (yes p) = omega arith
    least (no p) = let t = f.four (omega arith) in omega arith

    most : Dec (a < 0xf4) → code_of4 a b d e ≤ 0x10_ffff
    most (yes p) = omega arith
    most (no p) = let t = f.last (omega arith) in omega arith

-- ---- windows

-- no character goes on
record Clear (p q r : ℕ) : Type 0 where
  one : r < 0xc0
  two_before : q < 0xe0
  three_before : p < 0xf0

clear_false : (p q r : ℕ) → Clear p q r → awaits p q r ≡ false
clear_false p q r k = rw (lt-leb 0xc0 r k.one, lt-leb 0xe0 q k.two_before, lt-leb 0xf0 p k.three_before)

pub false_clear : (p q r : ℕ) → awaits p q r ≡ false → (r < 0xc0) × (q < 0xe0) × (p < 0xf0)
false_clear p q r e = go (dec_lt r 0xc0) (dec_lt q 0xe0) (dec_lt p 0xf0)
  where
    go : Dec (r < 0xc0) → Dec (q < 0xe0) → Dec (p < 0xf0) → (r < 0xc0) × (q < 0xe0) × (p < 0xf0)
    go (yes a) (yes b) (yes d) = (a, b, d)
    go (no a) b d = absurd (clash (rw (le-leb 0xc0 r (omega arith)) at e))
    go (yes a) (no b) d = absurd (clash (rw (lt-leb 0xc0 r a, le-leb 0xe0 q (omega arith)) at e))
    go (yes a) (yes b) (no d) = absurd (clash (rw (lt-leb 0xc0 r a, lt-leb 0xe0 q b, le-leb 0xf0 p (omega arith)) at e))

-- a byte that awaits more
after_one : (p q r : ℕ) → 0xc0 ≤ r → awaits p q r ≡ true
after_one p q r h = rw (le-leb 0xc0 r h)

after_two : (p q r : ℕ) → r < 0xc0 → 0xe0 ≤ q → awaits p q r ≡ true
after_two p q r l h = rw (lt-leb 0xc0 r l, le-leb 0xe0 q h)

after_three : (p q r : ℕ) → r < 0xc0 → q < 0xe0 → 0xf0 ≤ p → awaits p q r ≡ true
after_three p q r l m h = rw (lt-leb 0xc0 r l, lt-leb 0xe0 q m, le-leb 0xf0 p h)

-- ---- all of them

-- the byte at a place, counted with the three zeros
led_at : (s : List ℕ) (i : ℕ) → get_or (led s) (i + 3) 0 ≡ get_or s i 0
led_at s i = let e : i + 3 ≡ suc (suc (suc i)) = omega arith in ap (λ (k : ℕ). get_or (led s) k 0) e

pub led_back : (s : List ℕ) (i : ℕ) → 3 ≤ i → get_or (led s) i 0 ≡ get_or s (i - 3) 0
led_back s i h = let e : i ≡ i - 3 + 3 = omega arith in ap (λ (k : ℕ). get_or (led s) k 0) e ∙ led_at s (i - 3)

module _ (s : List ℕ) (all : (i : ℕ) → i < length s → FitsAt s i) where
  abbrev B : ℕ → ℕ
  B k = get_or (led s) k 0

  abbrev G : ℕ → ℕ
  G k = get_or s k 0

  bytes_equal : (m n : ℕ) → m ≡ n → B m ≡ B n
  bytes_equal m n e = ap (λ (k : ℕ). get_or (led s) k 0) e

  abbrev ClearAt : ℕ → Type 0
  ClearAt i = Clear (B i) (B (i + 1)) (B (i + 2))

  -- a character of n bytes stands at i
  on : (i n : ℕ) → 1 ≤ n → (first_char (drop i s)).len ≡ n → is_utf8 (drop (i + n) s) ≡ true → is_utf8 (drop i s) ≡ true
  on i n h e r = sym (utf8_on s i (omega arith)) ∙ ap (λ (k : ℕ). is_utf8 (drop (i + k) s)) e ∙ r

  -- the bytes after one that awaits them
  next : (i : ℕ) → i < length s → 0xc0 ≤ B (i + 2) → (0x80 ≤ G i) × (G i < 0xc0) × Follows (B (i + 2)) (G i)
  next i p h =
      let w = all i p in
      let t = after_one (B i) (B (i + 1)) (B (i + 2)) h in
      let e = led_at s i in
      (rw e at (w.continues t).0, rw e at (w.continues t).1, rw e at (w.follows t))

  next_two : (i : ℕ) → i < length s → B (i + 2) < 0xc0 → 0xe0 ≤ B (i + 1) → (0x80 ≤ G i) × (G i < 0xc0)
  next_two i p l h =
      let w = (all i p).continues (after_two (B i) (B (i + 1)) (B (i + 2)) l h) in
      let e = led_at s i in
      (rw e at w.0, rw e at w.1)

  next_three : (i : ℕ) → i < length s → B (i + 2) < 0xc0 → B (i + 1) < 0xe0 → 0xf0 ≤ B i → (0x80 ≤ G i) × (G i < 0xc0)
  next_three i p l m h =
      let w = (all i p).continues (after_three (B i) (B (i + 1)) (B (i + 2)) l m h) in
      let e = led_at s i in
      (rw e at w.0, rw e at w.1)

  -- where a character of one to four bytes ends, none goes on
  clear_1 : (i : ℕ) → ClearAt i → G i < 0x80 → ClearAt (i + 1)
  clear_1 i k h =
      let e₁ = bytes_equal (i + 1 + 1) (i + 2) (omega arith) in
      let e₂ = bytes_equal (i + 1 + 2) (i + 3) (omega arith) in
      let e₃ = led_at s i in
      record { one = omega arith; two_before = omega arith; three_before = omega arith }

  clear_2 : (i : ℕ) → ClearAt i → G i < 0xe0 → G (i + 1) < 0xc0 → ClearAt (i + 2)
  clear_2 i k h l =
      let e₁ = bytes_equal (i + 2 + 1) (i + 3) (omega arith) in
      let e₂ = bytes_equal (i + 2 + 2) (i + 1 + 3) (omega arith) in
      let e₃ = led_at s i in
      let e₄ = led_at s (i + 1) in
      record { one = omega arith; two_before = omega arith; three_before = omega arith }

  clear_3 : (i : ℕ) → G i < 0xf0 → G (i + 1) < 0xc0 → G (i + 2) < 0xc0 → ClearAt (i + 3)
  clear_3 i h l m =
      let e₁ = bytes_equal (i + 3 + 1) (i + 1 + 3) (omega arith) in
      let e₂ = bytes_equal (i + 3 + 2) (i + 2 + 3) (omega arith) in
      let e₃ = led_at s i in
      let e₄ = led_at s (i + 1) in
      let e₅ = led_at s (i + 2) in
      record { one = omega arith; two_before = omega arith; three_before = omega arith }

  clear_4 : (i : ℕ) → G (i + 1) < 0xc0 → G (i + 2) < 0xc0 → G (i + 3) < 0xc0 → ClearAt (i + 4)
  clear_4 i h l m =
      let e₁ = bytes_equal (i + 4) (i + 1 + 3) (omega arith) in
      let e₂ = bytes_equal (i + 4 + 1) (i + 2 + 3) (omega arith) in
      let e₃ = bytes_equal (i + 4 + 2) (i + 3 + 3) (omega arith) in
      let e₄ = led_at s (i + 1) in
      let e₅ = led_at s (i + 2) in
      let e₆ = led_at s (i + 3) in
      record { one = omega arith; two_before = omega arith; three_before = omega arith }

  module _ (end : awaits (B (length s)) (B (length s + 1)) (B (length s + 2)) ≡ false) where
    -- no character goes on past the end
    ended : (B (length s + 2) < 0xc0) × (B (length s + 1) < 0xe0) × (B (length s) < 0xf0)
    ended = false_clear (B (length s)) (B (length s + 1)) (B (length s + 2)) end

    not_last : (i j x : ℕ) → B j < x → x ≤ G i → j ≡ i + 3 → ⊥
    not_last i j x l h e = let same_byte = bytes_equal j (i + 3) e ∙ led_at s i in omega arith

    within_1 : (i : ℕ) → i < length s → 0xc0 ≤ G i → i + 1 < length s
    within_1 i p h = let n = not_last i (length s + 2) 0xc0 ended.0 h in omega arith

    within_2 : (i : ℕ) → i + 1 < length s → 0xe0 ≤ G i → i + 2 < length s
    within_2 i p h = let n = not_last i (length s + 1) 0xe0 ended.1 h in omega arith

    within_3 : (i : ℕ) → i + 2 < length s → 0xf0 ≤ G i → i + 3 < length s
    within_3 i p h = let n = not_last i (length s) 0xf0 ended.2 h in omega arith

    -- what follows the first byte of a longer character
    second : (i : ℕ) (p : i < length s) → 0xc0 ≤ G i → (0x80 ≤ G (i + 1)) × (G (i + 1) < 0xc0) × Follows (G i) (G (i + 1))
    second i p h =
        let e : B (i + 1 + 2) ≡ G i = bytes_equal (i + 1 + 2) (i + 3) (omega arith) ∙ led_at s i in
        let w = next (i + 1) (within_1 i p h) (omega arith) in
        (w.0, w.1, rw e at w.2)

    third : (i : ℕ) (p : i < length s) → 0xe0 ≤ G i → (0x80 ≤ G (i + 2)) × (G (i + 2) < 0xc0)
    third i p h =
        let e₁ : B (i + 2 + 1) ≡ G i = bytes_equal (i + 2 + 1) (i + 3) (omega arith) ∙ led_at s i in
        let e₂ : B (i + 2 + 2) ≡ G (i + 1) = bytes_equal (i + 2 + 2) (i + 1 + 3) (omega arith) ∙ led_at s (i + 1) in
        let w = second i p (omega arith) in
        next_two (i + 2) (within_2 i (within_1 i p (omega arith)) h) (omega arith) (omega arith)

    fourth : (i : ℕ) (p : i < length s) → 0xf0 ≤ G i → (0x80 ≤ G (i + 3)) × (G (i + 3) < 0xc0)
    fourth i p h =
        let e₁ : B (i + 3) ≡ G i = led_at s i in
        let e₂ : B (i + 3 + 1) ≡ G (i + 1) = bytes_equal (i + 3 + 1) (i + 1 + 3) (omega arith) ∙ led_at s (i + 1) in
        let e₃ : B (i + 3 + 2) ≡ G (i + 2) = bytes_equal (i + 3 + 2) (i + 2 + 3) (omega arith) ∙ led_at s (i + 2) in
        let w₁ = second i p (omega arith) in
        let w₂ = third i p (omega arith) in
        next_three (i + 3) (within_3 i (within_2 i (within_1 i p (omega arith)) (omega arith)) h) (omega arith) (omega arith) (omega arith)

    -- where no character goes on, the rest is UTF-8 if it is after one character
    clear_step : (i : ℕ) → ClearAt i → ((n : ℕ) → 1 ≤ n → ClearAt (i + n) → is_utf8 (drop (i + n) s) ≡ true) → is_utf8 (drop i s) ≡ true
    clear_step i k rest = go (dec_lt i (length s))
      where
        longer : i < length s → 0xc2 ≤ G i → G i < 0xf5 → Dec (G i < 0xe0) → Dec (G i < 0xf0) → is_utf8 (drop i s) ≡ true
        longer p l m (yes a) b =
            let w = second i p (omega arith) in
            let e = first_char_multi s i p (omega arith) ∙ two (G i) (G (i + 1)) _ _ l a w.0 w.1 in
            on i 2 (omega arith) (ap (λ (c : Char). c.len) e) (rest 2 (omega arith) (clear_2 i k a w.1))
        longer p l m (no a) (yes b) =
            let w = second i p (omega arith) in
            let x = third i p (omega arith) in
            let e = first_char_multi s i p (omega arith) ∙ three (G i) (G (i + 1)) (G (i + 2)) _ (omega arith) b w.0 w.1 x.0 x.1 w.2 in
            on i 3 (omega arith) (ap (λ (c : Char). c.len) e) (rest 3 (omega arith) (clear_3 i b w.1 x.1))
        longer p l m (no a) (no b) =
            let w = second i p (omega arith) in
            let x = third i p (omega arith) in
            let y = fourth i p (omega arith) in
            let e = first_char_multi s i p (omega arith) ∙ four (G i) (G (i + 1)) (G (i + 2)) (G (i + 3)) (omega arith) m w.0 w.1 x.0 x.1 y.0 y.1 w.2 in
            on i 4 (omega arith) (ap (λ (c : Char). c.len) e) (rest 4 (omega arith) (clear_4 i w.1 x.1 y.1))

        begun : i < length s → BeginsCharacter (G i) → is_utf8 (drop i s) ≡ true
        begun p (inl l) = on i 1 (omega arith) (ap (λ (c : Char). c.len) (first_char_ascii s i p l)) (rest 1 (omega arith) (clear_1 i k l))
        begun p (inr w) = longer p w.0 w.1 (dec_lt (G i) 0xe0) (dec_lt (G i) 0xf0)

        go : Dec (i < length s) → is_utf8 (drop i s) ≡ true
        go (no p) = utf8_end s i (omega arith)
        go (yes p) =
            let e = led_at s i in
            begun p (subst (λ (b : ℕ). BeginsCharacter b) e ((all i p).starts (clear_false (B i) (B (i + 1)) (B (i + 2)) k)))

    clear_utf8 : (fuel i : ℕ) → length s ≤ i + fuel → ClearAt i → is_utf8 (drop i s) ≡ true
    clear_utf8 zero i h k = utf8_end s i (omega arith)
    clear_utf8 (suc fuel) i h k = clear_step i k (λ n l c. clear_utf8 fuel (i + n) (omega arith) c)

    pub fit_utf8 : is_utf8 s ≡ true
    fit_utf8 = clear_utf8 (length s) 0 (omega arith) (record { one = omega arith; two_before = omega arith; three_before = omega arith })

-- ---- as the loop meets them

-- the bytes before a place past the third
module _ (s : List ℕ) (i : ℕ) (h : 3 ≤ i) where
  at_1 : get_or (led s) (i + 1) 0 ≡ get_or s (i - 2) 0
  at_1 = let e : i + 1 - 3 ≡ i - 2 = omega arith in led_back s (i + 1) (omega arith) ∙ ap (λ (k : ℕ). get_or s k 0) e

  at_2 : get_or (led s) (i + 2) 0 ≡ get_or s (i - 1) 0
  at_2 = let e : i + 2 - 3 ≡ i - 1 = omega arith in led_back s (i + 2) (omega arith) ∙ ap (λ (k : ℕ). get_or s k 0) e

  pub fits_at : Fits (get_or s (i - 3) 0) (get_or s (i - 2) 0) (get_or s (i - 1) 0) (get_or s i 0) → FitsAt s i
  fits_at f = rw (led_back s i h, at_1, at_2, led_at s i) f

  pub awaits_at : (x : Bool) → awaits (get_or s (i - 3) 0) (get_or s (i - 2) 0) (get_or s (i - 1) 0) ≡ x
      → awaits (get_or (led s) i 0) (get_or (led s) (i + 1) 0) (get_or (led s) (i + 2) 0) ≡ x
  awaits_at x e = rw (led_back s i h, at_1, at_2) e

fit_first : (s : List ℕ) → FirstFit s → (j : ℕ) → j < 3 → FitsAt s j
fit_first s w zero h = w.first
fit_first s w (suc zero) h = w.second
fit_first s w (suc (suc zero)) h = w.third
fit_first s w (suc (suc (suc j))) h = absurd (omega arith)

-- from the fourth byte on
pub met_more : (s : List ℕ) (i : ℕ) → ((j : ℕ) → 3 ≤ j → j < i → FitsAt s j) → FitsAt s i → (j : ℕ) → 3 ≤ j → j < i + 1 → FitsAt s j
met_more s i all f j l h = go (dec_lt j i)
  where
    go : Dec (j < i) → FitsAt s j
    go (yes p) = all j l p
    go (no p) = let e : i ≡ j = omega arith in subst (λ (k : ℕ). FitsAt s k) e f

pub all_met : (s : List ℕ) (i : ℕ) → length s ≤ i → FirstFit s → ((j : ℕ) → 3 ≤ j → j < i → FitsAt s j) → (j : ℕ) → j < length s → FitsAt s j
all_met s i l w all j h = go (dec_lt j 3)
  where
    go : Dec (j < 3) → FitsAt s j
    go (yes p) = fit_first s w j p
    go (no p) = all j (omega arith) (omega arith)
