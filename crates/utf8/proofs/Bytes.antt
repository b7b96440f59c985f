-- The bytes of one character, both ways: what `encode` writes, `first_char` reads, and what `first_char` reads, `encode` writes.
-- Only `Utf8Laws` looks in here.
use Rattle.std.specs.Prelude.{◌≡◌, refl, Bool, true, false, not, ◌&&◌, cond, List, [], ◌∷◌, ◌++◌, ◌⊎◌, ℕ, ◌+◌, ◌-◌, ◌*◌, ◌/◌, ◌%◌, ◌≤◌, ◌<◌, ltb, leb, length, get_or}
use Rattle.std.proofs.Common.{sym, ◌∙◌, ap, inl, inr, arith, lt-ltb, le-ltb, le-leb, ltb-true, ltb-false, leb-true}
use Rattle.std.proofs.Math.Decide.{dec_lt}
use Rattle.std.proofs.lemmas.Bool.{not-true}
use Rattle.utf8.specs.Tests.{and_left, and_right, inside_low, inside_high, is_inside, below_inside, above_inside, outside}
use Rattle.utf8.specs.Class.{inside, is_continuation}
use Rattle.utf8.specs.Utf8.{ScalarValue, encode}
use Rattle.utf8.specs.Characters.{Written, character, no_char, code_of2, code_of3, code_of4, is_surrogate, two_bytes, three_bytes, four_bytes, multi_byte, char_of, first_char}
use Rattle.utf8.specs.declared.utf8.Char.{Char}

-- ---- the encodings, by their lengths

encode_1 : (c : ℕ) → c < 128 → encode c ≡ c ∷ []
unfolding encode
encode_1 c h = rw (lt-ltb c 128 h)

encode_2 : (a b c : ℕ) → 128 ≤ c → c < 2048 → a ≡ 192 + c / 64 → b ≡ 128 + c % 64 → encode c ≡ a ∷ b ∷ []
unfolding encode
encode_2 a b c l h p q = rw (p, q, le-ltb c 128 l, lt-ltb c 2048 h)

encode_3 : (a b d c : ℕ) → 2048 ≤ c → c < 65536 → a ≡ 224 + c / 4096 → b ≡ 128 + c / 64 % 64 → d ≡ 128 + c % 64 → encode c ≡ a ∷ b ∷ d ∷ []
unfolding encode
encode_3 a b d c l h p q r = rw (p, q, r, le-ltb c 128 (omega arith), le-ltb c 2048 l, lt-ltb c 65536 h)

encode_4 : (a b d e c : ℕ) → 65536 ≤ c → a ≡ 240 + c / 262144 → b ≡ 128 + c / 4096 % 64 → d ≡ 128 + c / 64 % 64 → e ≡ 128 + c % 64 → encode c ≡ a ∷ b ∷ d ∷ e ∷ []
unfolding encode
encode_4 a b d e c l p q r t = rw (p, q, r, t, le-ltb c 128 (omega arith), le-ltb c 2048 (omega arith), le-ltb c 65536 l)

-- ---- what is written is read

continuation : (x : ℕ) → is_continuation (128 + x % 64) ≡ true
continuation x = is_inside 128 191 (128 + x % 64) (omega arith) (omega arith)

read_1 : (a b d e : ℕ) → a < 128 → char_of a b d e ≡ character a 1
unfolding char_of
read_1 a b d e h = rw (lt-ltb a 128 h)

read_2 : (c d e : ℕ) → 128 ≤ c → c < 2048 → char_of (192 + c / 64) (128 + c % 64) d e ≡ character c 2
unfolding char_of multi_byte two_bytes
read_2 c d e l h =
    let a = 192 + c / 64 in
    let is : code_of2 a (128 + c % 64) ≡ c = omega arith in
    rw (le-ltb a 128 (omega arith), le-ltb a 192 (omega arith), lt-ltb a 224 (omega arith), is, continuation c, le-leb 128 c l)

read_3 : (c e : ℕ) → 2048 ≤ c → c < 65536 → (c < 0xd800) ⊎ (0xdfff < c) → char_of (224 + c / 4096) (128 + c / 64 % 64) (128 + c % 64) e ≡ character c 3
unfolding char_of multi_byte three_bytes
read_3 c e l h w =
    let a = 224 + c / 4096 in
    let is : code_of3 a (128 + c / 64 % 64) (128 + c % 64) ≡ c = omega arith in
    rw (
      le-ltb a 128 (omega arith),
      le-ltb a 192 (omega arith),
      le-ltb a 224 (omega arith),
      lt-ltb a 240 (omega arith),
      is,
      continuation (c / 64),
      continuation c,
      le-leb 2048 c l,
      whole w,
    )
  where
    whole : (c < 0xd800) ⊎ (0xdfff < c) → is_surrogate c ≡ false
    whole (inl x) = below_inside _ _ c (omega arith)
    whole (inr x) = above_inside _ _ c (omega arith)

digits_4 : (c : ℕ) → (c / 262144) * 262144 + (c / 4096 % 64) * 4096 + (c / 64 % 64) * 64 + c % 64 ≡ c
digits_4 c =
    let h : c / 4096 ≡ c / 64 / 64 = omega arith in
    let k : c / 262144 ≡ c / 4096 / 64 = omega arith in
    omega arith

read_4 : (c : ℕ) → 65536 ≤ c → c < 0x11_0000 → char_of (240 + c / 262144) (128 + c / 4096 % 64) (128 + c / 64 % 64) (128 + c % 64) ≡ character c 4
unfolding char_of multi_byte four_bytes
read_4 c l h =
    let a = 240 + c / 262144 in
    let is : code_of4 a (128 + c / 4096 % 64) (128 + c / 64 % 64) (128 + c % 64) ≡ c = omega (arith, digits_4 c) in
    rw (
      le-ltb a 128 (omega arith),
      le-ltb a 192 (omega arith),
      le-ltb a 224 (omega arith),
      le-ltb a 240 (omega arith),
      lt-ltb a 248 (omega arith),
      is,
      continuation (c / 4096),
      continuation (c / 64),
      continuation c,
      is_inside 0x1_0000 0x10_ffff c l (omega arith),
    )

-- each of the bytes continues a character
abbrev pub Continue : List ℕ → Type 0
Continue [] = Unit {0}
Continue (b ∷ s) = (is_continuation b ≡ true) × Continue s

-- the encoding of a scalar value: a byte that begins, `more` that continue, and what is read of them
pub record Encoding (c : ℕ) (t : List ℕ) : Type 0 where
  pub begin : ℕ
  pub more : List ℕ
  pub is : encode c ≡ begin ∷ more
  pub begins : is_continuation begin ≡ false
  pub continues : Continue more
  pub reads : first_char (encode c ++ t) ≡ character c (length (encode c))

pub encoding : (c : ℕ) (t : List ℕ) → ScalarValue c → Encoding c t
unfolding first_char
encoding c t v = go (dec_lt c 128) (dec_lt c 2048) (dec_lt c 65536)
  where
    go : Dec (c < 128) → Dec (c < 2048) → Dec (c < 65536) → Encoding c t
    go (yes p) q r =
        let e = encode_1 c p in
        record {
          begin = c;
          more = [];
          is = e;
          begins = below_inside 128 191 c p;
          continues = tt;
          reads = rw e (read_1 c (get_or t 0 0) (get_or t 1 0) (get_or t 2 0) p);
        }
    go (no p) (yes q) r =
        let e = encode_2 _ _ c (omega arith) q refl refl in
        record {
          begin = 192 + c / 64;
          more = (128 + c % 64) ∷ [];
          is = e;
          begins = above_inside 128 191 (192 + c / 64) (omega arith);
          continues = (continuation c, tt);
          reads = rw e (read_2 c (get_or t 0 0) (get_or t 1 0) (omega arith) q);
        }
    go (no p) (no q) (yes r) =
        let e = encode_3 _ _ _ c (omega arith) r refl refl refl in
        record {
          begin = 224 + c / 4096;
          more = (128 + c / 64 % 64) ∷ (128 + c % 64) ∷ [];
          is = e;
          begins = above_inside 128 191 (224 + c / 4096) (omega arith);
          continues = (continuation (c / 64), (continuation c, tt));
          reads = rw e (read_3 c (get_or t 0 0) (omega arith) r v.whole);
        }
    go (no p) (no q) (no r) =
        let e = encode_4 _ _ _ _ c (omega arith) refl refl refl refl in
        record {
          begin = 240 + c / 262144;
          more = (128 + c / 4096 % 64) ∷ (128 + c / 64 % 64) ∷ (128 + c % 64) ∷ [];
          is = e;
          begins = above_inside 128 191 (240 + c / 262144) (omega arith);
          continues = (continuation (c / 4096), (continuation (c / 64), (continuation c, tt)));
          reads = rw e (read_4 c (omega arith) v.low);
        }

-- ---- what is read was written

-- so far as there is a character at all
abbrev IfRead : List ℕ → Char → Type 0
IfRead s k = 1 ≤ k.len → Written s k

none_read : (s : List ℕ) → IfRead s no_char
none_read s h = absurd (omega arith)

by_test : (t : Bool) (x y : Char) (P : Char → Type 0) → (t ≡ true → P x) → (t ≡ false → P y) → P (cond t x y)
by_test true x y P f g = f refl
by_test false x y P f g = g refl

-- a byte that is missing is read as 0 and continues nothing
missing : false ≡ true → ⊥
missing e = let z : ◌≡◌ {A = ℕ} 0 1 = cc in omega arith

-- the six bits of a continuation byte
record Six (b : ℕ) : Type 0 where
  low : b - 128 < 64
  back : b ≡ 128 + (b - 128)

six : (b : ℕ) → is_continuation b ≡ true → Six b
six b e = let l = inside_low 128 191 b e in let h = inside_high 128 191 b e in record { low = omega arith; back = omega arith }

-- the byte with the base n whose bits are q
with_bits : (n b q : ℕ) → b ≡ n + (b - n) → q ≡ b - n → b ≡ n + q
with_bits n b q e f = e ∙ ap (λ (k : ℕ). n + k) (sym f)

from_base : (n a : ℕ) → n ≤ a → a ≡ n + (a - n)
from_base n a h = omega arith

-- the digits to the base 64, one lemma each so that no division meets another
module _ (x y z : ℕ) (k : y < 64) (l : z < 64) where
  first_of_3 : (x * 4096 + y * 64 + z) / 4096 ≡ x
  first_of_3 = omega arith

  second_of_3 : (x * 4096 + y * 64 + z) / 64 % 64 ≡ y
  second_of_3 = omega arith

  third_of_3 : (x * 4096 + y * 64 + z) % 64 ≡ z
  third_of_3 = omega arith

  below_3 : x < 16 → x * 4096 + y * 64 + z < 65536
  below_3 h = omega arith

module _ (x y z w : ℕ) (k : y < 64) (l : z < 64) (m : w < 64) where
  first_of_4 : (x * 262144 + y * 4096 + z * 64 + w) / 262144 ≡ x
  first_of_4 = omega arith

  second_of_4 : (x * 262144 + y * 4096 + z * 64 + w) / 4096 % 64 ≡ y
  second_of_4 = omega arith

  third_of_4 : (x * 262144 + y * 4096 + z * 64 + w) / 64 % 64 ≡ z
  third_of_4 = omega arith

  fourth_of_4 : (x * 262144 + y * 4096 + z * 64 + w) % 64 ≡ w
  fourth_of_4 = omega arith

scalar_between : (c : ℕ) → 0x1_0000 ≤ c → c ≤ 0x10_ffff → ScalarValue c
scalar_between c l h = record { low = omega arith; whole = inr (omega arith) }

scalar_below : (c : ℕ) → c < 65536 → (c < 0xd800) ⊎ (0xdfff < c) → ScalarValue c
scalar_below c h w = record { low = omega arith; whole = w }

two_written : (a : ℕ) (s : List ℕ) → 192 ≤ a → a < 224 → is_continuation (get_or s 0 0) && leb 0x80 (code_of2 a (get_or s 0 0)) ≡ true → Written (a ∷ s) (character (code_of2 a (get_or s 0 0)) 2)
two_written a [] l h t = absurd (missing t)
two_written a (b ∷ s) l h t =
    let low = inside_low 128 191 b (and_left (is_continuation b) (leb 0x80 (code_of2 a b)) t) in
    let high = inside_high 128 191 b (and_left (is_continuation b) (leb 0x80 (code_of2 a b)) t) in
    let least = leb-true 0x80 (code_of2 a b) (and_right (is_continuation b) (leb 0x80 (code_of2 a b)) t) in
    let e : encode (code_of2 a b) ≡ a ∷ b ∷ [] = encode_2 a b (code_of2 a b) least (omega arith) (omega arith) (omega arith) in
    record { scalar = scalar_below (code_of2 a b) (omega arith) (inl (omega arith)); is = rw e; size = rw e }

three_written : (a : ℕ) (s : List ℕ) → 224 ≤ a → a < 240
    → is_continuation (get_or s 0 0) && (is_continuation (get_or s 1 0) && (leb 0x800 (code_of3 a (get_or s 0 0) (get_or s 1 0)) && not (is_surrogate (code_of3 a (get_or s 0 0) (get_or s 1 0))))) ≡ true
    → Written (a ∷ s) (character (code_of3 a (get_or s 0 0) (get_or s 1 0)) 3)
three_written a [] l h t = absurd (missing t)
three_written a (b ∷ []) l h t = absurd (missing (and_right (is_continuation b) false t))
three_written a (b ∷ c ∷ s) l h t =
    let t1 = and_right (is_continuation b) _ t in
    let t2 = and_right (is_continuation c) _ t1 in
    let y = six b (and_left (is_continuation b) _ t) in
    let z = six c (and_left (is_continuation c) _ t1) in
    let least = leb-true 0x800 (code_of3 a b c) (and_left (leb 0x800 (code_of3 a b c)) _ t2) in
    let whole = outside _ _ (code_of3 a b c) (not-true _ (and_right (leb 0x800 (code_of3 a b c)) _ t2)) in
    let most = below_3 (a - 224) (b - 128) (c - 128) y.low z.low (omega arith) in
    let e : encode (code_of3 a b c) ≡ a ∷ b ∷ c ∷ [] =
    encode_3 a b c (code_of3 a b c) least most
    (with_bits 224 a _ (from_base 224 a l) (first_of_3 (a - 224) (b - 128) (c - 128) y.low z.low))
    (with_bits 128 b _ y.back (second_of_3 (a - 224) (b - 128) (c - 128) y.low z.low))
    (with_bits 128 c _ z.back (third_of_3 (a - 224) (b - 128) (c - 128) y.low z.low))
    in
    record { scalar = scalar_below (code_of3 a b c) most whole; is = rw e; size = rw e }

four_written : (a : ℕ) (s : List ℕ) → 240 ≤ a
    → is_continuation (get_or s 0 0)
    && (is_continuation (get_or s 1 0) && (is_continuation (get_or s 2 0) && inside 0x1_0000 0x10_ffff (code_of4 a (get_or s 0 0) (get_or s 1 0) (get_or s 2 0))))
    ≡ true
    → Written (a ∷ s) (character (code_of4 a (get_or s 0 0) (get_or s 1 0) (get_or s 2 0)) 4)
four_written a [] l t = absurd (missing t)
four_written a (b ∷ []) l t = absurd (missing (and_right (is_continuation b) false t))
four_written a (b ∷ c ∷ []) l t = absurd (missing (and_right (is_continuation c) false (and_right (is_continuation b) (is_continuation c && false) t)))
four_written a (b ∷ c ∷ d ∷ s) l t =
    let t1 = and_right (is_continuation b) _ t in
    let t2 = and_right (is_continuation c) _ t1 in
    let t3 = and_right (is_continuation d) _ t2 in
    let y = six b (and_left (is_continuation b) _ t) in
    let z = six c (and_left (is_continuation c) _ t1) in
    let w = six d (and_left (is_continuation d) _ t2) in
    let least = inside_low 0x1_0000 0x10_ffff (code_of4 a b c d) t3 in
    let most = inside_high 0x1_0000 0x10_ffff (code_of4 a b c d) t3 in
    let e : encode (code_of4 a b c d) ≡ a ∷ b ∷ c ∷ d ∷ [] =
    encode_4 a b c d (code_of4 a b c d) least
    (with_bits 240 a _ (from_base 240 a l) (first_of_4 (a - 240) (b - 128) (c - 128) (d - 128) y.low z.low w.low))
    (with_bits 128 b _ y.back (second_of_4 (a - 240) (b - 128) (c - 128) (d - 128) y.low z.low w.low))
    (with_bits 128 c _ z.back (third_of_4 (a - 240) (b - 128) (c - 128) (d - 128) y.low z.low w.low))
    (with_bits 128 d _ w.back (fourth_of_4 (a - 240) (b - 128) (c - 128) (d - 128) y.low z.low w.low))
    in
    record { scalar = scalar_between (code_of4 a b c d) least most; is = rw e; size = rw e }

one_written : (a : ℕ) (s : List ℕ) → a < 128 → Written (a ∷ s) (character a 1)
one_written a s h =
    let e = encode_1 a h in
    record { scalar = record { low = omega arith; whole = inl (omega arith) }; is = rw e; size = rw e }

pub written : (s : List ℕ) → 1 ≤ (first_char s).len → Written s (first_char s)
unfolding first_char char_of multi_byte two_bytes three_bytes four_bytes
written [] h = absurd (omega arith)
written (a ∷ s) h = reading h
  where
    reading : IfRead (a ∷ s) (first_char (a ∷ s))
    reading =
        by_test (ltb a 128) _ _ (IfRead (a ∷ s)) (λ t h. one_written a s (ltb-true a 128 t))
        (λ f1. by_test (ltb a 192) _ _ (IfRead (a ∷ s)) (λ t. none_read (a ∷ s))
        (λ f2. by_test (ltb a 224) _ _ (IfRead (a ∷ s))
        (λ t. by_test _ _ no_char (IfRead (a ∷ s)) (λ e h. two_written a s (ltb-false a 192 f2) (ltb-true a 224 t) e) (λ e. none_read (a ∷ s)))
        (λ f3. by_test (ltb a 240) _ _ (IfRead (a ∷ s))
        (λ t. by_test _ _ no_char (IfRead (a ∷ s)) (λ e h. three_written a s (ltb-false a 224 f3) (ltb-true a 240 t) e) (λ e. none_read (a ∷ s)))
        (λ f4. by_test (ltb a 248) _ _ (IfRead (a ∷ s))
        (λ t. by_test _ _ no_char (IfRead (a ∷ s)) (λ e h. four_written a s (ltb-false a 240 f4) e) (λ e. none_read (a ∷ s)))
        (λ f5. none_read (a ∷ s))))))
