-- The length of a character by its first byte.
use mathlib.Core.Path.{◌≡◌, refl, ap, ◌∙◌, subst}
use mathlib.Core.Bool.{Bool, true, false, not, ◌&&◌, cond}
use mathlib.Core.List.{List}
use Prim.Native.Nat.{ℕ, ◌+◌, ◌≤◌, ◌<◌}
use native.Mathlib.Decide.{dec_lt}
use native.Mathlib.Omega.{arith}
use borrow.Author.Tests.{lt-ltb, le-ltb}
use lib.Dec.{leb}
use lib.ListN.{length, drop, get_or}
use Rattle.utf8.specs.Class.{inside, is_continuation}
use Rattle.utf8.specs.Utf8.{Utf8}
use Rattle.utf8.specs.Characters.{character, no_char, code_of2, code_of3, code_of4, two_bytes, three_bytes, four_bytes, multi_byte, first_char}
use Rattle.utf8.specs.Boundary.{Boundary}
use Rattle.utf8.proofs.Utf8Laws.{char_at, first_char_ascii, first_char_multi}
use Rattle.utf8.specs.declared.utf8.Char.{Char}

some_len : (t : Bool) (c n : ℕ) → 1 ≤ (cond t (character c n) no_char).len → (cond t (character c n) no_char).len ≡ n
some_len true c n h = refl
some_len false c n h = absurd (omega arith)

module _ (a b c d : ℕ) where
  -- no character begins with a continuation byte
  leads : 1 ≤ (multi_byte a b c d).len → 192 ≤ a
  unfolding multi_byte
  leads h = by (dec_lt a 192)
    where
      by : Dec (a < 192) → 192 ≤ a
      by (yes l) = absurd (let z = rw (lt-ltb a 192 l) at h in omega arith)
      by (no l) = omega arith

  two_long : a < 224 → 1 ≤ (multi_byte a b c d).len → (multi_byte a b c d).len ≡ 2
  unfolding multi_byte two_bytes
  two_long l h =
      let m = leads h in
      rw (le-ltb a 192 m, lt-ltb a 224 l) (some_len (is_continuation b && leb 0x80 (code_of2 a b)) (code_of2 a b) 2 (rw (le-ltb a 192 m, lt-ltb a 224 l) at h))

  three_long : 224 ≤ a → a < 240 → 1 ≤ (multi_byte a b c d).len → (multi_byte a b c d).len ≡ 3
  unfolding multi_byte three_bytes
  three_long l u h =
      let m : 192 ≤ a = omega arith in
      rw (le-ltb a 192 m, le-ltb a 224 l, lt-ltb a 240 u)
      (some_len (is_continuation b && (is_continuation c && (leb 0x800 (code_of3 a b c) && not (inside 0xd800 0xdfff (code_of3 a b c))))) (code_of3 a b c) 3 (rw (le-ltb a 192 m, le-ltb a 224 l, lt-ltb a 240 u) at h))

  four_long : 240 ≤ a → 1 ≤ (multi_byte a b c d).len → (multi_byte a b c d).len ≡ 4
  unfolding multi_byte four_bytes
  four_long l h = by (dec_lt a 248)
    where
      by : Dec (a < 248) → (multi_byte a b c d).len ≡ 4
      by (yes u) =
          let m : 192 ≤ a = omega arith in
          let n : 224 ≤ a = omega arith in
          rw (le-ltb a 192 m, le-ltb a 224 n, le-ltb a 240 l, lt-ltb a 248 u)
          (some_len (is_continuation b && (is_continuation c && (is_continuation d && inside 0x1_0000 0x10_ffff (code_of4 a b c d)))) (code_of4 a b c d) 4 (rw (le-ltb a 192 m, le-ltb a 224 n, le-ltb a 240 l, lt-ltb a 248 u) at h))
      by (no u) =
          let m : 192 ≤ a = omega arith in
          let n : 224 ≤ a = omega arith in
          let o : 248 ≤ a = omega arith in
          absurd (let z = rw (le-ltb a 192 m, le-ltb a 224 n, le-ltb a 240 l, le-ltb a 248 o) at h in omega arith)

-- ---- at a place of a text

module _ (s : List ℕ) (i : ℕ) (u : Utf8 s) (b : Boundary s i) (h : i < length s) where
  some_there : 1 ≤ (first_char (drop i s)).len
  some_there = (char_at u b h).some

  pub one_there : get_or s i 0 < 128 → (first_char (drop i s)).len ≡ 1
  one_there l = ap (λ (k : Char). k.len) (first_char_ascii s i h l)

  multi : 128 ≤ get_or s i 0 → first_char (drop i s) ≡ multi_byte (get_or s i 0) (get_or s (i + 1) 0) (get_or s (i + 2) 0) (get_or s (i + 3) 0)
  multi l = first_char_multi s i h l

  module _ (l : 128 ≤ get_or s i 0) where
    some_multi : 1 ≤ (multi_byte (get_or s i 0) (get_or s (i + 1) 0) (get_or s (i + 2) 0) (get_or s (i + 3) 0)).len
    some_multi = subst (λ (k : Char). 1 ≤ k.len) (multi l) some_there

    pub two_there : get_or s i 0 < 224 → (first_char (drop i s)).len ≡ 2
    two_there m = ap (λ (k : Char). k.len) (multi l) ∙ two_long _ _ _ _ m some_multi

    pub three_there : 224 ≤ get_or s i 0 → get_or s i 0 < 240 → (first_char (drop i s)).len ≡ 3
    three_there m n = ap (λ (k : Char). k.len) (multi l) ∙ three_long _ _ _ _ m n some_multi

    pub four_there : 240 ≤ get_or s i 0 → (first_char (drop i s)).len ≡ 4
    four_there m = ap (λ (k : Char). k.len) (multi l) ∙ four_long _ _ _ _ m some_multi
