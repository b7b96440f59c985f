-- Letters as characters: none is white space but a blank before a word, so that a line and a match go on over them.
use mathlib.Core.Path.{◌≡◌, refl, sym, ap, ◌∙◌, subst}
use mathlib.Core.Bool.{Bool, true, false, ◌&&◌, not, cond}
use mathlib.Core.Logic.{◌⊎◌, inl, inr, ⊎_elim}
use mathlib.Core.List.{List}
use Prim.Native.Nat.{ℕ, suc, ◌+◌, ◌-◌, ◌≤◌, ◌<◌}
use native.Mathlib.Omega.{arith}
use borrow.Author.Tests.{lt-ltb, le-ltb, lt-leb, leb-true}
use lib.Dec.{leb}
use lib.ListN.{length, drop, get_or}
use lib.Seq.{drop-cons, drop-drop, get_or-drop}
use Rattle.utf8.specs.Class.{inside, is_continuation}
use Rattle.utf8.specs.WhiteSpace.{white_space, is_in, is_white_space}
use Rattle.utf8.specs.Characters.{character, no_char, code_of2, code_of3, code_of4, two_bytes, three_bytes, four_bytes, multi_byte, char_of, first_char}
use Rattle.utf8.proofs.Utf8Laws.{CharAt}
use Rattle.utf8.specs.declared.utf8.Char.{Char}
use Rattle.letters.specs.Letters.{WordByte, AfterE2, LetterByte, Letters}
use Rattle.letters.specs.LetterLaws.{letters_less}
use Rattle.utf8.specs.Tests.{by_order, clash, and_both}

-- ---- code points that are no white space

past : (lo hi c : ℕ) → hi < c → inside lo hi c ≡ false
past lo hi c h = rw (lt-leb c hi h) (no (leb lo c))
  where
    no : (t : Bool) → (t && false) ≡ false
    no true = refl
    no false = refl

short : (lo hi c : ℕ) → c < lo → inside lo hi c ≡ false
short lo hi c h = rw (lt-leb lo c h)

-- between the blank and 85, A0 and 1680, 200A and 2028, 205F and 3000, past 3000
pub data Dark (c : ℕ) : Type 0 where
  ascii : 32 < c → c < 133 → Dark c
  latin : 160 < c → c < 5760 → Dark c
  general : 8202 < c → c < 8232 → Dark c
  signs : 8287 < c → c < 12288 → Dark c
  far : 12288 < c → Dark c

pub dark : (c : ℕ) → Dark c → is_white_space c ≡ false
unfolding is_white_space is_in white_space
dark c (ascii a b) =
    rw (past 9 13 c (omega arith), past 32 32 c (omega arith), short 133 133 c (omega arith), short 160 160 c (omega arith), short 5760 5760 c (omega arith), short 8192 8202 c (omega arith), short 8232 8232 c (omega arith), short 8233 8233 c (omega arith), short 8239 8239 c (omega arith), short 8287 8287 c (omega arith), short 12288 12288 c (omega arith))
dark c (latin a b) =
    rw (past 9 13 c (omega arith), past 32 32 c (omega arith), past 133 133 c (omega arith), past 160 160 c (omega arith), short 5760 5760 c (omega arith), short 8192 8202 c (omega arith), short 8232 8232 c (omega arith), short 8233 8233 c (omega arith), short 8239 8239 c (omega arith), short 8287 8287 c (omega arith), short 12288 12288 c (omega arith))
dark c (general a b) =
    rw (past 9 13 c (omega arith), past 32 32 c (omega arith), past 133 133 c (omega arith), past 160 160 c (omega arith), past 5760 5760 c (omega arith), past 8192 8202 c (omega arith), short 8232 8232 c (omega arith), short 8233 8233 c (omega arith), short 8239 8239 c (omega arith), short 8287 8287 c (omega arith), short 12288 12288 c (omega arith))
dark c (signs a b) =
    rw (past 9 13 c (omega arith), past 32 32 c (omega arith), past 133 133 c (omega arith), past 160 160 c (omega arith), past 5760 5760 c (omega arith), past 8192 8202 c (omega arith), past 8232 8232 c (omega arith), past 8233 8233 c (omega arith), past 8239 8239 c (omega arith), past 8287 8287 c (omega arith), short 12288 12288 c (omega arith))
dark c (far a) =
    rw (past 9 13 c (omega arith), past 32 32 c (omega arith), past 133 133 c (omega arith), past 160 160 c (omega arith), past 5760 5760 c (omega arith), past 8192 8202 c (omega arith), past 8232 8232 c (omega arith), past 8233 8233 c (omega arith), past 8239 8239 c (omega arith), past 8287 8287 c (omega arith), past 12288 12288 c (omega arith))

-- ---- characters by their first bytes

-- the byte a, before b and c, begins no white space
abbrev pub Solid : ℕ → ℕ → ℕ → Type 0
Solid a b c = (32 < a) × (a ≡ 194 → ⊥) × (a ≡ 225 → ⊥) × ((a ≡ 226 → ⊥) ⊎ AfterE2 b c) × ((a ≡ 227 → ⊥) ⊎ ((b ≡ 128 → ⊥) ⊎ (c ≡ 128 → ⊥)))

some_char : (t : Bool) (k : Char) → 1 ≤ (cond t k no_char).len → (t ≡ true) × (cond t k no_char ≡ k)
some_char true k h = (refl, refl)
some_char false k h = absurd (omega arith)

in_tail : (b : ℕ) → is_continuation b ≡ true → (128 ≤ b) × (b ≤ 191)
in_tail b e = let p = and_both (leb 128 b) (leb b 191) e in (leb-true 128 b p.0, leb-true b 191 p.1)

differs : (a n : ℕ) → (a ≡ n → ⊥) → n ≤ a → n < a
differs a n d h = by_order n a (λ lt. lt) (λ le. absurd (d (omega arith)))

two : (a b : ℕ) → 192 ≤ a → a < 224 → (a ≡ 194 → ⊥) → 1 ≤ (two_bytes a b).len → Dark (two_bytes a b).code
unfolding two_bytes
two a b l h n s =
    let p = some_char (is_continuation b && leb 128 (code_of2 a b)) (character (code_of2 a b) 2) s in
    let q = and_both (is_continuation b) (leb 128 (code_of2 a b)) p.0 in
    let t = in_tail b q.0 in
    let c = leb-true 128 (code_of2 a b) q.1 in
    let m : 194 < a = differs a 194 n (omega arith) in
    rw p.1 (latin (omega arith) (omega arith))

-- the characters E2 80 to E2 BF
after_e2 : (b c k : ℕ) → k ≡ code_of3 226 b c → (128 ≤ b) × (b ≤ 191) → (128 ≤ c) × (c ≤ 191) → AfterE2 b c → Dark k
after_e2 b c k e tb tc (inl h) = signs (omega arith) (omega arith)
after_e2 b c k e tb tc (inr (n, l, h)) =
    by_order b 129
    (λ lt. general (omega arith) (omega arith))
    (λ ge. let m = differs b 129 n ge in signs (omega arith) (omega arith))

-- the characters E3 80 to E3 BF
after_e3 : (b c k : ℕ) → k ≡ code_of3 227 b c → (128 ≤ b) × (b ≤ 191) → (128 ≤ c) × (c ≤ 191) → (b ≡ 128 → ⊥) ⊎ (c ≡ 128 → ⊥) → Dark k
after_e3 b c k e tb tc (inl n) = let m = differs b 128 n tb.0 in far (omega arith)
after_e3 b c k e tb tc (inr n) = let m = differs c 128 n tc.0 in far (omega arith)

three :
    (a b c : ℕ) → 224 ≤ a → a < 240 → (a ≡ 225 → ⊥) → (a ≡ 226 → ⊥) ⊎ AfterE2 b c → (a ≡ 227 → ⊥) ⊎ ((b ≡ 128 → ⊥) ⊎ (c ≡ 128 → ⊥)) →
    1 ≤ (three_bytes a b c).len → Dark (three_bytes a b c).code
unfolding three_bytes
three a b c l h n m w s =
    let k = code_of3 a b c in
    let p = some_char (is_continuation b && (is_continuation c && (leb 2048 k && not (inside 55296 57343 k)))) (character k 3) s in
    let q = and_both (is_continuation b) (is_continuation c && (leb 2048 k && not (inside 55296 57343 k))) p.0 in
    let r = and_both (is_continuation c) (leb 2048 k && not (inside 55296 57343 k)) q.1 in
    let g = leb-true 2048 k (and_both (leb 2048 k) (not (inside 55296 57343 k)) r.1).0 in
    rw p.1 (by k refl (in_tail b q.0) (in_tail c r.0) g)
  where
    at_lead : (x k : ℕ) → a ≡ x → k ≡ code_of3 a b c → k ≡ code_of3 x b c
    at_lead x k e f = f ∙ ap (λ (y : ℕ). code_of3 y b c) e

    by : (k : ℕ) → k ≡ code_of3 a b c → (128 ≤ b) × (b ≤ 191) → (128 ≤ c) × (c ≤ 191) → 2048 ≤ k → Dark k
    by k e tb tc g =
        by_order a 225
        (λ lt. latin (omega arith) (omega arith))
        (λ le.
        let x = differs a 225 n le in
        by_order 226 a
        (λ past-e2.
        by_order 227 a
        (λ past-e3. far (omega arith))
        (λ at-e3. let z : a ≡ 227 = omega arith in ⊎_elim (λ no. absurd (no z)) (λ y. after_e3 b c k (at_lead 227 k z e) tb tc y) w))
        (λ at-e2. let z : a ≡ 226 = omega arith in ⊎_elim (λ no. absurd (no z)) (λ y. after_e2 b c k (at_lead 226 k z e) tb tc y) m))

four : (a b c d : ℕ) → 1 ≤ (four_bytes a b c d).len → Dark (four_bytes a b c d).code
unfolding four_bytes
four a b c d s =
    let k = code_of4 a b c d in
    let p = some_char (is_continuation b && (is_continuation c && (is_continuation d && inside 65536 1114111 k))) (character k 4) s in
    let q = and_both (is_continuation b) (is_continuation c && (is_continuation d && inside 65536 1114111 k)) p.0 in
    let r = and_both (is_continuation c) (is_continuation d && inside 65536 1114111 k) q.1 in
    let t = and_both (is_continuation d) (inside 65536 1114111 k) r.1 in
    let g = leb-true 65536 k (and_both (leb 65536 k) (leb k 1114111) t.1).0 in
    rw p.1 (by k g)
  where
    by : (k : ℕ) → 65536 ≤ k → Dark k
    by k g = far (omega arith)

solid_char : (a b c d : ℕ) → Solid a b c → 1 ≤ (char_of a b c d).len → Dark (char_of a b c d).code
unfolding char_of multi_byte
solid_char a b c d (l, n₁, n₂, n₃, n₄) s =
    by_order a 128
    (λ lt. rw (lt-ltb a 128 lt) (ascii l (omega arith)))
    (λ ge.
    by_order a 192
    (λ lt. absurd (let z = rw (le-ltb a 128 ge, lt-ltb a 192 lt) at s in omega arith))
    (λ ge₂.
    by_order a 224
    (λ lt. rw (le-ltb a 128 ge, le-ltb a 192 ge₂, lt-ltb a 224 lt) (two a b ge₂ lt n₁ (rw (le-ltb a 128 ge, le-ltb a 192 ge₂, lt-ltb a 224 lt) at s)))
    (λ ge₃.
    by_order a 240
    (λ lt. rw (le-ltb a 128 ge, le-ltb a 192 ge₂, le-ltb a 224 ge₃, lt-ltb a 240 lt) (three a b c ge₃ lt n₂ n₃ n₄ (rw (le-ltb a 128 ge, le-ltb a 192 ge₂, le-ltb a 224 ge₃, lt-ltb a 240 lt) at s)))
    (λ ge₄.
    by_order a 248
    (λ lt. rw (le-ltb a 128 ge, le-ltb a 192 ge₂, le-ltb a 224 ge₃, le-ltb a 240 ge₄, lt-ltb a 248 lt) (four a b c d (rw (le-ltb a 128 ge, le-ltb a 192 ge₂, le-ltb a 224 ge₃, le-ltb a 240 ge₄, lt-ltb a 248 lt) at s)))
    (λ ge₅. absurd (let z = rw (le-ltb a 128 ge, le-ltb a 192 ge₂, le-ltb a 224 ge₃, le-ltb a 240 ge₄, le-ltb a 248 ge₅) at s in omega arith))))))

-- ---- the character at a place

module _ {s : List ℕ} {i : ℕ} {k : Char} (a : CharAt s i k) where
  inside_text : i < length s
  inside_text = let m = a.some in let r = a.room in omega arith

  by_bytes : k ≡ char_of (get_or s i 0) (get_or s (i + 1) 0) (get_or s (i + 2) 0) (get_or (drop (suc i) s) 2 0)
  unfolding first_char
  by_bytes =
      let e : get_or (drop (suc i) s) 0 0 ≡ get_or s (i + 1) 0 = get_or-drop (suc i) s 0 0 ∙ ap (λ (j : ℕ). get_or s j 0) (omega arith) in
      let f : get_or (drop (suc i) s) 1 0 ≡ get_or s (i + 2) 0 = get_or-drop (suc i) s 1 0 ∙ ap (λ (j : ℕ). get_or s j 0) (omega arith) in
      sym a.first ∙ ap first_char (drop-cons s i 0 inside_text)
      ∙ ap (λ (b : ℕ). char_of (get_or s i 0) b (get_or (drop (suc i) s) 1 0) (get_or (drop (suc i) s) 2 0)) e
      ∙ ap (λ (c : ℕ). char_of (get_or s i 0) (get_or s (i + 1) 0) c (get_or (drop (suc i) s) 2 0)) f

  pub solid_at : Solid (get_or s i 0) (get_or s (i + 1) 0) (get_or s (i + 2) 0) → Dark k.code
  solid_at h =
      subst (λ (x : Char). Dark x.code) (sym by_bytes)
      (solid_char (get_or s i 0) (get_or s (i + 1) 0) (get_or s (i + 2) 0) _ h (subst (λ (x : Char). 1 ≤ x.len) by_bytes a.some))

  blank_at : get_or s i 0 ≡ 32 → k ≡ character 32 1
  unfolding char_of
  blank_at e = by_bytes ∙ rw e

-- a letter is no white space, or a blank before a byte that begins a word
pub letter_at : {s : List ℕ} {i : ℕ} {k : Char} → CharAt s i k → LetterByte (get_or s i 0) (get_or s (i + 1) 0) (get_or s (i + 2) 0) → Dark k.code ⊎ ((get_or s i 0 ≡ 32) × (k ≡ character 32 1) × WordByte (get_or s (i + 1) 0) (get_or s (i + 2) 0))
letter_at {s} {i} a l =
    by_order 32 (get_or s i 0)
    (λ lt. inl (solid_at a (lt, l.no_c2, l.no_e1, l.e2, l.e3)))
    (λ le.
    let h = l.above in
    let e : get_or s i 0 ≡ 32 = omega arith in
    inr (e, blank_at a e, ⊎_elim (λ n. absurd (n e)) (λ w. w) l.blank))

pub word_solid : (b c d : ℕ) → WordByte b c → Solid b c d
word_solid b c d w =
    (w.above, (λ e. ⊎_elim (λ h. omega arith) (λ h. omega arith) w.low), w.no_e1, ⊎_elim (λ n. inl n) (λ h. inr (inl h)) w.no_e2, ⊎_elim (λ n. inl n) (λ n. inr (inl n)) w.no_e3)

pub above_blank : (c : ℕ) → Dark c → 32 < c
above_blank c (ascii a b) = a
above_blank c (latin a b) = omega arith
above_blank c (general a b) = omega arith
above_blank c (signs a b) = omega arith
above_blank c (far a) = omega arith

-- ---- letters character by character

module _ (s val : List ℕ) (i n : ℕ) (l : Letters (drop i s) val n) (more : 0 < n) where
  pub letter_here : LetterByte (get_or s i 0) (get_or s (i + 1) 0) (get_or s (i + 2) 0)
  letter_here =
      let e : i + 0 ≡ i = omega arith in
      let f : get_or (drop i s) (0 + 1) 0 ≡ get_or s (i + 1) 0 = get_or-drop i s (0 + 1) 0 in
      let g : get_or (drop i s) (0 + 2) 0 ≡ get_or s (i + 2) 0 = get_or-drop i s (0 + 2) 0 in
      rw (get_or-drop i s 0 0, e, f, g) at (l.run.each 0 more).1

  -- the first character lies within them
  pub fits : {k : Char} → CharAt s i k → k.len ≤ n
  fits {k} a =
      by_order n k.len
      (λ lt. absurd (clash (sym (a.continues (i + n) (omega arith) (omega arith)) ∙ sym (get_or_of (get_or-drop i s n 0)) ∙ l.whole more)))
      (λ le. le)
    where
      get_or_of : get_or (drop i s) n 0 ≡ get_or s (i + n) 0 → is_continuation (get_or (drop i s) n 0) ≡ is_continuation (get_or s (i + n) 0)
      get_or_of e = ap is_continuation e

  -- they are more than a blank
  pub after_blank : get_or s i 0 ≡ 32 → 1 < n
  after_blank e =
      by_order 1 n (λ lt. lt)
      (λ le.
      let one : n ≡ 1 = omega arith in
      let z : i + 0 ≡ i = omega arith in
      absurd (l.last more (ap (λ (m : ℕ). get_or (drop i s) (m - 1) 0) one ∙ get_or-drop i s 0 0 ∙ ap (λ (m : ℕ). get_or s m 0) z ∙ e)))

  pub rest_of : (k : ℕ) → k ≤ n → Letters (drop (i + k) s) (drop k val) (n - k)
  rest_of k h = subst (λ (x : List ℕ). Letters x (drop k val) (n - k)) (drop-drop k i s) (letters_less (drop i s) val n k l h)
