-- The search by the text's bytes: `[`, `{`, `,`, `!` and `&` are one byte each, and no byte of another character is one of them. So the
-- bytes of the last token before a place say what it decides. Only the search itself and `TagLaws` look in here.
use Rattle.std.specs.Prelude.{Some, None}
use mathlib.Core.Path.{◌≡◌, refl, sym, ◌∙◌, ap}
use mathlib.Core.Bool.{Bool, true, false, cond}
use mathlib.Core.List.{List, [], ◌∷◌, ◌++◌}
use Prim.Native.Nat.{ℕ, suc, ◌+◌, ◌-◌, ◌/◌, ◌%◌, ◌≤◌, ◌<◌}
use native.Mathlib.Decide.{dec_lt}
use native.Mathlib.Omega.{arith}
use borrow.Author.Tests.{lt-ltb, le-ltb, ne_eqb}
use lib.Dec.{ltb, eqb}
use lib.ListN.{length, take, drop, get_or, get_or-eq_default}
use lib.Seq.{get_or-take, get_or-drop}
use Rattle.utf8.specs.Utf8.{Utf8, encode, encode_all}
use Rattle.utf8.specs.Boundary.{Boundary}
use Rattle.tag.specs.Tokens.{byte_length, chars_before, token, with_word, tokens_before}
use Rattle.tag.specs.Tag.{is_opening, openings, property, span, span_of, decide, first_tag, tag_before}
use Rattle.tag.proofs.TokenLaws.{token_end, token_start, byte_length_cons, byte_length_before, last_word, LastToken, last_token}

-- ---- one token, by its bytes

ascii_encode : (c : ℕ) → c < 0x80 → encode c ≡ c ∷ []
unfolding encode
ascii_encode c h = rw (lt-ltb c 0x80 h)

wide_begins : (c : ℕ) (t : List ℕ) → 0x80 ≤ c → 0x80 ≤ get_or (encode c ++ t) 0 0
unfolding encode
wide_begins c t h = rw (le-ltb c 0x80 h) (go (ltb c 0x800) (ltb c 0x1_0000))
  where
    go : (x y : Bool)
        → 0x80
        ≤ get_or (cond x ((0xc0 + c / 64) ∷ (0x80 + c % 64) ∷ [])
        (cond y ((0xe0 + c / 4096) ∷ (0x80 + c / 64 % 64) ∷ (0x80 + c % 64) ∷ [])
        ((0xf0 + c / 262144) ∷ (0x80 + c / 4096 % 64) ∷ (0x80 + c / 64 % 64) ∷ (0x80 + c % 64) ∷ [])) ++ t) 0 0
    go true y = omega arith
    go false true = omega arith
    go false false = omega arith

wide_no_opening : (c : ℕ) → 0x80 ≤ c → is_opening c ≡ false
wide_no_opening c h = rw (ne_eqb c 0x5b (λ e. omega arith), ne_eqb c 0x7b (λ e. omega arith), ne_eqb c 0x2c (λ e. omega arith))

wide_no_openings : (s : List ℕ) → 0x80 ≤ get_or s 0 0 → openings s ≡ 0
unfolding openings
wide_no_openings [] h = refl
wide_no_openings (b ∷ s) h = rw (wide_no_opening b h)

pub openings_bytes : (cs : List ℕ) → openings (encode_all cs) ≡ openings cs
unfolding openings encode_all
openings_bytes [] = refl
openings_bytes (c ∷ cs) = go (dec_lt c 0x80) (openings_bytes cs)
  where
    go : Dec (c < 0x80) → openings (encode_all cs) ≡ openings cs → openings (encode c ++ encode_all cs) ≡ cond (is_opening c) (suc (openings cs)) 0
    go (yes h) r = rw (ascii_encode c h) (ap (λ (n : ℕ). cond (is_opening c) (suc n) 0) r)
    go (no h) r = wide_no_openings (encode c ++ encode_all cs) (wide_begins c (encode_all cs) (omega arith)) ∙ rw (wide_no_opening c (omega arith))

opening_encode : (c : ℕ) → is_opening c ≡ true → encode c ≡ c ∷ []
opening_encode c e = go (dec_lt c 0x80)
  where
    go : Dec (c < 0x80) → encode c ≡ c ∷ []
    go (yes h) = ascii_encode c h
    go (no h) = absurd (let z : ◌≡◌ {A = ℕ} 0 1 = cc (wide_no_opening c (omega arith)) in omega arith)

openings_whole : (cs : List ℕ) → byte_length cs ≡ openings cs + byte_length (drop (openings cs) cs)
unfolding openings
openings_whole [] = omega arith
openings_whole (c ∷ cs) = go (is_opening c) refl (openings_whole cs)
  where
    go : (t : Bool) → is_opening c ≡ t → byte_length cs ≡ openings cs + byte_length (drop (openings cs) cs)
        → byte_length (c ∷ cs) ≡ cond t (suc (openings cs)) 0 + byte_length (drop (cond t (suc (openings cs)) 0) (c ∷ cs))
    go true e r = let n : length (encode c) ≡ 1 = ap length (opening_encode c e) in let w = byte_length_cons c cs in omega arith
    go false e r = omega arith

-- whether the first code point or the first byte behind them is k
mark_bytes : (k : ℕ) → k < 0x80 → (cs : List ℕ) → eqb (get_or (encode_all cs) (openings cs) 0) k ≡ eqb (get_or (drop (openings cs) cs) 0 0) k
unfolding openings encode_all
mark_bytes k l [] = refl
mark_bytes k l (c ∷ cs) = go (is_opening c) refl (mark_bytes k l cs)
  where
    first : Dec (c < 0x80) → eqb (get_or (encode c ++ encode_all cs) 0 0) k ≡ eqb c k
    first (yes h) = rw (ascii_encode c h)
    first (no h) =
        let w = wide_begins c (encode_all cs) (omega arith) in
        ne_eqb (get_or (encode c ++ encode_all cs) 0 0) k (λ e. omega arith) ∙ sym (ne_eqb c k (λ e. omega arith))

    go : (t : Bool) → is_opening c ≡ t → eqb (get_or (encode_all cs) (openings cs) 0) k ≡ eqb (get_or (drop (openings cs) cs) 0 0) k
        → eqb (get_or (encode c ++ encode_all cs) (cond t (suc (openings cs)) 0) 0) k ≡ eqb (get_or (drop (cond t (suc (openings cs)) 0) (c ∷ cs)) 0 0) k
    go true e r = rw (opening_encode c e) r
    go false e r = first (dec_lt c 0x80)

-- ---- from token to token

-- what the last token before byte i says, from byte a to byte e
pub token_decides : {s : List ℕ} {i a e : ℕ} → Utf8 s → LastToken s i a e → tag_before s i ≡ decide (property (token a (last_word s i))) (tag_before s a)
unfolding tag_before first_tag with_word decide property openings
token_decides {s} {i} {a} {e} u k = go (last_word s i) k.are k.none
  where
    go : (word : List ℕ) → tokens_before s i ≡ with_word word (chars_before s a) (tokens_before s a) → (length word ≡ 0 → tokens_before s i ≡ [])
        → first_tag (tokens_before s i) ≡ decide (property (token a word)) (first_tag (tokens_before s a))
    go [] are n = rw (n refl)
    go (c ∷ word) are n = rw (are, byte_length_before u k.start)

-- the same by its bytes: n of them are dropped, and m is the next, or 0 where none is left
pub record LastProperty (s : List ℕ) (i a e n m : ℕ) : Type 0 where
  pub start : Boundary s a
  pub end : Boundary s e
  pub order : a ≤ e
  pub back : e ≤ i
  pub left : 1 ≤ m → a + n < e
  pub first : 1 ≤ m → get_or s (a + n) 0 ≡ m
  pub decides : tag_before s i ≡ cond (eqb m 0x21) (Some (span (a + n) e)) (cond (eqb m 0x26) (tag_before s a) None)

pub last_property : {s : List ℕ} {i e a n m : ℕ} → Utf8 s → Boundary s i → e ≡ token_end s i → a ≡ token_start s e
    → n ≡ openings (take (e - a) (drop a s)) → m ≡ get_or (take (e - a) (drop a s)) n 0 → LastProperty s i a e n m
unfolding property decide span_of byte_length
last_property {s} {i} {e} {a} {n} {m} u b he ha hn hm =
    let k = last_token u b he ha in
    let word = last_word s i in
    let whole = k.whole in
    let count : n ≡ openings word = hn ∙ ap openings k.part ∙ openings_bytes word in
    let byte : m ≡ get_or (encode_all word) n 0 = hm ∙ ap (λ (l : List ℕ). get_or l n 0) k.part in
    let marked : (j : ℕ) → j < 0x80 → eqb (get_or (drop (openings word) word) 0 0) j ≡ eqb m j = λ j h. sym (rw (byte, count) (mark_bytes j h word)) in
    let all = openings_whole word in
    let end : a + openings word + byte_length (drop (openings word) word) ≡ e = omega arith in
    let is : span_of (property (token a word)) ≡ span (a + n) e = ap (span (a + openings word)) end ∙ ap (λ (j : ℕ). span (a + j) e) (sym count) in
    let some : 1 ≤ m → n < e - a = λ h. within (encode_all word) n (e - a) (omega arith) (omega arith) in
    record {
      start = k.start;
      end = k.end;
      order = omega arith;
      back = k.back;
      left = λ h. let l = some h in omega arith;
      first = λ h. sym (hm ∙ get_or-take (e - a) (drop a s) n 0 (some h) ∙ get_or-drop a s n 0);
      decides = token_decides u k ∙ rw (marked 0x21 (omega arith), marked 0x26 (omega arith), is);
    }
  where
    -- what is not 0 stands within the list
    within : (l : List ℕ) (j size : ℕ) → length l ≡ size → 1 ≤ get_or l j 0 → j < size
    within l j size e h = go (dec_lt j size)
      where
        go : Dec (j < size) → j < size
        go (yes p) = p
        go (no p) = absurd (let d = get_or-eq_default l 0 {n = j} (omega arith) in omega arith)
