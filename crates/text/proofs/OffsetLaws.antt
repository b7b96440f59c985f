-- The laws of marker offsets that callers go by: an offset is a boundary within the text, and an index past the text has its length; a
-- cursor that stands goes on and back by one character; what is told of it is told of `cursor_at`; and ASCII texts, where indices are
-- offsets.
use Rattle.std.specs.Prelude.{◌≡◌, refl, true, List, [], ◌∷◌, ◌++◌, ℕ, zero, suc, ◌+◌, ◌-◌, ◌≤◌, ◌<◌, min, ltb, length, take, drop, get_or}
use Rattle.std.proofs.Common.{sym, ◌∙◌, ap, append-nil, arith, ltb-true, length-append, length-drop, length-take, take-append-drop, drop_of_length-le, take-suc, drop-cons, take_all}
use Rattle.std.proofs.Math.Decide.{dec_lt}
use Rattle.utf8.specs.Utf8.{ScalarValue, ScalarValues, Utf8, encode, encode_all, is_ascii}
use Rattle.utf8.specs.Characters.{character, first_char, codes, chars_after, is_utf8, last_of, last_char, all_some}
use Rattle.utf8.specs.Boundary.{Boundary}
use Rattle.text.specs.Offset.{byte_offset, cursor_at, Stands}
use Rattle.utf8.specs.Tests.{and_left, and_right}
use Rattle.utf8.proofs.Utf8Laws.{Place, place_front, place_back, place_boundary, codes_are, codes_encode, codes_scalars, codes-encode_all, encode_all_append, scalars_front, encode_some, read, last_of_lem, first_char_ascii, codes_step}
use Rattle.utf8.specs.declared.utf8.Char.{Char}

-- ---- offsets

-- the place before character k
index_place : {s : List ℕ} → Utf8 s → (k : ℕ) → Place s (byte_offset s k)
unfolding byte_offset
index_place {s} u k =
    record {
      before = take k (codes s);
      after = drop k (codes s);
      scalars = rw (take-append-drop k (codes s)) (codes_scalars u);
      text = codes_encode u ∙ ap encode_all (sym (take-append-drop k (codes s))) ∙ encode_all_append (take k (codes s)) (drop k (codes s));
      offset = refl;
    }

pub index_front : {s : List ℕ} → Utf8 s → (k : ℕ) → take (byte_offset s k) s ≡ encode_all (take k (codes s))
unfolding index_place
index_front u k = place_front (index_place u k)

index_back : {s : List ℕ} → Utf8 s → (k : ℕ) → drop (byte_offset s k) s ≡ encode_all (drop k (codes s))
unfolding index_place
index_back u k = place_back (index_place u k)

pub offset_boundary : {s : List ℕ} → Utf8 s → (k : ℕ) → Boundary s (byte_offset s k)
offset_boundary u k = place_boundary (index_place u k)

pub offset_within : {s : List ℕ} → Utf8 s → (k : ℕ) → byte_offset s k ≤ length s
offset_within u k = (offset_boundary u k).within

-- one character more
pub offset_next : (s : List ℕ) (k : ℕ) → k < length (codes s) → byte_offset s (suc k) ≡ byte_offset s k + length (encode (get_or (codes s) k 0))
unfolding byte_offset encode_all
offset_next s k h =
    let c = get_or (codes s) k 0 in
    ap (λ (l : List ℕ). length (encode_all l)) (take-suc (codes s) k 0 h)
    ∙ ap length (encode_all_append (take k (codes s)) (c ∷ []))
    ∙ length-append (encode_all (take k (codes s))) (encode c ++ [])
    ∙ ap (λ (l : List ℕ). length (encode_all (take k (codes s))) + length l) (append-nil (encode c))

-- past the last character
pub offset_past : (s : List ℕ) (k m : ℕ) → length (codes s) ≤ k → length (codes s) ≤ m → byte_offset s k ≡ byte_offset s m
unfolding byte_offset
offset_past s k m h l = rw (take_all k (codes s) h, take_all m (codes s) l)

scalar_at_lem : (cs : List ℕ) (k : ℕ) → ScalarValues cs → k < length cs → ScalarValue (get_or cs k 0)
scalar_at_lem [] k v h = absurd (omega arith)
scalar_at_lem (c ∷ cs) zero v h = v.0
scalar_at_lem (c ∷ cs) (suc k) v h = scalar_at_lem cs k v.1 (omega arith)

-- before the last character's end
offset_inside : {s : List ℕ} → Utf8 s → (k : ℕ) → k < length (codes s) → byte_offset s k < length s
offset_inside {s} u k h =
    let next = offset_next s k h in
    let within = offset_within u (suc k) in
    let some = encode_some (get_or (codes s) k 0) (scalar_at_lem (codes s) k (codes_scalars u) h) in
    omega arith

-- ---- in document 01's words (P1): a text is the encodings of its characters, one after the other

-- the offset of index k is the bytes of the first k characters
pub offset_of_characters : {s : List ℕ} (u : Utf8 s) (k : ℕ) → byte_offset s k ≡ length (encode_all (take k u.characters))
unfolding byte_offset
offset_of_characters u k = rw (codes_are u)

-- an index past the text gives the text's length
pub offset_past_text : {s : List ℕ} (u : Utf8 s) (k : ℕ) → length u.characters ≤ k → byte_offset s k ≡ length s
offset_past_text u k h = offset_of_characters u k ∙ rw (take_all k u.characters h) (sym (ap length u.encoded))

-- and at every other a character begins
pub record CharacterAt (s : List ℕ) (i : ℕ) : Type 0 where
  pub inside : i < length s
  pub begins : Boundary s i

pub offset_in_text : {s : List ℕ} (u : Utf8 s) (k : ℕ) → k < length u.characters → CharacterAt s (byte_offset s k)
offset_in_text u k h = record { inside = offset_inside u k (rw (codes_are u) h); begins = offset_boundary u k }

-- ---- the cursor

pub stands_boundary : {s : List ℕ} {k i : ℕ} → Utf8 s → Stands s k i → Boundary s i
stands_boundary {s} {k} {i} u h = rw h.placed (offset_boundary u k)

pub stands_start : (s : List ℕ) → Stands s 0 0
unfolding byte_offset encode_all
stands_start s = record { counted = omega arith; placed = refl }

-- where there is a byte, there is a character
more : {s : List ℕ} {k i : ℕ} → Utf8 s → Stands s k i → i < length s → k < length (codes s)
unfolding encode_all
more {s} {k} {i} u h l = go (dec_lt k (length (codes s)))
  where
    go : Dec (k < length (codes s)) → k < length (codes s)
    go (yes p) = p
    go (no p) =
        absurd
        (let e : drop i s ≡ [] = rw h.placed (index_back u k) ∙ ap encode_all (drop_of_length-le (codes s) {i = k} (omega arith)) in
        let n : length s - i ≡ 0 = rw length-drop at (ap length e) in
        omega arith)

pub stands_next : {s : List ℕ} {k i : ℕ} → Utf8 s → Stands s k i → i < length s → Stands s (k + 1) (i + (first_char (drop i s)).len)
unfolding encode_all
stands_next {s} {k} {i} u h l =
    let m = more u h l in
    let c = get_or (codes s) k 0 in
    let rest = encode_all (drop (suc k) (codes s)) in
    let e : drop i s ≡ encode c ++ rest = rw h.placed (index_back u k) ∙ ap encode_all (drop-cons (codes s) k 0 m) in
    let f : (first_char (drop i s)).len ≡ length (encode c) = ap (λ (x : List ℕ). (first_char x).len) e ∙ ap (λ (x : Char). x.len) (read c rest (scalar_at_lem (codes s) k (codes_scalars u) m)) in
    let o = offset_next s k m in
    let p = h.placed in
    record { counted = omega arith; placed = rw (f, one k) (omega arith) }
  where
    one : (k : ℕ) → k + 1 ≡ suc k
    one k = omega arith

-- where a character was passed, it is the one that ends here
pub record StepsBack (s : List ℕ) (k i : ℕ) : Type 0 where
  pub some : 0 < (last_char (take i s)).len
  pub fits : (last_char (take i s)).len ≤ i
  pub stands : Stands s (k - 1) (i - (last_char (take i s)).len)

last_passed : (s : List ℕ) (k : ℕ) → Utf8 s → k < length (codes s) → last_char (take (byte_offset s (suc k)) s) ≡ character (get_or (codes s) k 0) (length (encode (get_or (codes s) k 0)))
unfolding last_char
last_passed s k u h =
    let front = codes_scalars u in
    let scalars : ScalarValues (take (suc k) (codes s)) = scalars_front (take (suc k) (codes s)) (drop (suc k) (codes s)) (rw (take-append-drop (suc k) (codes s)) front) in
    ap (λ (l : List ℕ). last_of (codes l)) (index_front u (suc k))
    ∙ ap last_of (codes-encode_all (take (suc k) (codes s)) scalars ∙ take-suc (codes s) k 0 h)
    ∙ last_of_lem (take k (codes s)) (get_or (codes s) k 0)

pub stands_previous : {s : List ℕ} {k i : ℕ} → Utf8 s → Stands s k i → 0 < k → StepsBack s k i
stands_previous {s} {k} {i} u h l = go k h l
  where
    go : (k : ℕ) → Stands s k i → 0 < k → StepsBack s k i
    go zero h l = absurd (omega arith)
    go (suc k) h l =
        let e : (last_char (take i s)).len ≡ length (encode (get_or (codes s) k 0)) = rw h.placed (ap (λ (x : Char). x.len) (last_passed s k u h.counted)) in
        let o = offset_next s k h.counted in
        let p = h.placed in
        let m = h.counted in
        let d : suc k - 1 ≡ k = omega arith in
        let bytes = encode_some (get_or (codes s) k 0) (scalar_at_lem (codes s) k (codes_scalars u) h.counted) in
        record { some = omega arith; fits = omega arith; stands = rw d (record { counted = omega arith; placed = omega arith }) }

-- what stands is the cursor at its own index
pub stands_cursor : {s : List ℕ} {k i : ℕ} → Stands s k i → record { chars = k; offset = i } ≡ cursor_at s k
unfolding cursor_at
stands_cursor {s} {k} {i} h = let m = h.counted in let e : min k (length (codes s)) ≡ k = omega arith in rw (e, h.placed)

-- at the end it is the cursor at every index from there on
pub stands_end : {s : List ℕ} {k i : ℕ} → Utf8 s → Stands s k i → length s ≤ i → (m : ℕ) → k ≤ m → record { chars = k; offset = i } ≡ cursor_at s m
unfolding cursor_at
stands_end {s} {k} {i} u h l m g =
    let n = all (dec_lt k (length (codes s))) in
    let e : min m (length (codes s)) ≡ k = omega arith in
    rw (e, h.placed, offset_past s k m (omega arith) (omega arith))
  where
    all : Dec (k < length (codes s)) → k ≡ length (codes s)
    all (no p) = let c = h.counted in omega arith
    all (yes p) = absurd (let e = h.placed in let o = offset_inside u k p in omega arith)

-- the cursor at an index stands
pub cursor_stands : (s : List ℕ) (k : ℕ) → Stands s (cursor_at s k).chars (cursor_at s k).offset
unfolding cursor_at
cursor_stands s k = record { counted = omega arith; placed = go (dec_lt k (length (codes s))) }
  where
    go : Dec (k < length (codes s)) → byte_offset s k ≡ byte_offset s (min k (length (codes s)))
    go (yes p) = let e : min k (length (codes s)) ≡ k = omega arith in rw e
    go (no p) = offset_past s k (min k (length (codes s))) (omega arith) (omega arith)

-- ---- ASCII

ascii_head : (b : ℕ) (s : List ℕ) → b < 0x80 → first_char (b ∷ s) ≡ character b 1
ascii_head b s h = first_char_ascii (b ∷ s) 0 (omega arith) h

ascii_codes : (s : List ℕ) → is_ascii s ≡ true → codes s ≡ s
unfolding is_ascii codes chars_after
ascii_codes [] e = refl
ascii_codes (b ∷ s) e =
    let h = ascii_head b s (ltb-true b 0x80 (and_left (ltb b 0x80) (is_ascii s) e)) in
    codes_step (b ∷ s) (rw h (omega arith)) ∙ rw h (ap (λ (l : List ℕ). b ∷ l) (ascii_codes s (and_right (ltb b 0x80) (is_ascii s) e)))

ascii_encode : (s : List ℕ) (k : ℕ) → is_ascii s ≡ true → length (encode_all (take k s)) ≡ length (take k s)
unfolding is_ascii encode_all encode
ascii_encode s zero e = refl
ascii_encode [] (suc k) e = refl
ascii_encode (b ∷ s) (suc k) e =
    rw (and_left (ltb b 0x80) (is_ascii s) e) (ap suc (ascii_encode s k (and_right (ltb b 0x80) (is_ascii s) e)))

-- an index is its own offset
pub ascii_cursor : (s : List ℕ) (k : ℕ) → is_ascii s ≡ true → cursor_at s k ≡ record { chars = min k (length s); offset = min k (length s) }
unfolding cursor_at byte_offset
ascii_cursor s k e = rw (ascii_codes s e, ascii_encode s k e, length-take k s)

-- it is UTF-8
pub ascii_utf8 : (s : List ℕ) → is_ascii s ≡ true → is_utf8 s ≡ true
unfolding is_ascii is_utf8 chars_after all_some
ascii_utf8 [] e = refl
ascii_utf8 (b ∷ s) e = rw (ascii_head b s (ltb-true b 0x80 (and_left (ltb b 0x80) (is_ascii s) e))) (ascii_utf8 s (and_right (ltb b 0x80) (is_ascii s) e))
