-- The laws of UTF-8 that callers go by: the test is true exactly for a text, a text is the encoding of its code points, a
-- boundary splits it into two texts, and the character at and before a boundary with their lengths.
use Rattle.std.specs.Prelude.{◌≡◌, true, false, ℕ, zero, suc, ◌+◌, ◌-◌, ◌≤◌, ◌<◌, leb, length, take, drop, get_or}
use Rattle.std.proofs.Math.Path.{refl, sym, ap}
use Rattle.std.proofs.Common.{◌∙◌, subst, arith, add-zero, lt-ltb, le-ltb, le-leb, leb-true, length-drop, drop_of_length-le, get_or-append-add, take_at, drop-cons, get_or-drop, drop-drop}
use mathlib.Core.List.{List, [], ◌∷◌, ◌++◌, map, append_assoc, append-nil}
use Rattle.std.proofs.Math.Decide.{dec_lt}
use Rattle.std.proofs.lemmas.Bool.{not-true}
use Rattle.std.proofs.Math.ListN.{length-append, get_or-append}
use Rattle.std.proofs.Math.Seq.{drop-append_seam, drop_at}
use Rattle.utf8.specs.Class.{is_continuation}
use Rattle.utf8.specs.Utf8.{ScalarValue, ScalarValues, Utf8, encode, encode_all}
use Rattle.utf8.specs.Characters.{Written, character, multi_byte, char_of, first_char, chars_after, codes, all_some, is_utf8, last_of, last_char}
use Rattle.utf8.specs.Boundary.{Boundary, is_boundary}
use Rattle.utf8.proofs.Bytes.{Continue, encoding, written}
use Rattle.utf8.specs.Tests.{clash, and_left, and_right}
use Rattle.utf8.specs.declared.utf8.Char.{Char}

-- ---- one character after the other

-- the character at a place, by the bytes there
first_char_bytes : (s : List ℕ) (i : ℕ) → i < length s → first_char (drop i s) ≡ char_of (get_or s i 0) (get_or s (i + 1) 0) (get_or s (i + 2) 0) (get_or s (i + 3) 0)
unfolding first_char
first_char_bytes s i h =
    ap first_char (drop-cons s i 0 h)
    ∙ rw (get_or-drop (suc i) s 0 0, get_or-drop (suc i) s 1 0, get_or-drop (suc i) s 2 0, next i 0, next i 1, next i 2)
  where
    next : (i k : ℕ) → suc i + k ≡ i + (k + 1)
    next i k = omega arith

pub first_char_ascii : (s : List ℕ) (i : ℕ) → i < length s → get_or s i 0 < 0x80 → first_char (drop i s) ≡ character (get_or s i 0) 1
unfolding char_of
first_char_ascii s i h l = first_char_bytes s i h ∙ rw (lt-ltb (get_or s i 0) 0x80 l)

pub first_char_multi : (s : List ℕ) (i : ℕ) → i < length s → 0x80 ≤ get_or s i 0 → first_char (drop i s) ≡ multi_byte (get_or s i 0) (get_or s (i + 1) 0) (get_or s (i + 2) 0) (get_or s (i + 3) 0)
unfolding char_of
first_char_multi s i h l = first_char_bytes s i h ∙ rw (le-ltb (get_or s i 0) 0x80 l)

passing : (n : ℕ) (s : List ℕ) → chars_after n s ≡ chars_after 0 (drop n s)
unfolding chars_after
passing zero s = refl
passing (suc n) [] = refl
passing (suc n) (b ∷ s) = passing n s

chars_step : (s : List ℕ) → 1 ≤ (first_char s).len → chars_after 0 s ≡ first_char s ∷ chars_after 0 (drop (first_char s).len s)
unfolding chars_after first_char
chars_step [] h = absurd (omega arith)
chars_step (a ∷ s) h = ap (λ (l : List Char). first_char (a ∷ s) ∷ l) (passing ((first_char (a ∷ s)).len - 1) s ∙ ap (λ (n : ℕ). chars_after 0 (drop n (a ∷ s))) (up (first_char (a ∷ s)).len h))
  where
    up : (n : ℕ) → 1 ≤ n → suc (n - 1) ≡ n
    up n h = omega arith

pub codes_step : (s : List ℕ) → 1 ≤ (first_char s).len → codes s ≡ (first_char s).code ∷ codes (drop (first_char s).len s)
unfolding codes
codes_step s h = ap (λ (l : List Char). map (λ (c : Char). c.code) l) (chars_step s h)

utf8_step : (s : List ℕ) → 1 ≤ (first_char s).len → is_utf8 s ≡ is_utf8 (drop (first_char s).len s)
unfolding is_utf8 all_some
utf8_step s h = ap all_some (chars_step s h) ∙ rw (lt-ltb 0 (first_char s).len h)

utf8_stuck : (s : List ℕ) → 1 ≤ length s → (first_char s).len ≡ 0 → is_utf8 s ≡ false
unfolding is_utf8 all_some chars_after
utf8_stuck [] l e = absurd (omega arith)
utf8_stuck (a ∷ s) l e = rw e

-- the character that bytes begin with lies within them
char_fits : (s : List ℕ) → (first_char s).len ≤ length s
char_fits s = go (dec_lt 0 (first_char s).len)
  where
    go : Dec (0 < (first_char s).len) → (first_char s).len ≤ length s
    go (no z) = omega arith
    go (yes h) =
        let w = written s h in
        let e = ap length w.is ∙ length-append (encode (first_char s).code) (drop (first_char s).len s) in
        let n = w.size in
        omega arith

-- the same at a place
pub char_room : (s : List ℕ) (i : ℕ) → i < length s → i + (first_char (drop i s)).len ≤ length s
char_room s i h = let f : (first_char (drop i s)).len ≤ length s - i = rw length-drop at (char_fits (drop i s)) in omega arith

pub utf8_on : (s : List ℕ) (i : ℕ) → 1 ≤ (first_char (drop i s)).len → is_utf8 (drop (i + (first_char (drop i s)).len) s) ≡ is_utf8 (drop i s)
utf8_on s i h = sym (utf8_step (drop i s) h ∙ ap is_utf8 (drop-drop (first_char (drop i s)).len i s))

pub utf8_stops : (s : List ℕ) (i : ℕ) → i < length s → (first_char (drop i s)).len ≡ 0 → is_utf8 (drop i s) ≡ false
utf8_stops s i h e = utf8_stuck (drop i s) (simp length-drop (omega arith)) e

pub utf8_end : (s : List ℕ) (i : ℕ) → length s ≤ i → is_utf8 (drop i s) ≡ true
unfolding is_utf8 chars_after all_some
utf8_end s i h = rw (drop_of_length-le s h)

-- ---- the test and the meaning

pub encode_some : (c : ℕ) → ScalarValue c → 1 ≤ length (encode c)
encode_some c v = rw (encoding c [] v).is (omega arith)

-- what is read of an encoding, and what is left after it
pub read : (c : ℕ) (t : List ℕ) → ScalarValue c → first_char (encode c ++ t) ≡ character c (length (encode c))
read c t v = (encoding c t v).reads

left : (c : ℕ) (t : List ℕ) → ScalarValue c → drop (first_char (encode c ++ t)).len (encode c ++ t) ≡ t
left c t v = rw (read c t v) (drop-append_seam (encode c) t)

some : (c : ℕ) (t : List ℕ) → ScalarValue c → 1 ≤ (first_char (encode c ++ t)).len
some c t v = rw (read c t v) (encode_some c v)

pub codes-encode_all : (cs : List ℕ) → ScalarValues cs → codes (encode_all cs) ≡ cs
unfolding codes encode_all chars_after
codes-encode_all [] v = refl
codes-encode_all (c ∷ cs) v =
    codes_step (encode c ++ encode_all cs) (some c (encode_all cs) v.0)
    ∙ rw (left c (encode_all cs) v.0, read c (encode_all cs) v.0, codes-encode_all cs v.1)

utf8_encode_all : (cs : List ℕ) → ScalarValues cs → is_utf8 (encode_all cs) ≡ true
unfolding is_utf8 encode_all chars_after all_some
utf8_encode_all [] v = refl
utf8_encode_all (c ∷ cs) v =
    utf8_step (encode c ++ encode_all cs) (some c (encode_all cs) v.0) ∙ rw (left c (encode_all cs) v.0) (utf8_encode_all cs v.1)

-- the test passes on a text
pub utf8_complete : {s : List ℕ} → Utf8 s → is_utf8 s ≡ true
utf8_complete u = rw u.encoded (utf8_encode_all u.characters u.scalars)

-- and on nothing else
pub utf8_sound : (s : List ℕ) → is_utf8 s ≡ true → Utf8 s
unfolding encode_all
utf8_sound s e = go (length s) s (omega arith) e
  where
    empty : (s : List ℕ) → length s ≤ 0 → Utf8 s
    empty [] l = record { characters = []; scalars = tt; encoded = refl }
    empty (a ∷ s) l = absurd (omega arith)

    step : (n : ℕ) (s : List ℕ) → length s ≤ suc n → is_utf8 s ≡ true → ((t : List ℕ) → length t ≤ n → is_utf8 t ≡ true → Utf8 t) → Dec (0 < length s) → Dec (0 < (first_char s).len) → Utf8 s
    step n s l e r (no p) d = empty s (omega arith)
    step n s l e r (yes p) (no z) = absurd (clash (sym e ∙ utf8_stuck s p (omega arith)))
    step n s l e r (yes p) (yes h) =
        let w = written s h in
        let u = r (drop (first_char s).len s) (simp length-drop (omega arith)) (sym (utf8_step s h) ∙ e) in
        record {
          characters = (first_char s).code ∷ u.characters;
          scalars = (w.scalar, u.scalars);
          encoded = w.is ∙ ap (λ (l : List ℕ). encode (first_char s).code ++ l) u.encoded;
        }

    go : (n : ℕ) (s : List ℕ) → length s ≤ n → is_utf8 s ≡ true → Utf8 s
    go zero s l e = empty s l
    go (suc n) s l e = step n s l e (go n) (dec_lt 0 (length s)) (dec_lt 0 (first_char s).len)

-- ---- a text is the encoding of its code points

pub codes_are : {s : List ℕ} (u : Utf8 s) → codes s ≡ u.characters
codes_are u = ap codes u.encoded ∙ codes-encode_all u.characters u.scalars

pub codes_encode : {s : List ℕ} → Utf8 s → s ≡ encode_all (codes s)
codes_encode u = u.encoded ∙ ap encode_all (sym (codes_are u))

pub codes_scalars : {s : List ℕ} → Utf8 s → ScalarValues (codes s)
codes_scalars u = rw (codes_are u) u.scalars

pub utf8_of : (cs : List ℕ) → ScalarValues cs → Utf8 (encode_all cs)
utf8_of cs v = record { characters = cs; scalars = v; encoded = refl }

pub encode_all_append : (xs ys : List ℕ) → encode_all (xs ++ ys) ≡ encode_all xs ++ encode_all ys
unfolding encode_all
encode_all_append [] ys = refl
encode_all_append (x ∷ xs) ys = ap (λ (l : List ℕ). encode x ++ l) (encode_all_append xs ys) ∙ sym (append_assoc (encode x) (encode_all xs) (encode_all ys))

pub scalars_front : (xs ys : List ℕ) → ScalarValues (xs ++ ys) → ScalarValues xs
scalars_front [] ys v = tt
scalars_front (x ∷ xs) ys v = (v.0, scalars_front xs ys v.1)

pub scalars_back : (xs ys : List ℕ) → ScalarValues (xs ++ ys) → ScalarValues ys
scalars_back [] ys v = v
scalars_back (x ∷ xs) ys v = scalars_back xs ys v.1

-- ---- what is read from bytes, in terms of `Utf8`

pub last_of_lem : (xs : List ℕ) (c : ℕ) → last_of (xs ++ (c ∷ [])) ≡ character c (length (encode c))
unfolding last_of
last_of_lem [] c = refl
last_of_lem (x ∷ []) c = refl
last_of_lem (x ∷ y ∷ xs) c = last_of_lem (y ∷ xs) c

pub record CharactersRead : Type 0 where
  -- the test is true of a text and of nothing else
  pub text_passes : {s : List ℕ} → Utf8 s → is_utf8 s ≡ true
  pub only_text_passes : (s : List ℕ) → is_utf8 s ≡ true → Utf8 s
  -- the code points of a text are those that it encodes
  pub codes_of_text : {s : List ℕ} (u : Utf8 s) → codes s ≡ u.characters
  -- a character is read where its encoding stands, and nowhere else
  pub first_of_written : (c : ℕ) (t : List ℕ) → ScalarValue c → first_char (encode c ++ t) ≡ character c (length (encode c))
  pub only_written_first : (s : List ℕ) → 1 ≤ (first_char s).len → Written s (first_char s)
  -- the last one of a text
  pub last_of_text : (cs : List ℕ) (c : ℕ) → ScalarValues (cs ++ (c ∷ [])) → last_char (encode_all (cs ++ (c ∷ []))) ≡ character c (length (encode c))

pub characters_read : CharactersRead
unfolding last_char
characters_read =
    record {
      text_passes = utf8_complete;
      only_text_passes = utf8_sound;
      codes_of_text = codes_are;
      first_of_written = read;
      only_written_first = written;
      last_of_text = λ cs c v. rw (codes-encode_all (cs ++ (c ∷ [])) v) (last_of_lem cs c);
    }

-- ---- boundaries

pub is_boundary_lem : {s : List ℕ} {i : ℕ} → is_boundary s i ≡ true → Boundary s i
unfolding is_boundary
is_boundary_lem {s} {i} e =
    record { within = leb-true i (length s) (and_left (leb i (length s)) _ e); edge = not-true _ (and_right (leb i (length s)) _ e) }

pub boundary_is : {s : List ℕ} {i : ℕ} → Boundary s i → is_boundary s i ≡ true
unfolding is_boundary
boundary_is {s} {i} b = rw (le-leb i (length s) b.within, b.edge)

-- no text begins with a continuation byte
begins : {s : List ℕ} → Utf8 s → is_continuation (get_or s 0 0) ≡ false
unfolding encode_all
begins u = rw u.encoded (go u.characters u.scalars)
  where
    go : (cs : List ℕ) → ScalarValues cs → is_continuation (get_or (encode_all cs) 0 0) ≡ false
    go [] v = refl
    go (c ∷ cs) v = let e = encoding c (encode_all cs) v.0 in rw e.is e.begins

pub boundary_start : {s : List ℕ} → Utf8 s → Boundary s 0
boundary_start u = record { within = omega arith; edge = begins u }

-- between two texts stands a boundary
pub boundary_between : (a b : List ℕ) → Utf8 b → Boundary (a ++ b) (length a)
boundary_between a b u =
    record {
      within = simp length-append (omega arith);
      edge = subst (λ (n : ℕ). is_continuation (get_or (a ++ b) n 0) ≡ false) (add-zero (length a)) (rw (get_or-append-add a b 0 0) (begins u));
    }

-- a place of a text, by the characters before and after it
pub record Place (s : List ℕ) (i : ℕ) : Type 0 where
  pub before : List ℕ
  pub after : List ℕ
  pub scalars : ScalarValues (before ++ after)
  pub text : s ≡ encode_all before ++ encode_all after
  pub offset : i ≡ length (encode_all before)

continue_at : (s : List ℕ) → Continue s → (j : ℕ) → j < length s → is_continuation (get_or s j 0) ≡ true
continue_at [] f j h = absurd (omega arith)
continue_at (b ∷ s) f zero h = f.0
continue_at (b ∷ s) f (suc j) h = continue_at s f.1 j (omega arith)

-- inside an encoding every byte but the first continues
inner : (c : ℕ) (t : List ℕ) → ScalarValue c → (j : ℕ) → 0 < j → j < length (encode c) → is_continuation (get_or (encode c ++ t) j 0) ≡ true
inner c t v zero z h = absurd (omega arith)
inner c t v (suc j) z h =
    let e = encoding c t v in
    rw (get_or-append (encode c) t 0 (suc j) h, e.is) (continue_at e.more e.continues j (let n : length (encode c) ≡ suc (length e.more) = ap length e.is in omega arith))

place_behind : (c : ℕ) (t : List ℕ) (i j : ℕ) → ScalarValue c → i ≡ length (encode c) + j → Place t j → Place (encode c ++ t) i
unfolding encode_all
place_behind c t i j v e p =
    record {
      before = c ∷ p.before;
      after = p.after;
      scalars = (v, p.scalars);
      text = ap (λ (l : List ℕ). encode c ++ l) p.text ∙ sym (append_assoc (encode c) (encode_all p.before) (encode_all p.after));
      offset = e ∙ ap (λ (k : ℕ). length (encode c) + k) p.offset ∙ sym (length-append (encode c) (encode_all p.before));
    }

boundary_behind : (a b : List ℕ) (i : ℕ) → length a ≤ i → Boundary (a ++ b) i → Boundary b (i - length a)
boundary_behind a b i h k =
    let e : length a + (i - length a) ≡ i = omega arith in
    let w : i ≤ length a + length b = rw length-append at k.within in
    record { within = omega arith; edge = rw (← get_or-append-add a b (i - length a) 0, e) k.edge }

place_in : (cs : List ℕ) → ScalarValues cs → (i : ℕ) → Boundary (encode_all cs) i → Place (encode_all cs) i
unfolding encode_all
place_in [] v i b = record { before = []; after = []; scalars = tt; text = refl; offset = let w = b.within in omega arith }
place_in (c ∷ cs) v zero b = record { before = []; after = c ∷ cs; scalars = v; text = refl; offset = refl }
place_in (c ∷ cs) v (suc i) b = go (dec_lt (suc i) (length (encode c))) (place_in cs v.1 (suc i - length (encode c)))
  where
    go : Dec (suc i < length (encode c)) → (Boundary (encode_all cs) (suc i - length (encode c)) → Place (encode_all cs) (suc i - length (encode c))) → Place (encode c ++ encode_all cs) (suc i)
    go (yes h) r = absurd (clash (sym (inner c (encode_all cs) v.0 (suc i) (omega arith) h) ∙ b.edge))
    go (no h) r =
        place_behind c (encode_all cs) (suc i) (suc i - length (encode c)) v.0 (omega arith) (r (boundary_behind (encode c) (encode_all cs) (suc i) (omega arith) b))

-- a boundary of a text is such a place
pub place_at_lem : {s : List ℕ} {i : ℕ} → Utf8 s → Boundary s i → Place s i
place_at_lem {s} {i} u b =
    subst (λ (l : List ℕ). Place l i) (sym u.encoded) (place_in u.characters u.scalars i (subst (λ (l : List ℕ). Boundary l i) u.encoded b))

pub place_front : {s : List ℕ} {i : ℕ} (p : Place s i) → take i s ≡ encode_all p.before
place_front {s} {i} p = rw p.text (take_at (encode_all p.before) (encode_all p.after) i (sym p.offset))

pub place_back : {s : List ℕ} {i : ℕ} (p : Place s i) → drop i s ≡ encode_all p.after
place_back {s} {i} p = rw p.text (drop_at (encode_all p.before) (encode_all p.after) i (sym p.offset))

pub place_boundary : {s : List ℕ} {i : ℕ} → Place s i → Boundary s i
place_boundary {s} {i} p =
    rw (p.text, p.offset) (boundary_between (encode_all p.before) (encode_all p.after) (utf8_of p.after (scalars_back p.before p.after p.scalars)))

-- a boundary cuts a text into two
pub record Split (s : List ℕ) (i : ℕ) : Type 0 where
  pub front : Utf8 (take i s)
  pub back : Utf8 (drop i s)
  pub joined : codes s ≡ codes (take i s) ++ codes (drop i s)

pub boundary_splits : {s : List ℕ} {i : ℕ} → Utf8 s → Boundary s i → Split s i
boundary_splits {s} {i} u b =
    let p = place_at_lem u b in
    let xs = p.before in
    let ys = p.after in
    let v = scalars_front xs ys p.scalars in
    let w = scalars_back xs ys p.scalars in
    record {
      front = rw (place_front p) (utf8_of xs v);
      back = rw (place_back p) (utf8_of ys w);
      joined =
          ap codes (p.text ∙ sym (encode_all_append xs ys)) ∙ codes-encode_all (xs ++ ys) p.scalars
          ∙ rw (place_front p, place_back p, codes-encode_all xs v, codes-encode_all ys w);
    }

-- ---- the character between two boundaries

-- the text s, with the character k from byte i on
pub record CharAt (s : List ℕ) (i : ℕ) (k : Char) : Type 0 where
  pub scalar : ScalarValue k.code
  pub size : k.len ≡ length (encode k.code)
  pub some : 1 ≤ k.len
  pub room : i + k.len ≤ length s
  pub start : Boundary s i
  pub next : Boundary s (i + k.len)
  -- it is what is read at its start, and the last of the bytes up to its end
  pub first : first_char (drop i s) ≡ k
  pub last : last_char (take (i + k.len) s) ≡ k
  -- the code points from its start on, and up to its end
  pub forward : codes (drop i s) ≡ k.code ∷ codes (drop (i + k.len) s)
  pub backward : codes (take (i + k.len) s) ≡ codes (take i s) ++ (k.code ∷ [])
  pub continues : (j : ℕ) → i < j → j < i + k.len → is_continuation (get_or s j 0) ≡ true

-- a text with the character c between two others
abbrev around : List ℕ → ℕ → List ℕ → List ℕ
around xs c ys = encode_all xs ++ (encode c ++ encode_all ys)

module _ (xs : List ℕ) (c : ℕ) (ys : List ℕ) (vx : ScalarValues xs) (vc : ScalarValue c) (vy : ScalarValues ys) where
  regrouped : around xs c ys ≡ (encode_all xs ++ encode c) ++ encode_all ys
  regrouped = sym (append_assoc (encode_all xs) (encode c) (encode_all ys))

  reached : length (encode_all xs ++ encode c) ≡ length (encode_all xs) + length (encode c)
  reached = length-append (encode_all xs) (encode c)

  with_c : encode_all xs ++ encode c ≡ encode_all (xs ++ (c ∷ []))
  unfolding encode_all
  with_c = ap (λ (l : List ℕ). encode_all xs ++ l) (sym (append-nil (encode c))) ∙ sym (encode_all_append xs (c ∷ []))

  scalars_c : ScalarValues (xs ++ (c ∷ []))
  scalars_c = join xs vx
    where
      join : (zs : List ℕ) → ScalarValues zs → ScalarValues (zs ++ (c ∷ []))
      join [] v = (vc, tt)
      join (z ∷ zs) v = (v.0, join zs v.1)

  to_c : take (length (encode_all xs)) (around xs c ys) ≡ encode_all xs
  to_c = take_at (encode_all xs) (encode c ++ encode_all ys) (length (encode_all xs)) refl

  past_c : take (length (encode_all xs) + length (encode c)) (around xs c ys) ≡ encode_all (xs ++ (c ∷ []))
  past_c = rw regrouped (take_at (encode_all xs ++ encode c) (encode_all ys) (length (encode_all xs) + length (encode c)) reached) ∙ with_c

  from_c : drop (length (encode_all xs)) (around xs c ys) ≡ encode_all (c ∷ ys)
  unfolding encode_all
  from_c = drop_at (encode_all xs) (encode c ++ encode_all ys) (length (encode_all xs)) refl

  after_c : drop (length (encode_all xs) + length (encode c)) (around xs c ys) ≡ encode_all ys
  after_c = rw regrouped (drop_at (encode_all xs ++ encode c) (encode_all ys) (length (encode_all xs) + length (encode c)) reached)

  start_c : Boundary (around xs c ys) (length (encode_all xs))
  unfolding encode_all
  start_c = boundary_between (encode_all xs) (encode c ++ encode_all ys) (utf8_of (c ∷ ys) (vc, vy))

  next_c : Boundary (around xs c ys) (length (encode_all xs) + length (encode c))
  next_c = rw (← reached, regrouped) (boundary_between (encode_all xs ++ encode c) (encode_all ys) (utf8_of ys vy))

  inner_c : (j : ℕ) → length (encode_all xs) < j → j < length (encode_all xs) + length (encode c) → is_continuation (get_or (around xs c ys) j 0) ≡ true
  inner_c j l h =
      let n = length (encode_all xs) in
      let e : n + (j - n) ≡ j = omega arith in
      subst (λ (m : ℕ). is_continuation (get_or (around xs c ys) m 0) ≡ true) e
      (rw (get_or-append-add (encode_all xs) (encode c ++ encode_all ys) (j - n) 0) (inner c (encode_all ys) vc (j - n) (omega arith) (omega arith)))

  char_around : CharAt (around xs c ys) (length (encode_all xs)) (character c (length (encode c)))
  unfolding encode_all last_char
  char_around =
      record {
        scalar = vc;
        size = refl;
        some = encode_some c vc;
        room = rw (regrouped, length-append, reached) (omega arith);
        start = start_c;
        next = next_c;
        first = rw from_c (read c (encode_all ys) vc);
        last = rw (past_c, codes-encode_all (xs ++ (c ∷ [])) scalars_c) (last_of_lem xs c);
        forward = rw (from_c, after_c, codes-encode_all (c ∷ ys) (vc, vy), codes-encode_all ys vy);
        backward = rw (past_c, to_c, codes-encode_all (xs ++ (c ∷ [])) scalars_c, codes-encode_all xs vx);
        continues = inner_c;
      }

-- the character at a boundary that is not the end
pub char_at : {s : List ℕ} {i : ℕ} → Utf8 s → Boundary s i → i < length s → CharAt s i (first_char (drop i s))
unfolding encode_all
char_at {s} {i} u b h =
    let p = place_at_lem u b in
    let e : length s ≡ length (encode_all p.before) + length (encode_all p.after) = ap length p.text ∙ length-append (encode_all p.before) (encode_all p.after) in
    let o = p.offset in
    go p.before p.after p.scalars p.text o (omega arith)
  where
    go : (xs ys : List ℕ) → ScalarValues (xs ++ ys) → s ≡ encode_all xs ++ encode_all ys → i ≡ length (encode_all xs) → 0 < length (encode_all ys) → CharAt s i (first_char (drop i s))
    go xs [] v e o l = absurd (omega arith)
    go xs (c ∷ ys) v e o l =
        let w = scalars_back xs (c ∷ ys) v in
        let k = char_around xs c ys (scalars_front xs (c ∷ ys) v) w.0 w.1 in
        rw (e, o) (subst (λ (x : Char). CharAt (around xs c ys) (length (encode_all xs)) x) (sym k.first) k)

-- the character before a boundary that is not the start: k ends at byte i
pub record CharBefore (s : List ℕ) (i : ℕ) (k : Char) : Type 0 where
  pub fits : k.len ≤ i
  pub is : CharAt s (i - k.len) k

-- a list is empty or ends in an element
data Ended : List ℕ → Type 0 where
  empty : Ended []
  ended : (xs : List ℕ) (c : ℕ) → Ended (xs ++ (c ∷ []))

ending : (l : List ℕ) → Ended l
ending [] = empty
ending (x ∷ l) = go (ending l)
  where
    go : {l : List ℕ} → Ended l → Ended (x ∷ l)
    go empty = ended [] x
    go (ended xs c) = ended (x ∷ xs) c

before_from : {s : List ℕ} {n : ℕ} {k : Char} → CharAt s n k → CharBefore s (n + k.len) (last_char (take (n + k.len) s))
before_from {s} {n} {k} a =
    rw a.last (record { fits = omega arith; is = subst (λ (m : ℕ). CharAt s m k) (less n k.len) a })
  where
    less : (a b : ℕ) → a ≡ a + b - b
    less a b = omega arith

pub char_before : {s : List ℕ} {i : ℕ} → Utf8 s → Boundary s i → 0 < i → CharBefore s i (last_char (take i s))
unfolding encode_all
char_before {s} {i} u b h =
    let p = place_at_lem u b in
    go p.before (ending p.before) p.after p.scalars p.text p.offset
  where
    go : (zs : List ℕ) → Ended zs → (ys : List ℕ) → ScalarValues (zs ++ ys) → s ≡ encode_all zs ++ encode_all ys → i ≡ length (encode_all zs) → CharBefore s i (last_char (take i s))
    go zs empty ys v e o = absurd (omega arith)
    go zs (ended xs c) ys v e o =
        let w = scalars_front (xs ++ (c ∷ [])) ys v in
        let vx = scalars_front xs (c ∷ []) w in
        let vc = (scalars_back xs (c ∷ []) w).0 in
        let vy = scalars_back (xs ++ (c ∷ [])) ys v in
        let t : s ≡ around xs c ys = e ∙ ap (λ (l : List ℕ). l ++ encode_all ys) (sym (with_c xs c ys vx vc vy)) ∙ append_assoc (encode_all xs) (encode c) (encode_all ys) in
        let f : i ≡ length (encode_all xs) + length (encode c) = o ∙ ap length (sym (with_c xs c ys vx vc vy)) ∙ length-append (encode_all xs) (encode c) in
        rw (t, f) (before_from (char_around xs c ys vx vc vy))
