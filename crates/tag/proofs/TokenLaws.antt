-- The laws of tokens: the code points before a place, one step back at a time; what a step back over some characters leaves and
-- passes; what a token is (`no_tokens`, `next_token`); and the last token before a place as the search reads it.
use mathlib.Core.Path.{◌≡◌, refl, sym, ◌∙◌, ap, subst}
use mathlib.Core.Bool.{Bool, true, false, not, cond}
use mathlib.Core.List.{List, [], ◌∷◌, ◌++◌, append_assoc, append-nil, reverse, reverse_aux, reverse_aux-eq, reverse-append, reverse-reverse}
use Prim.Native.Nat.{ℕ, ◌+◌, ◌-◌, ◌≤◌, ◌<◌}
use native.Mathlib.Omega.{arith}
use borrow.Author.Tests.{not-true}
use lib.ListN.{length, take, drop, length-append, length-take}
use lib.Seq.{take_at}
use Rattle.utf8.specs.Utf8.{ScalarValues, Utf8, encode, encode_all}
use Rattle.utf8.specs.Characters.{codes, chars_after, last_char}
use Rattle.utf8.specs.Boundary.{Boundary}
use Rattle.utf8.specs.WhiteSpace.{is_white_space}
use Rattle.utf8.proofs.Utf8Laws.{codes_encode, codes-encode_all, encode_all_append, scalars_front, Place, place_at_lem, place_front, place_back, place_boundary, boundary_splits, char_before}
use Rattle.utf8.specs.declared.utf8.Char.{Char}
use Rattle.tag.specs.Tokens.{byte_length, chars_before, token, with_word, tokens, tokens_before}
use Rattle.tag.specs.Proved.{All, Edge, TokensAre}
use Rattle.tag.specs.Back.{skip, back_over, is_token_char}

-- ---- bytes

pub byte_length_cons : (c : ℕ) (cs : List ℕ) → byte_length (c ∷ cs) ≡ length (encode c) + byte_length cs
unfolding byte_length encode_all
byte_length_cons c cs = length-append (encode c) (encode_all cs)

byte_length_append : (xs ys : List ℕ) → byte_length (xs ++ ys) ≡ byte_length xs + byte_length ys
unfolding byte_length
byte_length_append xs ys = ap length (encode_all_append xs ys) ∙ length-append (encode_all xs) (encode_all ys)

byte_length_reverse_aux : (xs ys : List ℕ) → byte_length (reverse_aux xs ys) ≡ byte_length xs + byte_length ys
unfolding byte_length encode_all
byte_length_reverse_aux [] ys = omega arith
byte_length_reverse_aux (x ∷ xs) ys =
    let r = byte_length_reverse_aux xs (x ∷ ys) in
    let e = byte_length_cons x xs in
    let f = byte_length_cons x ys in
    r ∙ omega arith

-- the order does not matter
byte_length-reverse : (xs : List ℕ) → byte_length (reverse xs) ≡ byte_length xs
unfolding byte_length encode_all
byte_length-reverse xs = let r = byte_length_reverse_aux xs [] in r ∙ omega arith

-- ---- the code points before a place

pub before_start : (s : List ℕ) → chars_before s 0 ≡ []
unfolding chars_before codes chars_after
before_start s = refl

before_codes : (s : List ℕ) (i : ℕ) → reverse (chars_before s i) ≡ codes (take i s)
unfolding chars_before
before_codes s i = reverse-reverse (codes (take i s))

pub byte_length_before : {s : List ℕ} {i : ℕ} → Utf8 s → Boundary s i → byte_length (chars_before s i) ≡ i
unfolding chars_before byte_length
byte_length_before {s} {i} u b =
    let w = b.within in
    let e : length (take i s) ≡ i = length-take i s ∙ omega arith in
    byte_length-reverse (codes (take i s)) ∙ sym (ap length (codes_encode (boundary_splits u b).front)) ∙ e

-- k is the character that ends at byte i: one step back
pub record StepBack (s : List ℕ) (i : ℕ) (k : Char) : Type 0 where
  pub fits : k.len ≤ i
  pub some : 1 ≤ k.len
  pub edge : Boundary s (i - k.len)
  pub is : chars_before s i ≡ k.code ∷ chars_before s (i - k.len)

pub steps_back_lem : {s : List ℕ} {i : ℕ} → Utf8 s → Boundary s i → 0 < i → StepBack s i (last_char (take i s))
unfolding chars_before
steps_back_lem {s} {i} u b h =
    let k = last_char (take i s) in
    let p = char_before u b h in
    let f = p.fits in
    let e : i - k.len + k.len ≡ i = omega arith in
    record {
      fits = f;
      some = p.is.some;
      edge = p.is.start;
      is =
          ap reverse (subst (λ (n : ℕ). codes (take n s) ≡ codes (take (i - k.len) s) ++ (k.code ∷ [])) e p.is.backward)
          ∙ reverse-append (codes (take (i - k.len) s)) (k.code ∷ []);
    }

-- ---- a cut in front of some code points before a place

-- the code points before byte i are `front` and then `word`: there is a boundary between them
pub record Cut (s : List ℕ) (i : ℕ) (front word : List ℕ) : Type 0 where
  pub edge : Boundary s (byte_length front)
  pub there : chars_before s (byte_length front) ≡ reverse front
  pub whole : i ≡ byte_length front + byte_length word
  pub part : take (i - byte_length front) (drop (byte_length front) s) ≡ encode_all word

cut : {s : List ℕ} {i : ℕ} → Utf8 s → Boundary s i → (front word : List ℕ) → codes (take i s) ≡ front ++ word → Cut s i front word
unfolding byte_length chars_before
cut {s} {i} u b front word e =
    let p = place_at_lem u b in
    let after = p.after in
    let is : p.before ≡ front ++ word = sym (ap codes (place_front p) ∙ codes-encode_all p.before (scalars_front p.before after p.scalars)) ∙ e in
    let scalars : ScalarValues (front ++ (word ++ after)) = subst ScalarValues (append_assoc front word after) (subst (λ (l : List ℕ). ScalarValues (l ++ after)) is p.scalars) in
    let text : s ≡ encode_all front ++ encode_all (word ++ after) =
    p.text ∙ sym (encode_all_append p.before after) ∙ ap (λ (l : List ℕ). encode_all (l ++ after)) is ∙ ap encode_all (append_assoc front word after) ∙ encode_all_append front (word ++ after) in
    let q : Place s (byte_length front) = record { before = front; after = word ++ after; scalars = scalars; text = text; offset = refl } in
    let whole : i ≡ byte_length front + byte_length word = p.offset ∙ ap (λ (l : List ℕ). byte_length l) is ∙ byte_length_append front word in
    record {
      edge = place_boundary q;
      there = ap reverse (ap codes (place_front q) ∙ codes-encode_all front (scalars_front front (word ++ after) scalars));
      whole = whole;
      part =
          ap (take (i - byte_length front)) (place_back q ∙ encode_all_append word after)
          ∙ take_at (encode_all word) (encode_all after) (i - byte_length front) (omega arith);
    }

-- ---- back over the characters of a kind

-- what is passed, in the order of the text, and `word` behind it
unfoldable pub passed_over : (ℕ → Bool) → List ℕ → List ℕ → List ℕ
passed_over kind word [] = word
passed_over kind word (c ∷ cs) = cond (kind c) (passed_over kind (c ∷ word) cs) word

module _ (kind : ℕ → Bool) where
  skip_passed : (cs word : List ℕ) → reverse_aux cs word ≡ reverse (skip kind cs) ++ passed_over kind word cs
  unfolding skip passed_over
  skip_passed [] word = refl
  skip_passed (c ∷ cs) word = go (kind c) (skip_passed cs (c ∷ word))
    where
      go : (t : Bool) → reverse_aux cs (c ∷ word) ≡ reverse (skip kind cs) ++ passed_over kind (c ∷ word) cs
          → reverse_aux cs (c ∷ word) ≡ reverse (cond t (skip kind cs) (c ∷ cs)) ++ cond t (passed_over kind (c ∷ word) cs) word
      go true r = r
      go false r = reverse_aux-eq (c ∷ cs) word

  -- a step back ends at a boundary; what is left lies before it, and what is passed are the bytes up to where it began
  pub record BackOver (s : List ℕ) (i : ℕ) : Type 0 where
    pub edge : Boundary s (back_over kind s i)
    pub left : chars_before s (back_over kind s i) ≡ skip kind (chars_before s i)
    pub whole : i ≡ back_over kind s i + byte_length (passed_over kind [] (chars_before s i))
    pub part : take (i - back_over kind s i) (drop (back_over kind s i) s) ≡ encode_all (passed_over kind [] (chars_before s i))

  pub back_over_lem : {s : List ℕ} {i : ℕ} → Utf8 s → Boundary s i → BackOver s i
  unfolding back_over
  back_over_lem {s} {i} u b =
      let rest = skip kind (chars_before s i) in
      let k = cut u b (reverse rest) (passed_over kind [] (chars_before s i)) (sym (before_codes s i) ∙ skip_passed (chars_before s i) []) in
      let e = byte_length-reverse rest in
      record {
        edge = rw e at k.edge;
        left = (rw e at k.there) ∙ reverse-reverse rest;
        whole = rw e at k.whole;
        part = rw e at k.part;
      }

-- ---- tokens, by the steps back

-- white space before a place changes nothing
tokens_space : (cs : List ℕ) → tokens [] (skip is_white_space cs) ≡ tokens [] cs
unfolding tokens skip with_word
tokens_space [] = refl
tokens_space (c ∷ cs) = go (is_white_space c) refl (tokens_space cs)
  where
    go : (t : Bool) → is_white_space c ≡ t → tokens [] (skip is_white_space cs) ≡ tokens [] cs
        → tokens [] (cond t (skip is_white_space cs) (c ∷ cs)) ≡ cond t (tokens [] cs) (tokens (c ∷ []) cs)
    go true e r = r
    go false e r = rw e

-- the token at hand, and those before it
tokens-word : (word cs : List ℕ) → tokens word cs ≡ with_word (passed_over is_token_char word cs) (skip is_token_char cs) (tokens [] (skip is_token_char cs))
unfolding tokens skip passed_over with_word
tokens-word word [] = refl
tokens-word word (c ∷ cs) = go (is_white_space c) refl (tokens-word (c ∷ word) cs)
  where
    go : (t : Bool) → is_white_space c ≡ t
        → tokens (c ∷ word) cs ≡ with_word (passed_over is_token_char (c ∷ word) cs) (skip is_token_char cs) (tokens [] (skip is_token_char cs))
        → cond t (with_word word (c ∷ cs) (tokens [] cs)) (tokens (c ∷ word) cs)
        ≡ with_word (cond (not t) (passed_over is_token_char (c ∷ word) cs) word) (cond (not t) (skip is_token_char cs) (c ∷ cs)) (tokens [] (cond (not t) (skip is_token_char cs) (c ∷ cs)))
    go true e r = rw e
    go false e r = r

some_passed : (kind : ℕ → Bool) (c : ℕ) (word cs : List ℕ) → 1 ≤ length (passed_over kind (c ∷ word) cs)
unfolding passed_over
some_passed kind c word [] = omega arith
some_passed kind c word (d ∷ cs) = go (kind d) (some_passed kind d (c ∷ word) cs)
  where
    go : (t : Bool) → 1 ≤ length (passed_over kind (d ∷ c ∷ word) cs) → 1 ≤ length (cond t (passed_over kind (d ∷ c ∷ word) cs) (c ∷ word))
    go true r = r
    go false r = omega arith

-- behind white space stands a token, unless nothing is left
no_token : (cs : List ℕ) → length (passed_over is_token_char [] (skip is_white_space cs)) ≡ 0 → tokens [] cs ≡ []
unfolding tokens skip passed_over with_word
no_token [] e = refl
no_token (c ∷ cs) e = go (is_white_space c) refl (no_token cs) e
  where
    go : (t : Bool) → is_white_space c ≡ t → (length (passed_over is_token_char [] (skip is_white_space cs)) ≡ 0 → tokens [] cs ≡ [])
        → length (passed_over is_token_char [] (cond t (skip is_white_space cs) (c ∷ cs))) ≡ 0
        → cond t (tokens [] cs) (tokens (c ∷ []) cs) ≡ []
    go true q r e = r e
    go false q r e =
        absurd
        (let some = some_passed is_token_char c [] cs in
        let none : length (passed_over is_token_char (c ∷ []) cs) ≡ 0 = rw q at e in
        omega arith)

-- ---- what a token is: a word with white space, or the text's end, on either side

all_reverse : (kind : ℕ → Bool) (xs ys : List ℕ) → All kind xs → All kind ys → All kind (reverse_aux xs ys)
all_reverse kind [] ys a b = b
all_reverse kind (x ∷ xs) ys a b = all_reverse kind xs (x ∷ ys) a.1 (a.0, b)

past_space : (spaces rest : List ℕ) → All is_white_space spaces → tokens [] (spaces ++ rest) ≡ tokens [] rest
unfolding tokens with_word
past_space [] rest a = refl
past_space (c ∷ spaces) rest a = rw a.0 (past_space spaces rest a.1)

past_word : (word acc rest : List ℕ) → All is_token_char word → tokens acc (word ++ rest) ≡ tokens (reverse_aux word acc) rest
unfolding tokens
past_word [] acc rest a = refl
past_word (c ∷ word) acc rest a = rw (not-true (is_white_space c) a.0) (past_word word (c ∷ acc) rest a.1)

at_edge : (word rest : List ℕ) → Edge rest → tokens word rest ≡ with_word word rest (tokens [] rest)
unfolding tokens with_word
at_edge word [] e = refl
at_edge word (c ∷ rest) e = rw e

-- white space alone has no token
pub no_tokens : (s : List ℕ) (i : ℕ) → All is_white_space (codes (take i s)) → tokens_before s i ≡ []
unfolding tokens_before chars_before tokens with_word
no_tokens s i a =
    ap (λ (l : List ℕ). tokens [] l) (sym (append-nil (reverse (codes (take i s))))) ∙ past_space (reverse (codes (take i s))) [] (all_reverse is_white_space (codes (take i s)) [] a tt)

-- else the nearest token is the word before the white space, and the others are those before it; `front` is empty or ends in white
-- space, so that the word is whole
pub next_token : {s : List ℕ} {i : ℕ} → Utf8 s → Boundary s i → (front : List ℕ) (c : ℕ) (word spaces : List ℕ)
    → codes (take i s) ≡ front ++ ((c ∷ word) ++ spaces) → Edge (reverse front) → All is_token_char (c ∷ word) → All is_white_space spaces
    → tokens_before s i ≡ token (byte_length front) (c ∷ word) ∷ tokens_before s (byte_length front)
unfolding tokens_before with_word
next_token {s} {i} u b front c word spaces e edge chars blank =
    let w = c ∷ word in
    let r = reverse front in
    let order : chars_before s i ≡ reverse spaces ++ (reverse w ++ r) =
    turned ∙ reverse-append front (w ++ spaces) ∙ ap (λ (l : List ℕ). l ++ r) (reverse-append w spaces) ∙ append_assoc (reverse spaces) (reverse w) r in
    ap (λ (l : List ℕ). tokens [] l) order
    ∙ past_space (reverse spaces) (reverse w ++ r) (all_reverse is_white_space spaces [] blank tt)
    ∙ past_word (reverse w) [] r (all_reverse is_token_char w [] chars tt)
    ∙ ap (λ (l : List ℕ). tokens l r) (reverse-reverse w)
    ∙ at_edge w r edge
    ∙ rw (byte_length-reverse front, (cut u b front (w ++ spaces) e).there)
  where
    turned : chars_before s i ≡ reverse (front ++ ((c ∷ word) ++ spaces))
    turned = sym (reverse-reverse (chars_before s i)) ∙ ap reverse (before_codes s i ∙ e)

pub tokens_are : {s : List ℕ} {i : ℕ} → Utf8 s → Boundary s i → TokensAre s i
tokens_are {s} {i} u b = record { no_tokens = no_tokens s i; next_token = next_token u b }

-- ---- the last token before a place, as the search reads it

-- where the last token before byte i ends
abbrev pub token_end : List ℕ → ℕ → ℕ
token_end s i = back_over is_white_space s i

-- where the token that ends at byte i starts
abbrev pub token_start : List ℕ → ℕ → ℕ
token_start s i = back_over is_token_char s i

-- the code points of the last token before byte i
unfoldable pub last_word : List ℕ → ℕ → List ℕ
last_word s i = passed_over is_token_char [] (chars_before s (token_end s i))

-- the last token before byte i, from byte a to byte e
pub record LastToken (s : List ℕ) (i : ℕ) (a e : ℕ) : Type 0 where
  pub start : Boundary s a
  pub end : Boundary s e
  pub whole : e ≡ a + byte_length (last_word s i)
  pub back : e ≤ i
  pub part : take (e - a) (drop a s) ≡ encode_all (last_word s i)
  -- the tokens are this one, if it is any, and those before it
  pub are : tokens_before s i ≡ with_word (last_word s i) (chars_before s a) (tokens_before s a)
  pub none : length (last_word s i) ≡ 0 → tokens_before s i ≡ []

pub last_token : {s : List ℕ} {i e a : ℕ} → Utf8 s → Boundary s i → e ≡ token_end s i → a ≡ token_start s e → LastToken s i a e
unfolding tokens_before last_word
last_token {s} {i} u b he ha = rw (ha, he) last
  where
    last : LastToken s i (token_start s (token_end s i)) (token_end s i)
    last =
        let e = token_end s i in
        let space = back_over_lem is_white_space u b in
        let word = back_over_lem is_token_char u space.edge in
        let w = space.whole in
        let are : tokens [] (chars_before s e) ≡ with_word (passed_over is_token_char [] (chars_before s e)) (chars_before s (token_start s e)) (tokens [] (chars_before s (token_start s e))) =
        rw word.left (tokens-word [] (chars_before s e)) in
        record {
          start = word.edge;
          end = space.edge;
          whole = word.whole;
          back = omega arith;
          part = word.part;
          are = sym (tokens_space (chars_before s i)) ∙ ap (λ (l : List ℕ). tokens [] l) (sym space.left) ∙ are;
          none = λ n. no_token (chars_before s i) (rw space.left at n);
        }
