-- What is read at a place of a text: a character, a byte, and the part from there on.
use Rattle.std.specs.Prelude.{◌≡◌, Bool, ◌&&◌, ℕ, ◌+◌, ◌-◌, ◌≤◌, ◌<◌, Option, Some, None, MatchOption, List, [], nat_eq, eqb, ltb, length, get_or, take, drop}
use Rattle.std.specs.Option.{option_eq}
use Rattle.std.specs.List.{HoldsAt}
use Rattle.std.proofs.Common.{Bor, sym, ◌∙◌, ap, subst, arith, lt-ltb, le-ltb, length-take, length-drop, drop_of_length-le, get_or-take, get_or-drop}
use Rattle.std.proofs.Math.Decide.{dec_lt}
use Rattle.utf8.specs.Utf8.{Utf8}
use Rattle.utf8.specs.Characters.{codes, chars_after, first_char, some_char}
use Rattle.utf8.specs.Boundary.{Boundary}
use Rattle.utf8.proofs.Utf8Laws.{CharAt, char_at}
use Rattle.utf8.proofs.SomeChar.{some_is, some_has_bytes, none_has_no_bytes}
use Rattle.utf8.specs.declared.utf8.Char.{Char}

-- ---- the character at a boundary

pub char_read : {s : List ℕ} {i : ℕ} {k : Char} → Utf8 s → Boundary s i → i < length s → k ≡ first_char (drop i s) → CharAt s i k
char_read {s} {i} u b h e = subst (λ (x : Char). CharAt s i x) (sym e) (char_at u b h)

-- past the end there is none
pub codes_end : (s : List ℕ) (i : ℕ) → length s ≤ i → codes (drop i s) ≡ []
unfolding codes chars_after
codes_end s i h = ap codes (drop_of_length-le s h)

no_bytes_end : (s : List ℕ) (i : ℕ) → length s ≤ i → (first_char (drop i s)).len ≡ 0
unfolding first_char
no_bytes_end s i h = ap (λ (l : List ℕ). (first_char l).len) (drop_of_length-le s h)

pub some_read : {s : List ℕ} {i : ℕ} {k : Char} → Utf8 s → Boundary s i → Some k ≡ some_char (first_char (drop i s)) → CharAt s i k
some_read {s} {i} {k} u b e = char_read u b (go (dec_lt i (length s))) (some_is _ e)
  where
    go : Dec (i < length s) → i < length s
    go (yes h) = h
    go (no h) = absurd (let z = no_bytes_end s i (omega arith) in let f = some_has_bytes _ e in omega arith)

pub none_read : {s : List ℕ} {i : ℕ} → Utf8 s → Boundary s i → None ≡ some_char (first_char (drop i s)) → length s ≤ i
none_read {s} {i} u b e = go (dec_lt i (length s))
  where
    go : Dec (i < length s) → length s ≤ i
    go (yes h) = absurd (let a = (char_at u b h).some in let f = none_has_no_bytes _ e in omega arith)
    go (no h) = omega arith

-- ---- a byte

-- s has the byte b at a place
unfoldable pub has_byte : List ℕ → ℕ → ℕ → Bool
has_byte s i b = ltb i (length s) && eqb (get_or s i 0) b

-- what `get` promises of its answer
abbrev pub Got : List ℕ → ℕ → Option (Bor ℕ) → Type 0
Got s i r = MatchOption r (length s ≤ i) (λ x. (i < length s) × HoldsAt (λ y. x.now ≡ y) s i)

-- so its answer is `Some(&b)` exactly where s has the byte b there
pub got_byte : (s : List ℕ) (i : ℕ) (r : Option (Bor ℕ)) (q : Bor ℕ) → Got s i r → option_eq (λ x y. nat_eq x.now y.now) r (Some q) ≡ has_byte s i q.now
unfolding has_byte
got_byte s i None q g = rw (le-ltb i (length s) g)
got_byte s i (Some x) q g = rw (lt-ltb i (length s) g.0, ← g.1 0)

-- ---- the part of n bytes from a place on

pub part_size : (s : List ℕ) (i n : ℕ) → i + n ≤ length s → length (take (i + n - i) (drop i s)) ≡ n
part_size s i n h = rw (length-take (i + n - i) (drop i s), length-drop i s) (omega arith)

pub part_byte : (s : List ℕ) (i n k : ℕ) → k < n → get_or (take (i + n - i) (drop i s)) k 0 ≡ get_or s (i + k) 0
part_byte s i n k h = get_or-take (i + n - i) (drop i s) k 0 (omega arith) ∙ get_or-drop i s k 0
