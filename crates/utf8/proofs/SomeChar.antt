-- What an answer of `first_char` or `last_char` says of the character `k` that its contract names.
use Rattle.std.specs.Prelude.{◌≡◌, ℕ, ◌+◌, ◌<◌, ◌≤◌, Bool, true, false, cond, eqb, ltb, List, length, drop, Some, None}
use Rattle.std.proofs.Common.{arith, sym, ◌∙◌, ap, ltb-true, ltb-false, refl, drop_of_length-le, eq-eqb, ne_eqb}
use Rattle.std.proofs.Math.Decide.{dec_lt}
use Rattle.utf8.specs.Characters.{some_char, first_char, is_utf8}
use Rattle.utf8.proofs.Utf8Laws.{char_room, utf8_on, utf8_stops, utf8_end}
use Rattle.utf8.specs.declared.utf8.Char.{Char}

-- a character is answered that has bytes, as it is
pub some_is : {c : Char} (k : Char) → Some c ≡ some_char k → c ≡ k
some_is {c} k e = go (ltb 0 k.len) e
  where
    go : (t : Bool) → Some c ≡ cond t (Some k) None → c ≡ k
    go true e = cc
    go false e = cc

pub some_has_bytes : {c : Char} (k : Char) → Some c ≡ some_char k → 0 < k.len
some_has_bytes {c} k e = ltb-true 0 k.len (go (ltb 0 k.len) e)
  where
    go : (t : Bool) → Some c ≡ cond t (Some k) None → t ≡ true
    go true e = refl
    go false e = cc

-- none is answered where there is no character
pub none_has_no_bytes : (k : Char) → None ≡ some_char k → k.len ≡ 0
none_has_no_bytes k e = let h = ltb-false 0 k.len (go (ltb 0 k.len) e) in omega arith
  where
    go : (t : Bool) → None ≡ cond t (Some k) None → t ≡ false
    go true e = cc
    go false e = refl

-- ---- a character read at a place of some bytes

module _ (s : List ℕ) (i : ℕ) where
  past_end : length s ≤ i → (first_char (drop i s)).len ≡ 0
  unfolding first_char
  past_end h = rw (drop_of_length-le s h)

  module _ {c : Char} (e : Some c ≡ some_char (first_char (drop i s))) where
    -- it has bytes
    bytes : 0 < (first_char (drop i s)).len
    bytes = some_has_bytes _ e

    len : c.len ≡ (first_char (drop i s)).len
    len = ap (λ (k : Char). k.len) (some_is _ e)

    pub some_starts_within : i < length s
    some_starts_within = go (dec_lt i (length s))
      where
        go : Dec (i < length s) → i < length s
        go (yes h) = h
        go (no h) = absurd (let z = past_end (omega arith) in let b = bytes in omega arith)

    pub some_ends_within : i + c.len ≤ length s
    some_ends_within = let r = char_room s i some_starts_within in let l = len in omega arith

    pub some_advances : 0 < c.len
    some_advances = let b = bytes in let l = len in omega arith

    -- the bytes from the place on are a text exactly when those after the character are
    pub utf8_after : is_utf8 (drop (i + c.len) s) ≡ is_utf8 (drop i s)
    utf8_after = rw len (utf8_on s i bytes)

  -- where none is read, the bytes are a text only at their end
  pub utf8_at_none : i ≤ length s → None ≡ some_char (first_char (drop i s)) → eqb i (length s) ≡ is_utf8 (drop i s)
  utf8_at_none l e = go (dec_lt i (length s))
    where
      go : Dec (i < length s) → eqb i (length s) ≡ is_utf8 (drop i s)
      go (yes h) = let d : i ≡ length s → ⊥ = (λ q. omega arith) in ne_eqb i (length s) d ∙ sym (utf8_stops s i h (none_has_no_bytes _ e))
      go (no h) = eq-eqb i (length s) (omega arith) ∙ sym (utf8_end s i (omega arith))
