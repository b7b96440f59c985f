-- Back over the characters of a kind, one at a time: what `back_over` does.
use Rattle.std.specs.Prelude.{◌≡◌, refl, Bool, true, false, ℕ, zero, suc, ◌-◌, ◌<◌, Some, None, List, take}
use Rattle.std.proofs.Common.{sym, ◌∙◌, ap, arith}
use Rattle.std.proofs.Math.Decide.{dec_lt}
use Rattle.utf8.specs.Utf8.{Utf8}
use Rattle.utf8.specs.Characters.{codes, chars_after, last_of, last_char, some_char}
use Rattle.utf8.specs.Boundary.{Boundary}
use Rattle.utf8.specs.declared.utf8.Char.{Char}
use Rattle.utf8.proofs.SomeChar.{some_is, some_has_bytes, none_has_no_bytes}
use Rattle.tag.specs.Tokens.{byte_length, chars_before}
use Rattle.tag.specs.Back.{skip, back_over}
use Rattle.tag.proofs.TokenLaws.{before_start, byte_length_before, StepBack, steps_back_lem}

-- byte j was reached from byte i: the way back from here ends where the one from there does
pub record Going (kind : ℕ → Bool) (s : List ℕ) (i j : ℕ) : Type 0 where
  pub edge : Boundary s j
  pub same : skip kind (chars_before s j) ≡ skip kind (chars_before s i)

-- where nothing is left to skip, the way ends
ends : {kind : ℕ → Bool} {s : List ℕ} {i j : ℕ} → Utf8 s → Going kind s i j → skip kind (chars_before s j) ≡ chars_before s j → j ≡ back_over kind s i
unfolding back_over
ends u g e = sym (byte_length_before u g.edge) ∙ ap byte_length (sym e ∙ g.same)

-- at the text's start
pub going_ends : {kind : ℕ → Bool} {s : List ℕ} {i j : ℕ} → Utf8 s → Going kind s i j → j ≡ 0 → j ≡ back_over kind s i
unfolding skip
going_ends {kind} {s} {i} {j} u g z = ends u g (rw (z, before_start s))

-- ---- the character before byte j

no_bytes_start : (s : List ℕ) → (last_char (take 0 s)).len ≡ 0
unfolding last_char last_of codes chars_after
no_bytes_start s = refl

pub some_before : {s : List ℕ} {j : ℕ} {k : Char} → Utf8 s → Boundary s j → Some k ≡ some_char (last_char (take j s)) → StepBack s j k
some_before {s} {j} {k} u b e = rw (some_is _ e) (steps_back_lem u b (go j (some_has_bytes _ e)))
  where
    go : (j : ℕ) → 0 < (last_char (take j s)).len → 0 < j
    go zero h = absurd (let z = no_bytes_start s in omega arith)
    go (suc j) h = omega arith

pub none_before : {s : List ℕ} {j : ℕ} → Utf8 s → Boundary s j → None ≡ some_char (last_char (take j s)) → j ≡ 0
none_before {s} {j} u b e = go (dec_lt 0 j)
  where
    go : Dec (0 < j) → j ≡ 0
    go (yes h) = absurd (let some = (steps_back_lem u b h).some in let z = none_has_no_bytes _ e in omega arith)
    go (no h) = omega arith

-- one step more, over that character
module _ {kind : ℕ → Bool} {s : List ℕ} {i j : ℕ} {k : Char} (u : Utf8 s) (t : StepBack s j k) (g : Going kind s i j) where
  -- it is of another kind
  pub going_stops : kind k.code ≡ false → j ≡ back_over kind s i
  unfolding skip
  going_stops e = ends u g (rw (t.is, e))

  -- it is passed
  pub going_on : kind k.code ≡ true → Going kind s i (j - k.len)
  unfolding skip
  going_on e = record { edge = t.edge; same = sym (rw (t.is, e)) ∙ g.same }
