-- Going back from a boundary: the last byte before it that continues nothing begins the character that ends there.
use Rattle.std.specs.Prelude.{◌≡◌, ℕ, ◌+◌, ◌-◌, ◌<◌, Bool, true, false, None, List, take, drop, get_or}
use Rattle.std.proofs.Common.{sym, ◌∙◌, ap, arith, get_or-take}
use Rattle.std.proofs.Math.Decide.{dec_lt}
use Rattle.utf8.specs.Class.{is_continuation}
use Rattle.utf8.specs.Utf8.{Utf8}
use Rattle.utf8.specs.Boundary.{Boundary}
use Rattle.utf8.specs.Characters.{some_char, first_char, codes, chars_after, last_of, last_char}
use Rattle.utf8.specs.Tests.{clash}
use Rattle.utf8.proofs.Utf8Laws.{CharBefore, char_before}

module _ {s : List ℕ} {i : ℕ} (u : Utf8 s) (p : Boundary s i) where
  -- where the character begins that ends at i
  abbrev start : ℕ
  start = i - (last_char (take i s)).len

  -- whether the byte at k continues a character
  abbrev continues : ℕ → Bool
  continues k = is_continuation (get_or (take i s) k 0)

  continues_in : (k : ℕ) → k < i → continues k ≡ is_continuation (get_or s k 0)
  continues_in k h = ap is_continuation (get_or-take i s k 0 h)

  module _ (some : 0 < i) where
    before : CharBefore s i (last_char (take i s))
    before = char_before u p some

    start_within : start < i
    start_within = let b = before.is.some in let f = before.fits in omega arith

    starts : continues start ≡ false
    starts = continues_in start start_within ∙ before.is.start.edge

  -- not all bytes continue, where there are some
  pub one_starts : 0 < i → ((k : ℕ) → k < i → continues k ≡ true) → ⊥
  one_starts h all = clash (sym (all start (start_within h)) ∙ starts h)

  -- a byte that continues, as all behind it do, is not the first
  pub goes_back : (j : ℕ) → j < i → continues j ≡ true → ((k : ℕ) → j < k → k < i → continues k ≡ true) → 0 < j
  goes_back j h e all = go (dec_lt 0 j)
    where
      each : j ≡ 0 → (k : ℕ) → k < i → Dec (j < k) → continues k ≡ true
      each z k l (yes m) = all k m l
      each z k l (no m) = let same : k ≡ j = omega arith in rw same e

      go : Dec (0 < j) → 0 < j
      go (yes l) = l
      go (no l) = absurd (one_starts (omega arith) (λ k m. each (omega arith) k m (dec_lt j k)))

  -- there is none where all bytes continue
  pub none_before : ((k : ℕ) → k < i → continues k ≡ true) → None ≡ some_char (last_char (take i s))
  unfolding last_char last_of codes chars_after
  none_before all = go (dec_lt 0 i)
    where
      at_start : i ≡ 0 → None ≡ some_char (last_char (take i s))
      at_start e = rw e

      go : Dec (0 < i) → None ≡ some_char (last_char (take i s))
      go (yes h) = absurd (one_starts h all)
      go (no h) = at_start (omega arith)

  -- the last byte that continues nothing is where it begins
  pub start_only : (j : ℕ) → j < i → continues j ≡ false → ((k : ℕ) → j < k → k < i → continues k ≡ true) → j ≡ start
  start_only j h e all = is (dec_lt start j) (dec_lt j start)
    where
      some : 0 < i
      some = omega arith

      b : CharBefore s i (last_char (take i s))
      b = before some

      up_to : j < start + (last_char (take i s)).len
      up_to = let f = b.fits in omega arith

      is : Dec (start < j) → Dec (j < start) → j ≡ start
      is (yes l) q = absurd (clash (sym (b.is.continues j l up_to) ∙ sym (continues_in j h) ∙ e))
      is (no l) (yes m) = absurd (clash (sym (all start m (start_within some)) ∙ starts some))
      is (no l) (no m) = omega arith

  pub start_found : (j : ℕ) → j < i → continues j ≡ false → ((k : ℕ) → j < k → k < i → continues k ≡ true) → first_char (drop j s) ≡ last_char (take i s)
  start_found j h e all = ap (λ (n : ℕ). first_char (drop n s)) (start_only j h e all) ∙ (before (omega arith)).is.first

  -- what begins there is the character that ends at i
  pub starts_there : 0 < i → {j : ℕ} → j ≡ start → first_char (drop j s) ≡ last_char (take i s)
  starts_there some e = ap (λ (n : ℕ). first_char (drop n s)) e ∙ (before some).is.first
