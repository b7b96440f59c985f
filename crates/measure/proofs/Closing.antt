-- The bytes up to a closing mark, from a place on.
use Rattle.std.specs.Prelude.{Option, Some, None}
use mathlib.Core.Path.{◌≡◌, refl, sym, ◌∙◌, ap}
use mathlib.Core.Bool.{Bool, true, false, ◌&&◌, ◌||◌}
use mathlib.Core.List.{List, [], ◌∷◌}
use Prim.Native.Nat.{ℕ, zero, suc, ◌+◌, ◌-◌, ◌≤◌, ◌<◌}
use native.Mathlib.Nat.{add-zero, add_assoc}
use native.Mathlib.Omega.{arith}
use borrow.Author.Tests.{eq-eqb, ne_eqb, eqb-true, lt-ltb}
use lib.Dec.{eqb}
use lib.ListN.{length, drop, get_or, length-drop, drop_of_length-le}
use lib.Seq.{get_or-drop, drop-drop}
use Rattle.measure.specs.Quoted.{further, passed_together, to_closing, quoted_len}
use Rattle.utf8.specs.Ascii.{single_quote, double_quote, backslash}
use Rattle.letters.specs.Marks.{Ordinary, Unmarked}
use Rattle.measure.proofs.Read.{has_byte}
use Rattle.utf8.specs.Tests.{clash}

-- ---- the opening mark

pub other_opens : (s : List ℕ) (quote : ℕ) → has_byte s 0 quote ≡ false → None ≡ quoted_len s quote
unfolding quoted_len has_byte
other_opens [] quote e = refl
other_opens (a ∷ s) quote e = let f : eqb a quote ≡ false = rw (lt-ltb 0 (suc (length s)) (omega arith)) at e in rw f

pub opens : (s : List ℕ) (quote : ℕ) → has_byte s 0 quote ≡ true → further 1 (to_closing quote (drop 1 s)) ≡ quoted_len s quote
unfolding quoted_len has_byte
opens [] quote e = absurd (clash (sym e))
opens (a ∷ s) quote e = let f : eqb a quote ≡ true = rw (lt-ltb 0 (suc (length s)) (omega arith)) at e in rw f

-- ---- one step, on the bytes left

-- a mark that is the last byte closes
last_closes : (quote a : ℕ) → a ≡ quote → passed_together quote a 0 ≡ false
unfolding passed_together
last_closes quote a e = go (eqb quote double_quote) refl (eqb quote single_quote) refl
  where
    go : (x : Bool) → eqb quote double_quote ≡ x → (y : Bool) → eqb quote single_quote ≡ y → (x && eqb a backslash) || (y && (eqb a quote && eqb 0 quote)) ≡ false
    go true p y q =
        let d = eqb-true quote double_quote p in
        rw (ne_eqb a backslash (λ z. omega arith), ne_eqb 0 quote (λ z. omega arith)) (none y (eqb a quote))
      where
        none : (y z : Bool) → y && (z && false) ≡ false
        none true true = refl
        none true false = refl
        none false z = refl
    go false p true q = let d = eqb-true quote single_quote q in rw (ne_eqb 0 quote (λ z. omega arith)) (none (eqb a quote))
      where
        none : (z : Bool) → z && false ≡ false
        none true = refl
        none false = refl
    go false p false q = refl

two : (quote : ℕ) (t : List ℕ) → 0 < length t → passed_together quote (get_or t 0 0) (get_or t 1 0) ≡ true → to_closing quote t ≡ further 2 (to_closing quote (drop 2 t))
unfolding to_closing
two quote [] h p = absurd (omega arith)
two quote (a ∷ []) h p = rw (ne_eqb a quote (λ e. clash (sym p ∙ last_closes quote a e)))
two quote (a ∷ b ∷ t) h p = rw p

closed : (quote : ℕ) (t : List ℕ) → 0 < length t → passed_together quote (get_or t 0 0) (get_or t 1 0) ≡ false → get_or t 0 0 ≡ quote → to_closing quote t ≡ Some 1
unfolding to_closing
closed quote [] h p e = absurd (omega arith)
closed quote (a ∷ []) h p e = rw (eq-eqb a quote e)
closed quote (a ∷ b ∷ t) h p e = rw (p, eq-eqb a quote e)

one : (quote : ℕ) (t : List ℕ) → 0 < length t → passed_together quote (get_or t 0 0) (get_or t 1 0) ≡ false → (get_or t 0 0 ≡ quote → ⊥) → to_closing quote t ≡ further 1 (to_closing quote (drop 1 t))
unfolding to_closing
one quote [] h p n = absurd (omega arith)
one quote (a ∷ []) h p n = rw (ne_eqb a quote n)
one quote (a ∷ b ∷ t) h p n = rw (p, ne_eqb a quote n)

-- ---- the same from a place on

further-further : (i n : ℕ) (r : Option ℕ) → further i (further n r) ≡ further (i + n) r
further-further i n (Some m) = ap Some (sym (add_assoc i n m))
further-further i n None = refl

module _ (s : List ℕ) (quote i : ℕ) where
  here : get_or (drop i s) 0 0 ≡ get_or s i 0
  here = get_or-drop i s 0 0 ∙ ap (λ (n : ℕ). get_or s n 0) (add-zero i)

  further_on : (n : ℕ) → to_closing quote (drop i s) ≡ further n (to_closing quote (drop n (drop i s))) → further (i + n) (to_closing quote (drop (i + n) s)) ≡ further i (to_closing quote (drop i s))
  further_on n e = sym (ap (further i) e ∙ further-further i n (to_closing quote (drop n (drop i s))) ∙ ap (λ (l : List ℕ). further (i + n) (to_closing quote l)) (drop-drop n i s))

  module _ (h : i < length s) where
    left : 0 < length (drop i s)
    left = rw length-drop (omega arith)

    pub passes_two : passed_together quote (get_or s i 0) (get_or s (i + 1) 0) ≡ true → further (i + 2) (to_closing quote (drop (i + 2) s)) ≡ further i (to_closing quote (drop i s))
    passes_two p = further_on 2 (two quote (drop i s) left (rw (here, get_or-drop i s 1 0) p))

    pub closes : passed_together quote (get_or s i 0) (get_or s (i + 1) 0) ≡ false → get_or s i 0 ≡ quote → Some (i + 1) ≡ further i (to_closing quote (drop i s))
    closes p e = ap (further i) (sym (closed quote (drop i s) left (rw (here, get_or-drop i s 1 0) p) (here ∙ e)))

    pub passes_one : passed_together quote (get_or s i 0) (get_or s (i + 1) 0) ≡ false → (get_or s i 0 ≡ quote → ⊥) → further (i + 1) (to_closing quote (drop (i + 1) s)) ≡ further i (to_closing quote (drop i s))
    passes_one p n = further_on 1 (one quote (drop i s) left (rw (here, get_or-drop i s 1 0) p) (λ e. n (sym here ∙ e)))

  pub never_closes : length s ≤ i → None ≡ further i (to_closing quote (drop i s))
  unfolding to_closing
  never_closes h = ap (λ (l : List ℕ). further i (to_closing quote l)) (sym (drop_of_length-le s h))

-- ---- ordinary bytes, many at a time

alone : (quote a b : ℕ) → Ordinary quote a → passed_together quote a b ≡ false
unfolding passed_together
alone quote a b o = rw (ne_eqb a backslash o.1, ne_eqb a quote o.0) (none (eqb quote double_quote) (eqb quote single_quote))
  where
    none : (x y : Bool) → (x && false) || (y && false) ≡ false
    none true true = refl
    none true false = refl
    none false true = refl
    none false false = refl

pub passes_many : (s : List ℕ) (quote i n : ℕ) → Unmarked quote (drop i s) n → further (i + n) (to_closing quote (drop (i + n) s)) ≡ further i (to_closing quote (drop i s))
passes_many s quote i zero u = ap (λ (k : ℕ). further k (to_closing quote (drop k s))) (add-zero i)
passes_many s quote i (suc n) u =
    let w : suc n ≤ length s - i = rw length-drop at u.within in
    let e : i + suc n ≡ i + n + 1 = omega arith in
    let o : Ordinary quote (get_or s (i + n) 0) = rw (get_or-drop i s n 0) at (u.each n (omega arith)) in
    ap (λ (k : ℕ). further k (to_closing quote (drop k s))) e
    ∙ passes_one s quote (i + n) (omega arith) (alone quote _ _ o) o.0
    ∙ passes_many s quote i n (record { within = rw length-drop (omega arith); each = λ j h. u.each j (omega arith) })
