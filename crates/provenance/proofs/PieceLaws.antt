-- The laws of a reading's pieces: they lie one after the other, copy what they say, and add up to the value. Over any fair step function.
-- The pieces are laid as a walk writes them: a verbatim run stays open until a replacement or the value's end closes it. That these are
-- the joined pieces of the steps is `laid_is`.
use Rattle.std.specs.Prelude.{cond, Some, ◌≡◌, refl, ℕ, ◌+◌, ◌-◌, ◌≤◌, ◌<◌, ltb, eqb, length, take, drop}
use Rattle.std.proofs.Math.Path.{sym, ap, subst}
use Rattle.std.proofs.Common.{◌∙◌, length-drop, take-add, drop-drop, lt-ltb, le-ltb}
use Rattle.std.proofs.Math.Logic.{⊎_elim}
use mathlib.Core.List.{List, [], ◌∷◌, ◌++◌}
use Prim.{Unit, tt}
use native.Mathlib.Omega.{arith}
use Rattle.provenance.specs.declared.step.Step.{Step}
use Rattle.provenance.specs.declared.step.Step.TheVariants.{Verbatim, Replacement}
use Rattle.provenance.specs.Escape.{EscapeReach}
use Rattle.provenance.specs.Grammar.{FittingStep}
use Rattle.provenance.specs.Reading.{IsReading, content_len, Piece, piece, verbatim, replacement, step_pieces, join_on, joined, pieces_of}
use Rattle.provenance.specs.Demand.{StartsAt, Follow, EndBy, Copied, AllCopied, contents}
use Rattle.utf8.specs.Tests.{by_order}
use Rattle.provenance.specs.Tests.{by_answer}
use Rattle.provenance.specs.StepLaws.{Fair}

-- ---- the pieces as they are laid

-- the verbatim run from..s of the text, if it is not empty
abbrev pub closed_run : ℕ → ℕ → List Piece
closed_run from s = cond (ltb from s) (piece verbatim from s (s - from) ∷ []) []

-- the pieces of steps whose first stands at s, with the verbatim run from..s open
unfoldable pub laid : ℕ → ℕ → List Step → List Piece
laid from s [] = closed_run from s
laid from s (Verbatim n ∷ ts) = laid from (s + n) ts
laid from s (Replacement a b ∷ ts) = closed_run from s ++ (piece replacement s (s + a) b ∷ laid (s + a) (s + a) ts)

-- ---- one piece a step, neighbouring verbatim ones joined

join_verbatim : (a b c x y : ℕ) (l : List Piece) → join_on (piece verbatim a b x) (join_on (piece verbatim b c y) l) ≡ join_on (piece verbatim a c (x + y)) l
join_verbatim a b c x y [] = refl
join_verbatim a b c x y (p ∷ ps) =
    by_answer (eqb p.kind 1)
    (λ e. let q : x + (y + p.content) ≡ (x + y) + p.content = omega arith in rw e (ap (λ (k : ℕ). piece verbatim a p.end k ∷ ps) q))
    (λ e. rw e)

join_replacement : (a b c : ℕ) (l : List Piece) → join_on (piece replacement a b c) l ≡ piece replacement a b c ∷ l
join_replacement a b c [] = refl
join_replacement a b c (p ∷ ps) = refl

-- one after the other, from a on
unfoldable Chain : ℕ → List Piece → Type 0
Chain a [] = Unit {0}
Chain a (p ∷ ps) = (p.start ≡ a) × Chain p.end ps

chain_starts : (a : ℕ) (ps : List Piece) → Chain a ps → StartsAt a ps
unfolding Chain
chain_starts a [] c = tt
chain_starts a (p ∷ ps) c = c.0

chain_follows : (a : ℕ) (ps : List Piece) → Chain a ps → Follow ps
unfolding Chain Follow
chain_follows a [] c = tt
chain_follows a (p ∷ []) c = tt
chain_follows a (p ∷ q ∷ ps) c = (c.1.0, chain_follows p.end (q ∷ ps) c.1)

-- where steps from v on end in the value
unfoldable pub value_end : ℕ → List Step → ℕ
value_end v [] = v
value_end v (t ∷ ts) = value_end (v + content_len t) ts

module _ {reach : EscapeReach} (at : ℕ → ℕ → FittingStep) (L len : ℕ) (fair : Fair reach at L len) where
  -- with no run open, and with one
  abbrev AsJoined : ℕ → List Step → Type 0
  AsJoined p ts =
      (laid p p ts ≡ joined (step_pieces p ts))
      × ((from : ℕ) → from < p → laid from p ts ≡ join_on (piece verbatim from p (p - from)) (joined (step_pieces p ts)))

  as_joined : (s v : ℕ) (ts : List Step) → IsReading at len s v ts → (p : ℕ) → AsJoined p ts
  unfolding laid step_pieces joined IsReading
  as_joined s v [] r p = (let h : p ≤ p = omega arith in rw (le-ltb _ _ h), λ from h. rw (lt-ltb _ _ h))
  as_joined s v (Verbatim n ∷ ts) r p =
      let b = fair.same s v n r.0 r.1 in
      let i = as_joined (s + n) (v + n) ts r.2 (p + n) in
      let q : p + n - p ≡ n = omega arith in (
        i.1 p (omega arith) ∙ ap (λ (k : ℕ). join_on (piece verbatim p (p + n) k) (joined (step_pieces (p + n) ts))) q,
        λ from h.
            let q₂ : p + n - from ≡ (p - from) + n = omega arith in
            i.1 from (omega arith)
            ∙ ap (λ (k : ℕ). join_on (piece verbatim from (p + n) k) (joined (step_pieces (p + n) ts))) q₂
            ∙ sym (join_verbatim from p (p + n) (p - from) n (joined (step_pieces (p + n) ts))),
      )
  as_joined s v (Replacement x y ∷ ts) r p =
      let i = as_joined (s + x) (v + y) ts r.2 (p + x) in
      let j = join_replacement p (p + x) y (joined (step_pieces (p + x) ts)) in (
        (let h : p ≤ p = omega arith in rw (le-ltb _ _ h) (ap (λ (l : List Piece). piece replacement p (p + x) y ∷ l) i.0 ∙ sym j)),
        λ from h.
            rw (lt-ltb _ _ h, j) (ap (λ (l : List Piece). piece verbatim from p (p - from) ∷ piece replacement p (p + x) y ∷ l) i.0),
      )

  pub laid_is : (base : ℕ) (ts : List Step) → IsReading at len 0 0 ts → laid base base ts ≡ pieces_of base ts
  unfolding pieces_of
  laid_is base ts r = (as_joined 0 0 ts r base).0

  -- ---- one after the other

  chained : (s v : ℕ) (ts : List Step) → IsReading at len s v ts → (from p : ℕ) → from ≤ p → Chain from (laid from p ts)
  unfolding laid IsReading Chain
  chained s v [] r from p h = by_order from p (λ lt. rw (lt-ltb _ _ lt) (refl, tt)) (λ le. rw (le-ltb _ _ le) tt)
  chained s v (Verbatim n ∷ ts) r from p h = chained (s + n) (v + n) ts r.2 from (p + n) (omega arith)
  chained s v (Replacement x y ∷ ts) r from p h =
      let i = chained (s + x) (v + y) ts r.2 (p + x) (p + x) (omega arith) in
      by_order from p (λ lt. rw (lt-ltb _ _ lt) (refl, (refl, i))) (λ le. rw (le-ltb _ _ le) (omega arith, i))

  pub first_starts : (base : ℕ) (ts : List Step) → IsReading at len 0 0 ts → StartsAt base (laid base base ts)
  first_starts base ts r = chain_starts base _ (chained 0 0 ts r base base (omega arith))

  pub others_follow : (base : ℕ) (ts : List Step) → IsReading at len 0 0 ts → Follow (laid base base ts)
  others_follow base ts r = chain_follows base _ (chained 0 0 ts r base base (omega arith))

  -- ---- none ends further past the source than an escape reaches

  ended : (base s v : ℕ) (ts : List Step) → IsReading at len s v ts → (from p : ℕ) → p ≡ base + s → s ≤ L + reach.past → EndBy (base + (L + reach.past)) (laid from p ts)
  unfolding laid IsReading EndBy
  ended base s v [] r from p e h = by_order from p (λ lt. rw (lt-ltb _ _ lt) (omega arith, tt)) (λ le. rw (le-ltb _ _ le) tt)
  ended base s v (Verbatim n ∷ ts) r from p e h = let b = fair.same s v n r.0 r.1 in ended base (s + n) (v + n) ts r.2 from (p + n) (omega arith) (omega arith)
  ended base s v (Replacement x y ∷ ts) r from p e h =
      let b = fair.other s v x y r.0 r.1 in
      let k : s + x ≤ L + reach.past = ⊎_elim (λ w. w.2) (λ w. omega arith) b.1 in
      let i = ended base (s + x) (v + y) ts r.2 (p + x) (p + x) (omega arith) k in
      by_order from p (λ lt. rw (lt-ltb _ _ lt) (omega arith, (omega arith, i))) (λ le. rw (le-ltb _ _ le) (omega arith, i))

  pub all_ended : (base : ℕ) (ts : List Step) → IsReading at len 0 0 ts → EndBy (base + (L + reach.past)) (laid base base ts)
  all_ended base ts r = ended base 0 0 ts r base base (omega arith) (omega arith)

  -- ---- their contents add up to what the steps take of the value

  content_sum : (s v : ℕ) (ts : List Step) → IsReading at len s v ts → (from p : ℕ) → from ≤ p → v + contents (laid from p ts) ≡ value_end v ts + (p - from)
  unfolding laid IsReading contents value_end
  content_sum s v [] r from p h = by_order from p (λ lt. rw (lt-ltb _ _ lt) (omega arith)) (λ le. rw (le-ltb _ _ le) (omega arith))
  content_sum s v (Verbatim n ∷ ts) r from p h = let i = content_sum (s + n) (v + n) ts r.2 from (p + n) (omega arith) in omega arith
  content_sum s v (Replacement x y ∷ ts) r from p h =
      let i = content_sum (s + x) (v + y) ts r.2 (p + x) (p + x) (omega arith) in
      by_order from p (λ lt. rw (lt-ltb _ _ lt) (omega arith)) (λ le. rw (le-ltb _ _ le) (omega arith))

  pub contents_are : (base : ℕ) (ts : List Step) → IsReading at len 0 0 ts → contents (laid base base ts) ≡ value_end 0 ts
  contents_are base ts r = let q = content_sum 0 0 ts r base base (omega arith) in omega arith

  -- a reading ends at the value's end, or past it by less than an escape's content
  pub value_end_bounds : (s v : ℕ) (ts : List Step) → v ≤ len + (reach.content - 1) → IsReading at len s v ts → (len ≤ value_end v ts) × (value_end v ts ≤ len + (reach.content - 1))
  unfolding IsReading value_end
  value_end_bounds s v [] h r = (r, h)
  value_end_bounds s v (Verbatim n ∷ ts) h r = let b = fair.same s v n r.0 r.1 in value_end_bounds (s + n) (v + n) ts (omega arith) r.2
  value_end_bounds s v (Replacement x y ∷ ts) h r = value_end_bounds (s + x) (v + y) ts (fair.other s v x y r.0 r.1).0 r.2

  -- ---- each verbatim piece holds the value's bytes; the source is the text from `base` on

  module _ (text val : List ℕ) (base : ℕ) (eL : L ≡ length (drop base text)) (eLen : len ≡ length val)
      (equal : (s v n : ℕ) → v < len → at s v ≡ Some (Verbatim n) → take n (drop s (drop base text)) ≡ take n (drop v val)) where
    -- the run from..s is open, its bytes are those of the value from c on
    pub record OpenRun (from s v c : ℕ) : Type 0 where
      pub in_order : from ≤ s
      pub place : c + (s - from) ≡ v
      pub inside : from < s → (s ≤ L) × (v ≤ len)
      pub bytes : take (s - from) (drop from (drop base text)) ≡ take (s - from) (drop c val)

    open_none : (s v : ℕ) → OpenRun s s v v
    open_none s v =
        let z : s - s ≡ 0 = omega arith in
        record { in_order = omega arith; place = omega arith; inside = λ h. absurd (omega arith); bytes = rw z refl }

    open_more : (from s v c n : ℕ) → v < len → at s v ≡ Some (Verbatim n) → OpenRun from s v c → OpenRun from (s + n) (v + n) c
    open_more from s v c n more e o =
        let h = o.in_order in
        let ec = o.place in
        let b = fair.same s v n more e in
        let q : s + n - from ≡ (s - from) + n = omega arith in
        let q₁ : from + (s - from) ≡ s = omega arith in
        let w : take ((s - from) + n) (drop from (drop base text)) ≡ take ((s - from) + n) (drop c val) =
        take-add (s - from) n (drop from (drop base text))
        ∙ ap (λ (l : List ℕ). take (s - from) (drop from (drop base text)) ++ take n l) (drop-drop (s - from) from (drop base text) ∙ ap (λ (k : ℕ). drop k (drop base text)) q₁)
        ∙ ap (λ (l : List ℕ). l ++ take n (drop s (drop base text))) o.bytes
        ∙ ap (λ (l : List ℕ). take (s - from) (drop c val) ++ l) (equal s v n more e)
        ∙ ap (λ (l : List ℕ). take (s - from) (drop c val) ++ take n l) (sym (drop-drop (s - from) c val ∙ ap (λ (k : ℕ). drop k val) ec))
        ∙ sym (take-add (s - from) n (drop c val)) in
        record { in_order = omega arith; place = omega arith; inside = λ _. (b.1, b.2); bytes = rw q w }

    -- closed, it is a piece that copies
    open_copied : (from s v c : ℕ) → from < s → OpenRun from s v c → Copied text val c (piece verbatim (base + from) (base + s) (base + s - (base + from)))
    open_copied from s v c lt o =
        let q : base + s - (base + from) ≡ s - from = omega arith in
        let i = o.inside lt in
        let ec = o.place in
        let d = length-drop base text in
        record {
          size = omega arith;
          in_text = omega arith;
          in_value = omega arith;
          bytes = rw q (ap (λ (l : List ℕ). take (s - from) l) (sym (drop-drop from base text)) ∙ o.bytes);
        }

    copied : (s v : ℕ) (ts : List Step) → IsReading at len s v ts → (from c : ℕ) → OpenRun from s v c → AllCopied text val c (laid (base + from) (base + s) ts)
    unfolding laid IsReading AllCopied
    copied s v [] r from c o =
        by_order from s
        (λ lt. let h : base + from < base + s = omega arith in rw (lt-ltb _ _ h) ((λ _. open_copied from s v c lt o), tt))
        (λ le. let h : base + s ≤ base + from = omega arith in rw (le-ltb _ _ h) tt)
    copied s v (Verbatim n ∷ ts) r from c o =
        let q : base + (s + n) ≡ base + s + n = omega arith in
        rw q at (copied (s + n) (v + n) ts r.2 from c (open_more from s v c n r.0 r.1 o))
    copied s v (Replacement x y ∷ ts) r from c o =
        let q : base + (s + x) ≡ base + s + x = omega arith in
        let i : AllCopied text val (v + y) (laid (base + s + x) (base + s + x) ts) = rw q at (copied (s + x) (v + y) ts r.2 (s + x) (v + y) (open_none (s + x) (v + y))) in
        let no : replacement ≡ verbatim → ⊥ = (λ e. omega arith) in
        let ec = o.place in
        by_order from s
        (λ lt.
        let h : base + from < base + s = omega arith in
        let e : c + (base + s - (base + from)) + y ≡ v + y = omega arith in
        rw (lt-ltb _ _ h) ((λ _. open_copied from s v c lt o), ((λ k. absurd (no k)), subst (λ (k : ℕ). AllCopied text val k (laid (base + s + x) (base + s + x) ts)) (sym e) i)))
        (λ le.
        let h : base + s ≤ base + from = omega arith in
        let e : c + y ≡ v + y = (let u = o.in_order in omega arith) in
        rw (le-ltb _ _ h) ((λ k. absurd (no k)), subst (λ (k : ℕ). AllCopied text val k (laid (base + s + x) (base + s + x) ts)) (sym e) i))

    pub all_copied : (ts : List Step) → IsReading at len 0 0 ts → AllCopied text val 0 (laid base base ts)
    all_copied ts r = let q : base + 0 ≡ base = omega arith in rw q at (copied 0 0 ts r 0 0 (open_none 0 0))
