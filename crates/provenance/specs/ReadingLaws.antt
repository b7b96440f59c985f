-- The function that contracts cite finds exactly the readings. Over any fair step function.
use Rattle.std.specs.Prelude.{◌≡◌, Some, None, Option}
use Rattle.std.proofs.Math.Path.{refl, sym, ap, subst}
use Rattle.std.proofs.Common.{◌∙◌, le-leb}
use Rattle.std.proofs.lemmas.Option.{same_Some, none-some}
use Rattle.std.proofs.Math.Logic.{⊎_elim}
use mathlib.Core.List.{List, [], ◌∷◌}
use Prim.Native.Nat.{ℕ, zero, suc, ◌+◌, ◌-◌, ◌≤◌, ◌<◌}
use native.Mathlib.Omega.{arith}
use Rattle.std.proofs.Math.ListN.{length}
use Rattle.std.proofs.lemmas.Bool.{lt-leb}
use Rattle.provenance.specs.declared.step.Step.{Step}
use Rattle.provenance.specs.declared.step.Step.TheVariants.{Verbatim, Replacement}
use Rattle.provenance.specs.Escape.{EscapeReach}
use Rattle.provenance.specs.EscapeLaws.{FairTable}
use Rattle.provenance.specs.Grammar.{Rules, FittingStep, step_at}
use Rattle.provenance.specs.Reading.{IsReading, Reading, source_len, content_len, source_by, content_by, step_then, read_by, reading_of}
use Rattle.utf8.specs.Tests.{by_order}
use Rattle.provenance.specs.StepLaws.{Fair, grammar_fair}

-- a reading that begins with what stands there
pub record Begun (at : FittingStep) (rest : Option (List Step)) (us : List Step) : Type 0 where
  pub first : Step
  pub stands : at ≡ Some first
  pub others : List Step
  pub others_are : rest ≡ Some others
  pub all : us ≡ first ∷ others

then_some : (t : FittingStep) (o : Option (List Step)) (us : List Step) → step_then t o ≡ Some us → Begun t o us
then_some None o us h = absurd (none-some us h)
then_some (Some t) None us h = absurd (none-some us h)
then_some (Some t) (Some ts) us h = record { first = t; stands = refl; others = ts; others_are = refl; all = sym (same_Some _ us h) }

-- a step that fits begins what the rest goes on with
then_fits : (t : Step) (ts : List Step) → step_then (Some t) (Some ts) ≡ Some (t ∷ ts)
then_fits t ts = refl

module _ (at : ℕ → ℕ → FittingStep) (len : ℕ) where
  -- two readings from the same places are the same
  pub reading_unique : (s v : ℕ) (ps qs : List Step) → IsReading at len s v ps → IsReading at len s v qs → ps ≡ qs
  unfolding IsReading
  reading_unique s v [] [] p q = refl
  reading_unique s v [] (b ∷ bs) p q = absurd (omega arith)
  reading_unique s v (a ∷ ps) [] p q = absurd (omega arith)
  reading_unique s v (a ∷ ps) (b ∷ qs) p q =
      let e : a ≡ b = same_Some a b (sym p.1 ∙ q.1) in
      let q' : IsReading at len (s + source_len a) (v + content_len a) qs = rw e q.2 in
      let r : ps ≡ qs = reading_unique (s + source_len a) (v + content_len a) ps qs p.2 q' in
      cc

  -- what is found is a reading
  pub found_reads : (most s v : ℕ) (ts : List Step) → read_by most at len s v ≡ Some ts → IsReading at len s v ts
  unfolding read_by IsReading
  found_reads zero s v ts h =
      by_order v len
      (λ lt. absurd (none-some ts (rw (lt-leb _ _ lt) at h)))
      (λ le. subst (λ (x : List Step). IsReading at len s v x) (same_Some [] ts (rw (le-leb _ _ le) at h)) le)
  found_reads (suc most) s v ts h =
      by_order v len
      (λ lt.
      let g = then_some (at s v) _ ts (rw (lt-leb _ _ lt) at h) in
      let r : IsReading at len (s + source_by (at s v)) (v + content_by (at s v)) g.others = found_reads most _ _ g.others g.others_are in
      subst (λ (x : List Step). IsReading at len s v x) (sym g.all)
      (lt, g.stands, subst (λ (t : FittingStep). IsReading at len (s + source_by t) (v + content_by t) g.others) g.stands r))
      (λ le. subst (λ (x : List Step). IsReading at len s v x) (same_Some [] ts (rw (le-leb _ _ le) at h)) le)

  -- and each of no more steps than that is found
  pub reads_found : (most s v : ℕ) (ts : List Step) → length ts ≤ most → IsReading at len s v ts → read_by most at len s v ≡ Some ts
  unfolding read_by IsReading
  reads_found zero s v [] h r = rw (le-leb _ _ r)
  reads_found zero s v (t ∷ ts) h r = absurd (omega arith)
  reads_found (suc most) s v [] h r = rw (le-leb _ _ r)
  reads_found (suc most) s v (t ∷ ts) h r =
      let q : read_by most at len (s + source_len t) (v + content_len t) ≡ Some ts = reads_found most _ _ ts (omega arith) r.2 in
      rw (lt-leb _ _ r.0, r.1, q)

  -- a reading takes no more steps than there are bytes
  pub few_steps : {reach : EscapeReach} (L : ℕ) → Fair reach at L len → (s v : ℕ) (ts : List Step) → IsReading at len s v ts → length ts ≤ (L - s) + (len - v)
  unfolding IsReading
  few_steps L fair s v [] r = omega arith
  few_steps L fair s v (Verbatim n ∷ ts) r =
      let b = fair.same s v n r.0 r.1 in
      let i = few_steps L fair (s + n) (v + n) ts r.2 in
      omega arith
  few_steps L fair s v (Replacement x y ∷ ts) r =
      let b = fair.other s v x y r.0 r.1 in
      let i = few_steps L fair (s + x) (v + y) ts r.2 in
      let more = r.0 in
      ⊎_elim (λ w. omega arith) (λ w. omega arith) b.1

-- ---- of the grammar

module _ (r : Rules) {reach : EscapeReach} (fair : FairTable r.escapes reach) (src val : List ℕ) where
  -- the reading is found just if there is one
  pub found_is_reading : (ts : List Step) → reading_of r src val ≡ Some ts → Reading r src val ts
  unfolding reading_of
  found_is_reading ts e = found_reads (step_at r src val) (length val) (length src + length val) 0 0 ts e

  pub reading_is_found : (ts : List Step) → Reading r src val ts → reading_of r src val ≡ Some ts
  unfolding reading_of
  reading_is_found ts h =
      reads_found (step_at r src val) (length val) (length src + length val) 0 0 ts
      (let q = few_steps (step_at r src val) (length val) (length src) (grammar_fair r fair src val) 0 0 ts h in omega arith) h

  pub no_reading_found : ((ts : List Step) → Reading r src val ts → ⊥) → reading_of r src val ≡ None
  no_reading_found n = go (reading_of r src val) refl
    where
      go : (o : Option (List Step)) → reading_of r src val ≡ o → reading_of r src val ≡ None
      go None e = e
      go (Some ts) e = absurd (n ts (found_is_reading ts e))

-- ---- the equations of the function

-- the reading from two places on
unfoldable pub read_from : Rules → List ℕ → List ℕ → ℕ → ℕ → Option (List Step)
read_from r src val s v = read_by ((length src - s) + (length val - v)) (step_at r src val) (length val) s v

module _ (r : Rules) {reach : EscapeReach} (fair : FairTable r.escapes reach) (src val : List ℕ) where
  pub from_start : reading_of r src val ≡ read_from r src val 0 0
  unfolding reading_of read_from
  from_start = let e : length src + length val ≡ (length src - 0) + (length val - 0) = omega arith in ap (λ (k : ℕ). read_by k (step_at r src val) (length val) 0 0) e

  from_reads : (s v : ℕ) (ts : List Step) → IsReading (step_at r src val) (length val) s v ts → read_from r src val s v ≡ Some ts
  unfolding read_from
  from_reads s v ts h = reads_found (step_at r src val) (length val) _ s v ts (few_steps (step_at r src val) (length val) (length src) (grammar_fair r fair src val) s v ts h) h

  from_found : (s v : ℕ) (ts : List Step) → read_from r src val s v ≡ Some ts → IsReading (step_at r src val) (length val) s v ts
  unfolding read_from
  from_found s v ts e = found_reads (step_at r src val) (length val) _ s v ts e

  -- nothing is left to read at the value's end
  pub reading_ends : (s v : ℕ) → length val ≤ v → read_from r src val s v ≡ Some []
  unfolding IsReading
  reading_ends s v h = from_reads s v [] h

  -- before it, the step that stands there and then the rest
  pub reading_goes_on : (s v : ℕ) → v < length val
      → read_from r src val s v ≡ step_then (step_at r src val s v) (read_from r src val (s + source_by (step_at r src val s v)) (v + content_by (step_at r src val s v)))
  unfolding IsReading
  reading_goes_on s v h = go (read_from r src val s v) (then_of t) refl refl
    where
      t : FittingStep
      t = step_at r src val s v

      then_of : FittingStep → Option (List Step)
      then_of x = step_then x (read_from r src val (s + source_by x) (v + content_by x))

      go : (o q : Option (List Step)) → read_from r src val s v ≡ o → then_of t ≡ q → o ≡ q
      go None None e f = refl
      go o (Some us) e f =
          let g = then_some t _ us f in
          let there = subst (λ (x : FittingStep). read_from r src val (s + source_by x) (v + content_by x) ≡ Some g.others) g.stands g.others_are in
          let w : IsReading (step_at r src val) (length val) s v (g.first ∷ g.others) = (h, g.stands, from_found (s + source_len g.first) (v + content_len g.first) g.others there) in
          sym e ∙ from_reads s v (g.first ∷ g.others) w ∙ ap Some (sym g.all)
      go (Some []) None e f = absurd (let w : length val ≤ v = from_found s v [] e in omega arith)
      go (Some (u ∷ us)) None e f =
          let w = from_found s v (u ∷ us) e in
          absurd (none-some _ (sym f ∙ ap then_of w.1 ∙ ap (step_then (Some u)) (from_reads (s + source_len u) (v + content_len u) us w.2)))
