-- What a step takes: at least a byte of the source or the rest of the value, and no more than there is, but for escapes. Over any table
-- of escapes that is fair.
use Rattle.std.specs.Prelude.{◌≡◌, true, ◌⊎◌, Option, Some, None, option_map, List, [], ◌∷◌, ℕ, ◌+◌, ◌-◌, ◌≤◌, ◌<◌, ltb, eqb, length, take, drop, get_or}
use Rattle.std.specs.Option.{option_or}
use Rattle.std.proofs.Math.Path.{refl}
use Rattle.std.proofs.lemmas.Option.{none-some, same_Some}
use Rattle.std.proofs.Common.{sym, ap, ◌∙◌, subst, inl, inr, ⊎_elim, arith, length-take, length-drop, ltb-true, eqb-true, eq-eqb}
use Rattle.utf8.specs.Ascii.{same_bytes}
use Rattle.provenance.specs.declared.escape.Escape.{Escape}
use Rattle.provenance.specs.declared.step.Step.{Step}
use Rattle.provenance.specs.declared.step.Step.TheVariants.{Verbatim, Replacement}
use Rattle.provenance.specs.Run.{white_run, newlines_in, cut, blank_run, only_newlines}
use Rattle.provenance.specs.Escape.{EscapeReach}
use Rattle.provenance.specs.EscapeLaws.{FairTable}
use Rattle.provenance.specs.Grammar.{Rules, FittingStep, paired, break_pair, opens_break, break_step, as_step, escape_step, equal_step, end_step, step, step_at}
use Rattle.utf8.specs.Tests.{clash, and_both}
use Rattle.provenance.specs.Tests.{cond_taken, cond_other}
use Rattle.provenance.specs.RunLaws.{run_within, blanks_within, cut_within, cut_some, cut_is, blanks_are, front_of}

-- ---- equal bytes

pub same_true : (a b : List ℕ) → same_bytes a b ≡ true → a ≡ b
unfolding same_bytes
same_true [] [] h = refl
same_true [] (y ∷ ys) h = absurd (clash (sym h))
same_true (x ∷ xs) [] h = absurd (clash (sym h))
same_true (x ∷ xs) (y ∷ ys) h =
    let p = and_both (eqb x y) (same_bytes xs ys) h in
    let e : x ≡ y = eqb-true x y p.0 in
    let r : xs ≡ ys = same_true xs ys p.1 in
    cc

pub same_refl : (a : List ℕ) → same_bytes a a ≡ true
unfolding same_bytes
same_refl [] = refl
same_refl (x ∷ xs) = rw (eq-eqb x x refl) (same_refl xs)

-- ---- steps of different kinds, and none

pub none_verbatim : (k : ℕ) → None ≡ Some (Verbatim k) → ⊥
none_verbatim k = none-some (Verbatim k)

pub none_replacement : (a b : ℕ) → None ≡ Some (Replacement a b) → ⊥
none_replacement a b = none-some (Replacement a b)

pub verbatim_replacement : (k a b : ℕ) → Verbatim k ≡ Replacement a b → ⊥
verbatim_replacement k a b h = cc

pub replacement_verbatim : (k a b : ℕ) → Replacement a b ≡ Verbatim k → ⊥
replacement_verbatim k a b h = cc

-- ---- what each step takes

abbrev pub TakesSame : List ℕ → List ℕ → ℕ → Type 0
TakesSame src val k = (0 < k) × (k ≤ length src) × (k ≤ length val) × (take k src ≡ take k val)

-- an escape stands where at least a byte of the value is left, so its content passes the value by less than it has
abbrev pub TakesOther : EscapeReach → List ℕ → List ℕ → ℕ → ℕ → Type 0
TakesOther reach src val a b =
    (b ≤ length val + (reach.content - 1)) × (((0 < a) × (0 < length src) × (a ≤ length src + reach.past)) ⊎ ((a ≡ 0) × (b ≡ length val)))

module _ (r : Rules) (src val : List ℕ) where
  abbrev X : List ℕ
  X = cut r.block r.column (white_run src)

  abbrev Y : List ℕ
  Y = take (newlines_in (white_run src)) (blank_run val)

  -- a break that fits
  break_fits : (t : Step) → break_step r src val ≡ Some t → (0 < newlines_in (white_run src)) × (paired X Y ≡ t)
  unfolding break_step break_pair
  break_fits t h =
      let p = cond_taken (opens_break r.block (get_or src 0 0) (get_or val 0 0)) _ None (Some t) (none-some t) h in
      let q = cond_taken (ltb 0 (newlines_in (white_run src))) (Some (paired X Y)) None (Some t) (none-some t) p.1 in
      (ltb-true 0 _ q.0, same_Some _ _ q.1)

  break_bounds : 0 < newlines_in (white_run src) → (0 < length X) × (length X ≤ length src) × (length Y ≤ length val)
  break_bounds h =
      let e₁ = cut_some r.block r.column (white_run src) h in
      let e₂ = cut_within r.block r.column (white_run src) in
      let e₃ = run_within src in
      let e₄ = length-take (newlines_in (white_run src)) (blank_run val) in
      let e₅ = blanks_within val in
      (e₁, omega arith, omega arith)

  break_same : (k : ℕ) → break_step r src val ≡ Some (Verbatim k) → TakesSame src val k
  break_same k h =
      let p = break_fits (Verbatim k) h in
      let q = cond_taken (same_bytes X Y) (Verbatim (length X)) (Replacement (length X) (length Y)) (Verbatim k) (replacement_verbatim k (length X) (length Y)) p.1 in
      let e : Verbatim (length X) ≡ Verbatim k = q.1 in
      let ek : length X ≡ k = cc in
      let xy : X ≡ Y = same_true X Y q.0 in
      let ey : length Y ≡ k = ap length (sym xy) ∙ ek in
      let b = break_bounds p.0 in
      let tx : X ≡ take k src = cut_is r.block r.column src ∙ ap (λ (n : ℕ). take n src) ek in
      let ty : Y ≡ take k val = front_of (newlines_in (white_run src)) (blank_run val) val (blanks_are val) ∙ ap (λ (n : ℕ). take n val) ey in
      (omega arith, omega arith, omega arith, sym tx ∙ xy ∙ ty)

  break_other : (a b : ℕ) → break_step r src val ≡ Some (Replacement a b) → (0 < a) × (a ≤ length src) × (b ≤ length val)
  break_other a b h =
      let p = break_fits (Replacement a b) h in
      let q = cond_other (same_bytes X Y) (Verbatim (length X)) (Replacement (length X) (length Y)) (Replacement a b) (verbatim_replacement (length X) a b) p.1 in
      let e : Replacement (length X) (length Y) ≡ Replacement a b = q.1 in
      let ea : length X ≡ a = cc in
      let eb : length Y ≡ b = cc in
      let m = break_bounds p.0 in
      (omega arith, omega arith, omega arith)

equal_is : (src val : List ℕ) (t : Step) → equal_step src val ≡ Some t → (Verbatim 1 ≡ t) × TakesSame src val 1
unfolding equal_step
equal_is [] val t h = absurd (none-some t h)
equal_is (x ∷ xs) [] t h = absurd (none-some t h)
equal_is (x ∷ xs) (y ∷ ys) t h =
    let p = cond_taken (eqb x y) (Some (Verbatim 1)) None (Some t) (none-some t) h in
    (same_Some _ _ p.1, (omega arith, omega arith, omega arith, ap (λ (z : ℕ). z ∷ []) (eqb-true x y p.0)))

end_is : (src val : List ℕ) (t : Step) → end_step src val ≡ Some t → Replacement 0 (length val) ≡ t
unfolding end_step
end_is [] val t h = same_Some _ _ (cond_taken (only_newlines val) (Some (Replacement 0 (length val))) None (Some t) (none-some t) h).1
end_is (x ∷ xs) val t h = absurd (none-some t h)

-- ---- by what each of the four says
module _ (r : Rules) {reach : EscapeReach} (fair : FairTable r.escapes reach) (src val : List ℕ) where
  same_of : (k : ℕ) (B : FittingStep) (E : Option Escape) (S : FittingStep) → break_step r src val ≡ B → r.escapes src ≡ E → equal_step src val ≡ S
      → option_or B (option_or (option_map as_step E) (option_or S (end_step src val))) ≡ Some (Verbatim k) → TakesSame src val k
  same_of k (Some t) E S o p q h = break_same r src val k (o ∙ h)
  same_of k None (Some e) S o p q h = absurd (replacement_verbatim k e.source e.content (same_Some _ _ h))
  same_of k None None (Some t) o p q h =
      let w = equal_is src val (Verbatim k) (q ∙ h) in
      let e : Verbatim 1 ≡ Verbatim k = w.0 in
      let e' : 1 ≡ k = cc in
      subst (λ (n : ℕ). TakesSame src val n) e' w.1
  same_of k None None None o p q h = absurd (replacement_verbatim k 0 (length val) (end_is src val (Verbatim k) h))

  other_of : (a b : ℕ) (B : FittingStep) (E : Option Escape) (S : FittingStep) → 0 < length val → break_step r src val ≡ B → r.escapes src ≡ E → equal_step src val ≡ S
      → option_or B (option_or (option_map as_step E) (option_or S (end_step src val))) ≡ Some (Replacement a b)
      → TakesOther reach src val a b × (length val < b → (B ≡ None) × (option_map as_step E ≡ Some (Replacement a b)))
  other_of a b (Some t) E S m o p q h =
      let w = break_other r src val a b (o ∙ h) in
      ((omega arith, inl (w.0, omega arith, omega arith)), λ past. absurd (omega arith))
  other_of a b None (Some e) S m o p q h =
      let ea : e.source ≡ a = cc in
      let eb : e.content ≡ b = cc in
      let f₁ = fair.some_source src e.source e.content p in
      let f₂ = fair.some_taken src e.source e.content p in
      let f₃ = fair.few_past src e.source e.content p in
      let f₄ = fair.few_content src e.source e.content p in
      ((omega arith, inl (omega arith, f₁, omega arith)), λ past. (refl, h))
  other_of a b None None (Some t) m o p q h = absurd (verbatim_replacement 1 a b (equal_is src val (Replacement a b) (q ∙ h)).0)
  other_of a b None None None m o p q h =
      let e : Replacement 0 (length val) ≡ Replacement a b = end_is src val (Replacement a b) h in
      let ea : 0 ≡ a = cc in
      let eb : length val ≡ b = cc in
      ((omega arith, inr (sym ea, sym eb)), λ past. absurd (omega arith))

  pub step_same : (k : ℕ) → step r src val ≡ Some (Verbatim k) → TakesSame src val k
  unfolding step
  step_same k h = same_of k (break_step r src val) (r.escapes src) (equal_step src val) refl refl refl h

  pub step_other : (a b : ℕ) → 0 < length val → step r src val ≡ Some (Replacement a b) → TakesOther reach src val a b
  unfolding step
  step_other a b m h = (other_of a b (break_step r src val) (r.escapes src) (equal_step src val) m refl refl refl h).0

  -- past the value's end only by an escape
  pub step_past : (a b : ℕ) → 0 < length val → step r src val ≡ Some (Replacement a b) → length val < b
      → (break_step r src val ≡ None) × (escape_step r src ≡ Some (Replacement a b))
  unfolding step
  step_past a b m h past = (other_of a b (break_step r src val) (r.escapes src) (equal_step src val) m refl refl refl h).1 past

-- ---- a step function of two places: what it takes of L source bytes and len value bytes

pub record Fair (reach : EscapeReach) (at : ℕ → ℕ → FittingStep) (L len : ℕ) : Type 0 where
  pub same : (s v k : ℕ) → v < len → at s v ≡ Some (Verbatim k) → (0 < k) × (s + k ≤ L) × (v + k ≤ len)
  pub other : (s v a b : ℕ) → v < len → at s v ≡ Some (Replacement a b) → (v + b ≤ len + (reach.content - 1)) × (((0 < a) × (s < L) × (s + a ≤ L + reach.past)) ⊎ ((a ≡ 0) × (v + b ≡ len)))

pub grammar_fair : (r : Rules) {reach : EscapeReach} → FairTable r.escapes reach → (src val : List ℕ) → Fair reach (step_at r src val) (length src) (length val)
grammar_fair r fair src val =
    record {
      same = λ s v k more h.
          let w = step_same r fair (drop s src) (drop v val) k h in
          let es = length-drop s src in
          let ev = length-drop v val in
          (omega arith, omega arith, omega arith);
      other = λ s v a b more h.
          let es = length-drop s src in
          let ev = length-drop v val in
          let w = step_other r fair (drop s src) (drop v val) a b (omega arith) h in
          (omega arith, ⊎_elim (λ x. inl (omega arith, omega arith, omega arith)) (λ x. inr (omega arith, omega arith)) w.1);
    }
