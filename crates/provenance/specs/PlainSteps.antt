-- How many source bytes the walk of a plain scalar takes, if it has a reading, from what is left of the source and of the value: over a
-- break, over equal bytes, and where nothing fits.
use Rattle.std.specs.Prelude.{◌≡◌, Bool, ◌&&◌, ◌⊎◌, Some, None, ltb, leb, eqb, take, drop, get_or, Option}
use Rattle.std.specs.Option.{option_or}
use Rattle.std.proofs.Math.Path.{refl, ap}
use Rattle.std.proofs.Common.{sym, ◌∙◌, zero-add, add-zero, drop-drop}
use Rattle.std.proofs.Math.Bool.{true, false, cond}
use mathlib.Core.List.{List, [], ◌∷◌, ◌++◌}
use Rattle.std.proofs.Math.Logic.{inl, inr, ⊎_elim}
use Prim.{Unit}
use Prim.Native.Nat.{ℕ, zero, suc, ◌+◌, ◌-◌, ◌<◌}
use native.Mathlib.Omega.{arith}
use borrow.Author.Tests.{le-leb, lt-leb, lt-ltb, eqb-true, eqb-false, eq-eqb, ne_eqb}
use Rattle.std.proofs.Math.ListN.{length, length-drop}
use Rattle.utf8.specs.Ascii.{newline, same_bytes}
use Rattle.utf8.specs.Class.{is_white_space_byte}
use Rattle.utf8.specs.Tests.{clash, by_order}
use Rattle.measure.specs.Run.{holds_newline}
use Rattle.measure.specs.Plain.{is_fold}
use Rattle.measure.specs.Scalar.{plain}
use Rattle.provenance.specs.declared.step.Step.{Step}
use Rattle.provenance.specs.declared.step.Step.TheVariants.{Verbatim, Replacement}
use Rattle.provenance.specs.Run.{white_run, newlines_in, cut, blank_run, only_newlines}
use Rattle.provenance.specs.Escape.{EscapeReach, escapes_of}
use Rattle.provenance.specs.EscapeLaws.{FairTable, style_fair}
use Rattle.provenance.specs.Grammar.{Rules, FittingStep, paired, break_pair, is_break_byte, opens_break, break_step, equal_step, end_step, step, step_at, rules_of}
use Rattle.provenance.specs.Reading.{source_len, content_len, source_by, content_by, step_then, read_by, reading_of}
use Rattle.provenance.specs.ReadingLaws.{read_from, from_start, reading_ends, reading_goes_on}
use Rattle.provenance.specs.StepLaws.{same_true}
use Rattle.provenance.specs.Tests.{by_answer, and_no}
use Rattle.provenance.specs.Alike.{source_lens, source_taken}

-- ---- a reading from two places on is one of what is left

module _ (r : Rules) (src val : List ℕ) (s v : ℕ) where
  same_step : (i j : ℕ) → step_at r src val (s + i) (v + j) ≡ step_at r (drop s src) (drop v val) i j
  same_step i j = rw (drop-drop i s src, drop-drop j v val)

  same_end : (j : ℕ) → leb (length val) (v + j) ≡ leb (length (drop v val)) j
  same_end j =
      let e = length-drop v val in
      by_order (v + j) (length val)
      (λ lt. lt-leb (length val) (v + j) lt ∙ sym (lt-leb (length (drop v val)) j (omega arith)))
      (λ le. le-leb (length val) (v + j) le ∙ sym (le-leb (length (drop v val)) j (omega arith)))

  read_there : (most i j : ℕ) → read_by most (step_at r src val) (length val) (s + i) (v + j) ≡ read_by most (step_at r (drop s src) (drop v val)) (length (drop v val)) i j
  unfolding read_by
  read_there zero i j = rw (same_end j)
  read_there (suc most) i j =
      let t = step_at r (drop s src) (drop v val) i j in
      let a : s + i + source_by t ≡ s + (i + source_by t) = omega arith in
      let b : v + j + content_by t ≡ v + (j + content_by t) = omega arith in
      rw (same_end j, same_step i j, a, b, read_there most (i + source_by t) (j + content_by t))

  from_there : read_from r src val s v ≡ reading_of r (drop s src) (drop v val)
  unfolding read_from reading_of
  from_there =
      let most = length (drop s src) + length (drop v val) in
      let e : length src - s + (length val - v) ≡ most = rw (length-drop s src, length-drop v val) in
      ap (λ (k : ℕ). read_by k (step_at r src val) (length val) s v) e
      ∙ ap (λ (i : ℕ). read_by most (step_at r src val) (length val) i v) (sym (add-zero s))
      ∙ ap (λ (j : ℕ). read_by most (step_at r src val) (length val) (s + 0) j) (sym (add-zero v))
      ∙ read_there most 0 0

reading_on : (r : Rules) {reach : EscapeReach} → FairTable r.escapes reach → (src val : List ℕ) → 0 < length val
    → reading_of r src val ≡ step_then (step r src val) (reading_of r (drop (source_by (step r src val)) src) (drop (content_by (step r src val)) val))
reading_on r fair src val h =
    let t = step r src val in
    from_start r fair src val ∙ reading_goes_on r fair src val 0 0 h
    ∙ rw (zero-add (source_by t), zero-add (content_by t)) (ap (step_then t) (from_there r src val (source_by t) (content_by t)))

-- ---- how many source bytes it takes

abbrev pub more_taken : ℕ → Option ℕ → Option ℕ
more_taken n None = None
more_taken n (Some m) = Some (n + m)

then_taken : (t : Step) (o : Option (List Step)) → source_taken (step_then (Some t) o) ≡ more_taken (source_len t) (source_taken o)
unfolding source_lens
then_taken t None = refl
then_taken t (Some ts) = refl

-- ---- runs and bytes

-- a run holds a newline just if some are counted in it
pub newlines_held : (l : List ℕ) → ltb 0 (newlines_in l) ≡ holds_newline l
unfolding newlines_in holds_newline
newlines_held [] = refl
newlines_held (b ∷ bs) = by_answer (eqb b newline) (λ e. rw e (lt-ltb 0 (suc (newlines_in bs)) (omega arith))) (λ e. rw e (newlines_held bs))

run_begins : (src : List ℕ) → holds_newline (white_run src) ≡ true → is_white_space_byte (get_or src 0 0) ≡ true
unfolding white_run holds_newline
run_begins [] h = absurd (clash (sym h))
run_begins (b ∷ src) h = by_answer (is_white_space_byte b) (λ e. e) (λ e. absurd (clash (sym (rw e at h))))

-- a break that fits is the step, whatever else does
either_pair : (xs ys : List ℕ) (t : FittingStep) → option_or (Some (paired xs ys)) t ≡ Some (paired xs ys)
either_pair xs ys t = refl

-- bytes that begin no break
abbrev pub Quiet : List ℕ → Type 0
Quiet [] = Unit {0}
Quiet (b ∷ bs) = (is_break_byte b ≡ false) × Quiet bs

module _ (column : ℕ) where
  abbrev pub plain_taken : List ℕ → List ℕ → Option ℕ
  plain_taken src val = source_taken (reading_of (rules_of plain column) src val)

  pub taken_end : (src : List ℕ) → plain_taken src [] ≡ Some 0
  unfolding source_lens
  taken_end src = ap source_taken (from_start (rules_of plain column) (style_fair plain) src [] ∙ reading_ends (rules_of plain column) (style_fair plain) src [] 0 0 (omega arith))

  taken_by : (src val : List ℕ) (t : Step) → 0 < length val → step (rules_of plain column) src val ≡ Some t
      → plain_taken src val ≡ more_taken (source_len t) (plain_taken (drop (source_len t) src) (drop (content_len t) val))
  taken_by src val t h e =
      ap source_taken (reading_on (rules_of plain column) (style_fair plain) src val h) ∙ rw e (then_taken t _)

  taken_not : (src val : List ℕ) → 0 < length val → step (rules_of plain column) src val ≡ None → plain_taken src val ≡ None
  taken_not src val h e = ap source_taken (reading_on (rules_of plain column) (style_fair plain) src val h) ∙ rw e

  -- ---- a break

  break_step_is : (src : List ℕ) (c : ℕ) (val : List ℕ) → is_break_byte c ≡ true → holds_newline (white_run src) ≡ true
      → step (rules_of plain column) src (c ∷ val) ≡ Some (paired (white_run src) (take (newlines_in (white_run src)) (blank_run (c ∷ val))))
  unfolding step break_step break_pair opens_break cut
  break_step_is src c val e h =
      rw (e, run_begins src h, newlines_held (white_run src), h)

  -- the run, and with it the blanks and newlines ys
  pub taken_break : (src : List ℕ) (c : ℕ) (val ys : List ℕ) → is_break_byte c ≡ true → holds_newline (white_run src) ≡ true
      → take (newlines_in (white_run src)) (blank_run (c ∷ val)) ≡ ys
      → plain_taken src (c ∷ val) ≡ more_taken (length (white_run src)) (plain_taken (drop (length (white_run src)) src) (drop (length ys) (c ∷ val)))
  taken_break src c val ys e h w =
      let xs = white_run src in
      let p : step (rules_of plain column) src (c ∷ val) ≡ Some (paired xs ys) = break_step_is src c val e h ∙ ap (λ (zs : List ℕ). Some (paired xs zs)) w in
      by_answer (same_bytes xs ys)
      (λ s.
      let z : length xs ≡ length ys = ap length (same_true xs ys s) in
      taken_by src (c ∷ val) (Verbatim (length xs)) (omega arith) (p ∙ rw s)
      ∙ ap (λ (k : ℕ). more_taken (length xs) (plain_taken (drop (length xs) src) (drop k (c ∷ val)))) z)
      (λ s. taken_by src (c ∷ val) (Replacement (length xs) (length ys)) (omega arith) (p ∙ rw s))

  -- ---- no break

  step_unbroken : (src : List ℕ) (c : ℕ) (val : List ℕ) → is_break_byte c && holds_newline (white_run src) ≡ false
      → step (rules_of plain column) src (c ∷ val) ≡ option_or (equal_step src (c ∷ val)) (end_step src (c ∷ val))
  unfolding step break_step opens_break escapes_of
  step_unbroken src c val e =
      rw (newlines_held (white_run src), not_taken (is_break_byte c) (is_white_space_byte (get_or src 0 0)) (holds_newline (white_run src)) _ e)
    where
      not_taken : (a b n : Bool) (t : FittingStep) → a && n ≡ false → cond (a && b) (cond n t None) None ≡ None
      not_taken true true n t z = rw z
      not_taken true false n t z = refl
      not_taken false b n t z = refl

  pub taken_same : (x : ℕ) (src val : List ℕ) → is_break_byte x && holds_newline (white_run (x ∷ src)) ≡ false → plain_taken (x ∷ src) (x ∷ val) ≡ more_taken 1 (plain_taken src val)
  unfolding equal_step
  taken_same x src val e = taken_by (x ∷ src) (x ∷ val) (Verbatim 1) (omega arith) (step_unbroken (x ∷ src) x val e ∙ rw (eq-eqb x x refl))

  pub taken_other : (x : ℕ) (src : List ℕ) (c : ℕ) (val : List ℕ) → is_break_byte c && holds_newline (white_run (x ∷ src)) ≡ false → (x ≡ c → ⊥) → plain_taken (x ∷ src) (c ∷ val) ≡ None
  unfolding equal_step end_step
  taken_other x src c val e n = taken_not (x ∷ src) (c ∷ val) (omega arith) (step_unbroken (x ∷ src) c val e ∙ rw (ne_eqb x c n))

  pub taken_nothing : (c : ℕ) (val : List ℕ) → (c ≡ newline → ⊥) → plain_taken [] (c ∷ val) ≡ None
  unfolding equal_step end_step only_newlines white_run holds_newline
  taken_nothing c val n = taken_not [] (c ∷ val) (omega arith) (step_unbroken [] c val (and_no (is_break_byte c)) ∙ rw (ne_eqb c newline n))

  -- ---- bytes that begin no break

  pub taken_copied : (bs src val : List ℕ) → Quiet bs → plain_taken (bs ++ src) (bs ++ val) ≡ more_taken (length bs) (plain_taken src val)
  taken_copied [] src val q = more_none (plain_taken src val)
    where
      more_none : (o : Option ℕ) → o ≡ more_taken 0 o
      more_none None = refl
      more_none (Some n) = ap Some (sym (zero-add n))
  taken_copied (b ∷ bs) src val q =
      taken_same b (bs ++ src) (bs ++ val) (rw q.0) ∙ ap (more_taken 1) (taken_copied bs src val q.1) ∙ more_twice (length bs) (plain_taken src val)
    where
      more_twice : (n : ℕ) (o : Option ℕ) → more_taken 1 (more_taken n o) ≡ more_taken (suc n) o
      more_twice n None = refl
      more_twice n (Some m) = ap Some (omega arith)

  -- they stand in the source, or there is no reading
  pub copied_or_none : (bs src val : List ℕ) → Quiet bs → (plain_taken src (bs ++ val) ≡ None) ⊎ (src ≡ bs ++ drop (length bs) src)
  unfolding is_fold
  copied_or_none [] src val q = inr refl
  copied_or_none (b ∷ bs) [] val q = inl (taken_nothing b (bs ++ val) (λ e. clash (rw e at q.0)))
  copied_or_none (b ∷ bs) (x ∷ src) val q =
      by_answer (eqb x b)
      (λ e.
      let f : x ≡ b = eqb-true x b e in
      ⊎_elim
      (λ z. inl (ap (λ (y : ℕ). plain_taken (y ∷ src) (b ∷ (bs ++ val))) f ∙ taken_same b src (bs ++ val) (rw q.0) ∙ rw z))
      (λ z. inr (ap (λ (y : ℕ). y ∷ src) f ∙ ap (λ (l : List ℕ). b ∷ l) z))
      (copied_or_none bs src val q.1))
      (λ e. inl (taken_other x src b (bs ++ val) (rw q.0) (eqb-false x b e)))
