-- The step that fits, as the code finds it.
use mathlib.Core.Path.{◌≡◌, refl, sym, ap, ◌∙◌, subst}
use mathlib.Core.Bool.{Bool, true, false, ◌&&◌, ◌||◌, cond}
use mathlib.Core.List.{List, [], ◌∷◌}
use Prim.Native.Nat.{ℕ, ◌+◌, ◌-◌, ◌≤◌, ◌<◌, min}
use native.Mathlib.Omega.{arith}
use lib.Dec.{ltb, eqb}
use lib.ListN.{length, take, drop, get_or, length-take, length-drop}
use lib.Seq.{drop-drop}
use borrow.Author.Tests.{lt-ltb, le-ltb, eq-eqb}
use Rattle.utf8.specs.Ascii.{same_bytes, newline, carriage_return}
use Rattle.provenance.specs.declared.run.Run.{Run}
use Rattle.provenance.specs.declared.escape.Escape.{Escape}
use Rattle.std.specs.Prelude.{Option, Some, None, option_map}
use Rattle.std.specs.Option.{option_or}
use Rattle.std.specs.Bool.{then_some}
use Rattle.provenance.specs.declared.step.Step.{Step}
use Rattle.provenance.specs.declared.step.Step.TheVariants.{Verbatim, Replacement}
use Rattle.provenance.specs.Run.{white_run, newlines_in, cut, blank_run}
use Rattle.provenance.specs.Counted.{no_run, counted_run, cut_len}
use Rattle.provenance.specs.Grammar.{Rules, FittingStep, break_pair, starts_break, is_break_byte, opens_break, break_step, as_step, escape_step, equal_step, end_step, step}
use Rattle.provenance.specs.Looked.{break_run, Tells, known_after}
use Rattle.utf8.specs.Tests.{clash, by_order}
use Rattle.provenance.specs.Tests.{by_test, by_answer, byte_past, and_no}
use Rattle.provenance.specs.RunLaws.{run_within, cut_within, cut_numbers, cut_is, blanks_within, blanks_are, front_of, clear_inside}
use Rattle.provenance.specs.StepLaws.{same_refl, same_true}

-- ---- where a break may begin

module _ (block : Bool) (b c : ℕ) (e : is_break_byte c ≡ true) where
  -- in a block at a newline
  pub opens_newline : block ≡ true → b ≡ newline → true ≡ opens_break block b c
  unfolding opens_break
  opens_newline f n =
      sym (ap (λ (t : Bool). t && starts_break block b) e ∙ ap (λ (t : Bool). starts_break t b) f ∙ ap (λ (t : Bool). t || eqb b carriage_return) (eq-eqb b newline n))

never_opens : (block : Bool) (c : ℕ) → opens_break block 0 c ≡ false
unfolding opens_break
never_opens block c = by_test (λ (t : Bool). is_break_byte c && starts_break t 0 ≡ false) block (and_no (is_break_byte c)) (and_no (is_break_byte c))

pub opens_inside : (block : Bool) (src : List ℕ) (s c : ℕ) → opens_break block (get_or src s 0) c ≡ true → s < length src
opens_inside block src s c h =
    by_order s (length src) (λ lt. lt)
    (λ le. absurd (clash (sym h ∙ ap (λ (b : ℕ). opens_break block b c) (byte_past src s le) ∙ never_opens block c)))

-- as three calls tell it
pub opens_told : (t block block' : Bool) (b b' c c' : ℕ) → t ≡ opens_break block b c → block ≡ block' → b ≡ b' → c ≡ c' → opens_break block' b' c' ≡ t
opens_told t block block' b b' c c' e p q r = sym (e ∙ ap (λ (x : Bool). opens_break x b c) p ∙ ap (λ (x : ℕ). opens_break block' x c) q ∙ ap (λ (x : ℕ). opens_break block' b' x) r)

-- ---- the run that is looked at

-- what step 1 looks at is nothing, or the run that stands there
looks_at : {X : Type 0} (block : Bool) (src val : List ℕ) (run : Run) → run ≡ break_run block src val → (run ≡ no_run → X) → (opens_break block (get_or src 0 0) (get_or val 0 0) ≡ true → run ≡ counted_run src → X) → X
unfolding break_run
looks_at block src val run e f g =
    by_answer (opens_break block (get_or src 0 0) (get_or val 0 0))
    (λ o. g o (rw o at e))
    (λ o. f (rw o at e))

-- a run with newlines was found, and stands there
pub found : (block : Bool) (src val : List ℕ) (run : Run) → run ≡ break_run block src val → 0 < run.newlines
    → (opens_break block (get_or src 0 0) (get_or val 0 0) ≡ true) × (run ≡ counted_run src)
found block src val run e h =
    looks_at block src val run e
    (λ z. let q : run.newlines ≡ 0 = ap (λ (x : Run). x.newlines) z in absurd (omega arith))
    (λ o q. (o, q))

pub found_inside : (block : Bool) (src val : List ℕ) (s : ℕ) (run : Run) → run ≡ break_run block (drop s src) val → 0 < run.newlines → s < length src
found_inside block src val s run e h =
    let p = opens_inside block (drop s src) 0 (get_or val 0 0) (found block (drop s src) val run e h).0 in
    let q = length-drop s src in
    omega arith

-- ---- step 1

-- how many bytes the two sides have
pub cut_of : (block : Bool) (column : ℕ) (run : Run) (l : List ℕ) (a : ℕ) → a ≡ cut_len block column run → run ≡ counted_run l → a ≡ length (cut block column (white_run l))
unfolding counted_run
cut_of block column run l a e q = e ∙ ap (λ (x : Run). cut_len block column x) q ∙ cut_numbers block column (white_run l)

pub folds_of : (run : Run) (l val : List ℕ) (b : ℕ) → b ≡ min run.newlines (length (blank_run val)) → run ≡ counted_run l → b ≡ length (take (newlines_in (white_run l)) (blank_run val))
unfolding counted_run
folds_of run l val b e q = e ∙ ap (λ (x : Run). min x.newlines (length (blank_run val))) q ∙ sym (length-take (newlines_in (white_run l)) (blank_run val))

pub cut_inside : (block : Bool) (column : ℕ) (l : List ℕ) → length (cut block column (white_run l)) ≤ length l
cut_inside block column l = let p = cut_within block column (white_run l) in let q = run_within l in omega arith

pub folds_inside : (n : ℕ) (val : List ℕ) → length (take n (blank_run val)) ≤ length val
folds_inside n val = let p = length-take n (blank_run val) in let q = blanks_within val in omega arith

module _ (block : Bool) (column : ℕ) (l val : List ℕ) (a b : ℕ) (ea : a ≡ length (cut block column (white_run l))) (eb : b ≡ length (take (newlines_in (white_run l)) (blank_run val))) where
  abbrev X : List ℕ
  X = cut block column (white_run l)

  abbrev Y : List ℕ
  Y = take (newlines_in (white_run l)) (blank_run val)

  left_is : X ≡ take a l
  left_is = cut_is block column l ∙ ap (λ (n : ℕ). take n l) (sym ea)

  right_is : Y ≡ take b val
  right_is = front_of (newlines_in (white_run l)) (blank_run val) val (blanks_are val) ∙ ap (λ (n : ℕ). take n val) (sym eb)

  pub pair_same : take a l ≡ take b val → Verbatim a ≡ break_pair block column (white_run l) val
  unfolding break_pair
  pair_same e =
      let xy : X ≡ Y = left_is ∙ e ∙ sym right_is in
      let y : same_bytes X Y ≡ true = subst (λ (z : List ℕ). same_bytes X z ≡ true) xy (same_refl X) in
      ap Verbatim ea ∙ sym (ap (λ (t : Bool). cond t (Verbatim (length X)) (Replacement (length X) (length Y))) y)

  pub pair_other : (t : Bool) → (take a l ≡ take b val → t ≡ true) → t ≡ false → Replacement a b ≡ break_pair block column (white_run l) val
  unfolding break_pair
  pair_other t f e =
      let n : same_bytes X Y ≡ false = by_answer (same_bytes X Y) (λ y. absurd (clash (sym (f (sym left_is ∙ same_true X Y y ∙ right_is)) ∙ e))) (λ y. y) in
      ap (λ (k : ℕ). Replacement k b) ea ∙ ap (λ (k : ℕ). Replacement (length X) k) eb ∙ sym (ap (λ (t : Bool). cond t (Verbatim (length X)) (Replacement (length X) (length Y))) n)

-- ---- the four in turn

module _ (r : Rules) (src val : List ℕ) where
  pub step_break : (run : Run) → run ≡ break_run r.block src val → 0 < run.newlines → (t : Step) → t ≡ break_pair r.block r.column (white_run src) val → Some t ≡ step r src val
  unfolding step break_step counted_run
  step_break run e h t q =
      let p = found r.block src val run e h in
      let n : 0 < newlines_in (white_run src) = (let m : run.newlines ≡ newlines_in (white_run src) = ap (λ (x : Run). x.newlines) p.1 in omega arith) in
      ap (λ (x : Step). Some x) q ∙ sym (rw (p.0, lt-ltb 0 _ n))

  module _ (z : (break_run r.block src val).newlines ≡ 0) where
    break_falls : break_step r src val ≡ None
    unfolding break_step break_run counted_run
    break_falls =
        by_answer (opens_break r.block (get_or src 0 0) (get_or val 0 0))
        (λ o. let q = rw o at z in let w : newlines_in (white_run src) ≤ 0 = omega arith in rw (o, le-ltb 0 _ w))
        (λ o. rw o)

    rest_is : option_or (escape_step r src) (option_or (equal_step src val) (end_step src val)) ≡ step r src val
    unfolding step
    rest_is = sym (ap (λ (t : FittingStep). option_or t (option_or (escape_step r src) (option_or (equal_step src val) (end_step src val)))) break_falls)

    pub step_escape : (e : Option Escape) (x : Escape) → e ≡ r.escapes src → e ≡ Some x → Some (as_step x) ≡ step r src val
    step_escape e x p q =
        sym (ap (λ (x : Option Escape). option_or (option_map as_step x) (option_or (equal_step src val) (end_step src val))) (sym p ∙ q)) ∙ rest_is

    module _ (e : Option Escape) (p : e ≡ r.escapes src) (q : e ≡ None) where
      last_is : option_or (equal_step src val) (end_step src val) ≡ step r src val
      last_is = sym (ap (λ (x : Option Escape). option_or (option_map as_step x) (option_or (equal_step src val) (end_step src val))) (sym p ∙ q)) ∙ rest_is

      pub step_end : src ≡ [] → (t : FittingStep) → t ≡ end_step [] val → t ≡ step r src val
      unfolding equal_step
      step_end n t h = h ∙ sym (ap (λ (l : List ℕ). option_or (equal_step l val) (end_step l val)) n) ∙ last_is

      module _ (x : ℕ) (xs : List ℕ) (y : ℕ) (ys : List ℕ) (ex : src ≡ x ∷ xs) (ey : val ≡ y ∷ ys) where
        pub step_byte : then_some (eqb x y) (Verbatim 1) ≡ step r src val
        unfolding equal_step end_step
        step_byte =
            by_test (λ (t : Bool). then_some t (Verbatim 1) ≡ option_or (cond t (Some (Verbatim 1)) None) None) (eqb x y) refl refl
            ∙ sym (ap (λ (l : List ℕ). option_or (equal_step l val) (end_step l val)) ex ∙ ap (λ (l : List ℕ). option_or (equal_step (x ∷ xs) l) (end_step (x ∷ xs) l)) ey)
            ∙ last_is

-- ---- runs that are known to hold no newline

-- from s on and before `known`
abbrev pub Clear : List ℕ → ℕ → ℕ → Type 0
Clear src s known = (i : ℕ) → s ≤ i → i < known → newlines_in (white_run (drop i src)) ≡ 0

module _ (block : Bool) (src val : List ℕ) (s v known : ℕ) (clear : Clear src s known) (run : Run)
    (e : run ≡ cond (ltb s known) no_run (break_run block (drop s src) (drop v val))) where
  pub tells : Tells run block (drop s src) (drop v val)
  unfolding break_run counted_run
  tells =
      by_order s known
      (λ lt.
      let z : run ≡ no_run = rw (lt-ltb _ _ lt) at e in
      let n : run.newlines ≡ 0 = ap (λ (x : Run). x.newlines) z in
      record {
        fits = λ h. absurd (omega arith);
        falls = λ _.
            by_test (λ (t : Bool). (cond t (counted_run (drop s src)) no_run).newlines ≡ 0) (opens_break block (get_or (drop s src) 0 0) (get_or (drop v val) 0 0))
            (clear s (omega arith) lt) refl;
      })
      (λ le.
      let z : run ≡ break_run block (drop s src) (drop v val) = rw (le-ltb _ _ le) at e in
      record { fits = λ _. z; falls = λ h. ap (λ (x : Run). x.newlines) (sym z) ∙ h })

  pub run_small : run.len ≤ length src
  unfolding counted_run
  run_small =
      by_order s known
      (λ lt. let z : run ≡ no_run = rw (lt-ltb _ _ lt) at e in let n : run.len ≡ 0 = ap (λ (x : Run). x.len) z in omega arith)
      (λ le.
      looks_at block (drop s src) (drop v val) run (rw (le-ltb _ _ le) at e)
      (λ z. let n : run.len ≡ 0 = ap (λ (x : Run). x.len) z in omega arith)
      (λ o z. let n : run.len ≡ length (white_run (drop s src)) = ap (λ (x : Run). x.len) z in let w = run_within (drop s src) in let d = length-drop s src in omega arith))

  clear_known : Clear src s (known_after known s run)
  unfolding known_after counted_run
  clear_known =
      by_order 0 run.newlines
      (λ lt. rw (lt-ltb _ _ lt) clear)
      (λ none.
      by_answer (eqb run.len 0)
      (λ z. rw (le-ltb _ _ none, z) clear)
      (λ z.
      let some_len : run.len ≡ 0 → ⊥ = borrow.Author.Tests.eqb-false _ _ z in
      rw (le-ltb _ _ none, z)
      (by_order s known
      (λ lt. let q : run ≡ no_run = rw (lt-ltb _ _ lt) at e in absurd (some_len (ap (λ (x : Run). x.len) q)))
      (λ le.
      looks_at block (drop s src) (drop v val) run (rw (le-ltb _ _ le) at e)
      (λ q. absurd (some_len (ap (λ (x : Run). x.len) q)))
      (λ o q i a b.
      let n : run.len ≡ length (white_run (drop s src)) = ap (λ (x : Run). x.len) q in
      let k : run.newlines ≡ newlines_in (white_run (drop s src)) = ap (λ (x : Run). x.newlines) q in
      let j : s + (i - s) ≡ i = omega arith in
      let w : newlines_in (white_run (drop (i - s) (drop s src))) ≡ 0 = clear_inside (drop s src) (i - s) (omega arith) (omega arith) in
      sym (ap (λ (l : List ℕ). newlines_in (white_run l)) (drop-drop (i - s) s src ∙ ap (λ (k : ℕ). drop k src) j)) ∙ w)))))

  pub clear_after : (k : ℕ) → k ≡ known_after known s run → Clear src s k
  clear_after k q = subst (λ (j : ℕ). Clear src s j) (sym q) clear_known

-- it stays so further on
pub clear_on : (src : List ℕ) (s s' known : ℕ) → s ≤ s' → Clear src s known → Clear src s' known
clear_on src s s' known h c i a b = c i (omega arith) b
