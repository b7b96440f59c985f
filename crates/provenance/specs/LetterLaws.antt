-- At a letter the grammar's step is one equal byte, whatever the style (S11).
use Rattle.std.specs.Prelude.{◌≡◌, refl, Bool, true, false, ◌&&◌, ◌||◌, cond, Option, Some, None, List, [], ◌∷◌, ℕ, suc, ◌+◌, ◌<◌, leb, eqb, drop, get_or}
use Rattle.std.proofs.Common.{sym, ap, ◌∙◌, ⊎_elim, arith, eq-eqb, ne_eqb, drop-cons, drop-drop, get_or-drop}
use Rattle.std.proofs.lemmas.Bool.{lt-leb}
use Rattle.utf8.specs.Class.{is_white_space_byte}
use Rattle.measure.specs.Plain.{is_fold}
use Rattle.measure.specs.Scalar.{single_quoted, double_quoted}
use Rattle.provenance.specs.declared.step.Step.TheVariants.{Verbatim}
use Rattle.provenance.specs.declared.escape.Escape.{Escape}
use Rattle.provenance.specs.Run.{white_run, newlines_in}
use Rattle.provenance.specs.Escape.{single_quote_escapes, double_quote_escapes, escapes_of}
use Rattle.provenance.specs.Grammar.{Rules, FittingStep, opens_break, break_step, equal_step, step, step_at, rules_of}
use Rattle.letters.specs.Letters.{WordByte, LetterByte, Letters}
use Rattle.utf8.specs.Tests.{by_order}

-- ---- no break

above_white : (b : ℕ) → 32 < b → (b ≡ 133 → ⊥) → (b ≡ 160 → ⊥) → is_white_space_byte b ≡ false
above_white b h n m = rw (lt-leb b 13 (omega arith), ne_eqb b 32 (λ e. omega arith), ne_eqb b 133 n, ne_eqb b 160 m) (no_part (leb 9 b))
  where
    no_part : (t : Bool) → (t && false) || false ≡ false
    no_part true = refl
    no_part false = refl

not_white : (b c : ℕ) → WordByte b c → is_white_space_byte b ≡ false
not_white b c w =
    let l = w.above in
    above_white b l (λ e. ⊎_elim (λ h. omega arith) (λ h. omega arith) w.low) (λ e. ⊎_elim (λ h. omega arith) (λ h. omega arith) w.low)

-- white space ends after a blank before a letter
run_ends : (src : List ℕ) → WordByte (get_or src 0 0) (get_or src 1 0) → white_run src ≡ []
unfolding white_run
run_ends [] w = absurd (let h = w.above in omega arith)
run_ends (b ∷ src) w = rw (not_white b (get_or src 0 0) w)

no_newline : (a : ℕ) (src : List ℕ) → a ≡ 32 → WordByte (get_or src 0 0) (get_or src 1 0) → newlines_in (white_run (a ∷ src)) ≡ 0
unfolding white_run newlines_in
no_newline a src e h = rw (e, run_ends src h)

-- no break begins with a byte above a blank
no_opening : (block : Bool) (a : ℕ) → 32 < a → opens_break block a a ≡ false
unfolding opens_break is_fold
no_opening block a h = rw (ne_eqb a 32 (λ e. omega arith), ne_eqb a 10 (λ e. omega arith), ne_eqb a 9 (λ e. omega arith))

no_break : (r : Rules) (a : ℕ) (src val : List ℕ) → LetterByte a (get_or src 0 0) (get_or src 1 0) → break_step r (a ∷ src) (a ∷ val) ≡ None
unfolding break_step
no_break r a src val l =
    by_order 32 a
    (λ lt. rw (no_opening r.block a lt))
    (λ le.
    let h = l.above in
    let e : a ≡ 32 = omega arith in
    rw (no_newline a src e (⊎_elim (λ n. absurd (n e)) (λ w. w) l.blank)) (either_way (opens_break r.block a a)))
  where
    either_way : (t : Bool) → ◌≡◌ {A = FittingStep} (cond t None None) None
    either_way true = refl
    either_way false = refl

-- ---- no escape

no_escape : (style a : ℕ) (src : List ℕ) → (a ≡ 39 → ⊥) → (a ≡ 92 → ⊥) → escapes_of style (a ∷ src) ≡ None
unfolding escapes_of single_quote_escapes double_quote_escapes
no_escape style a src q b = rw (ne_eqb a 39 q, ne_eqb a 92 b) (any (eqb style single_quoted) (eqb style double_quoted))
  where
    any : (s t : Bool) → ◌≡◌ {A = Option Escape} (cond s None (cond t None None)) None
    any true t = refl
    any false true = refl
    any false false = refl

-- ---- the step

letter_step : (style column a : ℕ) (src val : List ℕ) → LetterByte a (get_or src 0 0) (get_or src 1 0) → step (rules_of style column) (a ∷ src) (a ∷ val) ≡ Some (Verbatim 1)
unfolding step equal_step
letter_step style column a src val l =
    rw (no_break (rules_of style column) a src val l, no_escape style a src l.no_quote l.no_backslash, eq-eqb a a refl)

-- at each of the letters that source and value go on with
pub letters-steps :
    (style column : ℕ) (src val : List ℕ) (s v n : ℕ) → Letters (drop s src) (drop v val) n →
    (j : ℕ) → j < n → step_at (rules_of style column) src val (s + j) (v + j) ≡ Some (Verbatim 1)
letters-steps style column src val s v n l j h =
    let p = l.run.each j h in
    let a = get_or (drop s src) j 0 in
    let in-s = l.run.in_source in
    let in-v = l.run.in_value in
    let ds : drop (s + j) src ≡ a ∷ drop (suc j) (drop s src) = sym (drop-drop j s src) ∙ drop-cons (drop s src) j 0 (omega arith) in
    let dv : drop (v + j) val ≡ get_or (drop v val) j 0 ∷ drop (suc j) (drop v val) = sym (drop-drop j v val) ∙ drop-cons (drop v val) j 0 (omega arith) in
    let next : get_or (drop (suc j) (drop s src)) 0 0 ≡ get_or (drop s src) (j + 1) 0 = get_or-drop (suc j) (drop s src) 0 0 ∙ ap (λ (k : ℕ). get_or (drop s src) k 0) (omega arith) in
    let after : get_or (drop (suc j) (drop s src)) 1 0 ≡ get_or (drop s src) (j + 2) 0 = get_or-drop (suc j) (drop s src) 1 0 ∙ ap (λ (k : ℕ). get_or (drop s src) k 0) (omega arith) in
    rw (ds, dv, sym p.0) (letter_step style column a (drop (suc j) (drop s src)) (drop (suc j) (drop v val)) (rw (next, after) p.1))
