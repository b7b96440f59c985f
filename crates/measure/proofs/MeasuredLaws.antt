-- "Measured" (02, (b)) is what `Measured` says; and what is measured ends at a boundary of the text, where the cut to the text left never
-- meets it.
use Rattle.std.specs.Prelude.{◌≡◌, refl, ◌⊎◌, Bool, true, false, ◌&&◌, cond, Option, Some, None, List, [], ◌∷◌, ◌++◌, ℕ, zero, suc, ◌+◌, ◌<◌, eqb, length, drop}
use Rattle.std.proofs.Common.{sym, ◌∙◌, ap, subst, inl, inr, ⊎_elim, append_assoc, append-nil, add-zero, arith, eqb-true, eq-eqb, ne_eqb}
use Rattle.utf8.specs.Tests.{clash}
use Rattle.utf8.specs.Utf8.{Utf8, encode, encode_all}
use Rattle.utf8.specs.Characters.{codes, chars_after}
use Rattle.utf8.specs.Boundary.{Boundary}
use Rattle.utf8.proofs.Utf8Laws.{boundary_start}
use Rattle.utf8.specs.Ascii.{single_quote, double_quote}
use Rattle.measure.specs.Length.{measured}
use Rattle.measure.specs.Run.{bytes_of, white_space_run, after_run, holds_newline}
use Rattle.measure.specs.Plain.{is_fold, Reach, unmatched, reaches, past_equal, past_run, begins_with, takes_run, plain_reach, measured_or, plain_measure}
use Rattle.measure.specs.Quoted.{further, passed_together, to_closing, quoted_len, found_or, quoted_measure}
use Rattle.measure.specs.Scalar.{plain, single_quoted, double_quoted, block_measure, style_measure, scalar_measure, scalar_len}
use Rattle.measure.proofs.Places.{run_split, after_none, encode_takes, bytes_append}
use Rattle.measure.specs.Measured.{Matched, EndsEqual, begins_pair, Closed, bytes_passed, Marked, JustIf, SaysMeasured}
use Rattle.measure.proofs.Laws.{plain_boundary, quoted_boundary, block_boundary}
use Rattle.measure.specs.declared.length.Measure.{Measure}

-- ---- plain

abbrev is_reached : Reach → Bool
is_reached unmatched = false
is_reached (reaches n) = true

flag_is : (n : ℕ) (r : Reach) → (measured_or n r).measured ≡ is_reached r
flag_is n unmatched = refl
flag_is n (reaches m) = refl

run_reached : (n : ℕ) (r : Reach) → is_reached (past_run n r) ≡ is_reached r
run_reached n unmatched = refl
run_reached n (reaches zero) = refl
run_reached n (reaches (suc m)) = refl

equal_reached : (n : ℕ) (r : Reach) → is_reached (past_equal n r) ≡ is_reached r
equal_reached n unmatched = refl
equal_reached n (reaches m) = refl

reached_matched : (vs cs : List ℕ) → is_reached (plain_reach vs cs) ≡ true → Matched vs cs
unfolding plain_reach Matched
reached_matched [] cs e = tt
reached_matched (v ∷ vs) cs e = go (takes_run v cs) refl (begins_with v cs) refl (reached_matched vs) e
  where
    go : (t : Bool) → takes_run v cs ≡ t → (b : Bool) → begins_with v cs ≡ b → ((ds : List ℕ) → is_reached (plain_reach vs ds) ≡ true → Matched vs ds)
        → is_reached (cond t (past_run (bytes_of (white_space_run cs)) (plain_reach vs (after_run cs))) (cond b (past_equal (length (encode v)) (plain_reach vs (drop 1 cs))) unmatched)) ≡ true
        → ((takes_run v cs ≡ true) × Matched vs (after_run cs)) ⊎ ((takes_run v cs ≡ false) × (begins_with v cs ≡ true) × Matched vs (drop 1 cs))
    go true p b q more e = inl (p, more (after_run cs) (sym (run_reached (bytes_of (white_space_run cs)) (plain_reach vs (after_run cs))) ∙ e))
    go false p true q more e = inr (p, q, more (drop 1 cs) (sym (equal_reached (length (encode v)) (plain_reach vs (drop 1 cs))) ∙ e))
    go false p false q more e = absurd (clash (sym e))

matched_reached : (vs cs : List ℕ) → Matched vs cs → is_reached (plain_reach vs cs) ≡ true
unfolding plain_reach Matched
matched_reached [] cs m = refl
matched_reached (v ∷ vs) cs m =
    ⊎_elim
    (λ r. rw r.0 (run_reached (bytes_of (white_space_run cs)) (plain_reach vs (after_run cs)) ∙ matched_reached vs (after_run cs) r.1))
    (λ q. rw (q.0, q.1) (equal_reached (length (encode v)) (plain_reach vs (drop 1 cs)) ∙ matched_reached vs (drop 1 cs) q.2))
    m

-- measured exactly where the value is matched
pub plain_matched : (rest value : List ℕ) → (plain_measure rest value).measured ≡ true → Matched (codes value) (codes rest)
unfolding plain_measure
plain_matched rest value e = reached_matched (codes value) (codes rest) (sym (flag_is (length value) (plain_reach (codes value) (codes rest))) ∙ e)

pub matched_plain : (rest value : List ℕ) → Matched (codes value) (codes rest) → (plain_measure rest value).measured ≡ true
unfolding plain_measure
matched_plain rest value m = flag_is (length value) (plain_reach (codes value) (codes rest)) ∙ matched_reached (codes value) (codes rest) m

-- a character takes no run after a run
pub after_no_run : (c : ℕ) (cs : List ℕ) → takes_run c (after_run cs) ≡ false
unfolding takes_run holds_newline
after_no_run c cs = rw (after_none cs) (go (is_fold c))
  where
    go : (t : Bool) → t && false ≡ false
    go true = refl
    go false = refl

reaches_same : {m n : ℕ} → reaches m ≡ reaches n → m ≡ n
reaches_same {m} {n} e = ap (λ (r : Reach). of r) e
  where
    of : Reach → ℕ
    of unmatched = 0
    of (reaches k) = k

never : {n : ℕ} → unmatched ≡ reaches n → ⊥
never e = clash (sym (ap is_reached e))

-- a match that reaches nothing
none_left : (vs cs : List ℕ) → plain_reach vs cs ≡ reaches 0 → (vs ≡ []) ⊎ ((c : ℕ) × (vs ≡ c ∷ []) × (takes_run c cs ≡ true))
unfolding plain_reach
none_left [] cs e = inl refl
none_left (v ∷ vs) cs e = go (takes_run v cs) refl (begins_with v cs) (plain_reach vs (after_run cs)) (none_left vs (after_run cs)) (plain_reach vs (drop 1 cs)) e
  where
    go : (t : Bool) → takes_run v cs ≡ t → (b : Bool) (r : Reach) → (r ≡ reaches 0 → (vs ≡ []) ⊎ ((c : ℕ) × (vs ≡ c ∷ []) × (takes_run c (after_run cs) ≡ true))) → (q : Reach)
        → cond t (past_run (bytes_of (white_space_run cs)) r) (cond b (past_equal (length (encode v)) q) unmatched) ≡ reaches 0
        → (v ∷ vs ≡ []) ⊎ ((c : ℕ) × (v ∷ vs ≡ c ∷ []) × (takes_run c cs ≡ true))
    go true p b unmatched er q e = absurd (never e)
    go true p b (reaches (suc m)) er q e = absurd (let z = reaches_same e in omega arith)
    go true p b (reaches zero) er q e =
        ⊎_elim (λ z. inr (v, ap (λ (l : List ℕ). v ∷ l) z, p)) (λ z. absurd (clash (sym z.2 ∙ after_no_run z.0 cs))) (er refl)
    go false p true r er unmatched e = absurd (never e)
    go false p true r er (reaches m) e = absurd (let z = reaches_same e in let l = encode_takes v in omega arith)
    go false p false r er q e = absurd (never e)

-- the same further on: xs stand before the text's characters, and one before the value's
ends_later : (v : ℕ) {vs cs : List ℕ} {n : ℕ} (xs : List ℕ) → EndsEqual vs cs n → EndsEqual (v ∷ vs) (xs ++ cs) (bytes_of xs + n)
ends_later v {vs} {cs} {n} xs k =
    record {
      before = xs ++ k.before;
      last = k.last;
      after = k.after;
      value_before = v ∷ k.value_before;
      value_after = k.value_after;
      text_is = ap (λ (l : List ℕ). xs ++ l) k.text_is ∙ sym (append_assoc xs k.before (k.last ∷ k.after));
      value_is = ap (λ (l : List ℕ). v ∷ l) k.value_is;
      span_is = ap (λ (m : ℕ). bytes_of xs + m) k.span_is ∙ sym (bytes_append xs (k.before ++ k.last ∷ [])) ∙ ap bytes_of (sym (append_assoc xs k.before (k.last ∷ [])));
      no_more = k.no_more;
    }

begins_is : (c : ℕ) (cs : List ℕ) → begins_with c cs ≡ true → cs ≡ c ∷ drop 1 cs
unfolding begins_with
begins_is c [] e = absurd (clash (sym e))
begins_is c (d ∷ cs) e = ap (λ (x : ℕ). x ∷ cs) (sym (eqb-true c d e))

char_size : (c : ℕ) → bytes_of (c ∷ []) ≡ length (encode c)
unfolding encode_all
char_size c = ap length (append-nil (encode c))

ends_equal : (vs cs : List ℕ) (n : ℕ) → 0 < n → plain_reach vs cs ≡ reaches n → EndsEqual vs cs n
unfolding plain_reach
ends_equal [] cs n h e = absurd (let z = reaches_same e in omega arith)
ends_equal (v ∷ vs) cs n h e = go (takes_run v cs) refl (begins_with v cs) refl (plain_reach vs (after_run cs)) refl (plain_reach vs (drop 1 cs)) refl (ends_equal vs) e
  where
    go : (t : Bool) → takes_run v cs ≡ t → (b : Bool) → begins_with v cs ≡ b → (r : Reach) → plain_reach vs (after_run cs) ≡ r → (q : Reach) → plain_reach vs (drop 1 cs) ≡ q
        → ((ds : List ℕ) (m : ℕ) → 0 < m → plain_reach vs ds ≡ reaches m → EndsEqual vs ds m)
        → cond t (past_run (bytes_of (white_space_run cs)) r) (cond b (past_equal (length (encode v)) q) unmatched) ≡ reaches n
        → EndsEqual (v ∷ vs) cs n
    go true p b w unmatched er q eq more e = absurd (never e)
    go true p b w (reaches zero) er q eq more e = absurd (let z = reaches_same e in omega arith)
    go true p b w (reaches (suc m)) er q eq more e =
        subst (λ (l : List ℕ). EndsEqual (v ∷ vs) l n) (sym (run_split cs))
        (subst (λ (k : ℕ). EndsEqual (v ∷ vs) (white_space_run cs ++ after_run cs) k) (reaches_same e)
        (ends_later v (white_space_run cs) (more (after_run cs) (suc m) (omega arith) er)))
    go false p true w r er unmatched eq more e = absurd (never e)
    go false p true w r er (reaches zero) eq more e =
        record {
          before = [];
          last = v;
          after = drop 1 cs;
          value_before = [];
          value_after = vs;
          text_is = begins_is v cs w;
          value_is = refl;
          span_is = sym (reaches_same e) ∙ add-zero (length (encode v)) ∙ sym (char_size v);
          no_more = none_left vs (drop 1 cs) eq;
        }
    go false p true w r er (reaches (suc m)) eq more e =
        subst (λ (l : List ℕ). EndsEqual (v ∷ vs) l n) (sym (begins_is v cs w))
        (subst (λ (k : ℕ). EndsEqual (v ∷ vs) (v ∷ drop 1 cs) k) (ap (λ (k : ℕ). k + suc m) (char_size v) ∙ reaches_same e)
        (ends_later v (v ∷ []) (more (drop 1 cs) (suc m) (omega arith) eq)))
    go false p false w r er q eq more e = absurd (never e)

-- a plain scalar that is measured: how far it reaches
measured-reaches : (n : ℕ) (r : Reach) → (measured_or n r).measured ≡ true → r ≡ reaches (measured_or n r).len
measured-reaches n unmatched e = absurd (clash (sym e))
measured-reaches n (reaches m) e = refl

-- where it is measured, the value reaches as far as its length says
pub plain_reaches : (rest value : List ℕ) → (plain_measure rest value).measured ≡ true → plain_reach (codes value) (codes rest) ≡ reaches (plain_measure rest value).len
unfolding plain_measure
plain_reaches rest value e = measured-reaches (length value) (plain_reach (codes value) (codes rest)) e

-- and its span ends at the last character that is equal in the value
pub plain_ends : (rest value : List ℕ) → (plain_measure rest value).measured ≡ true → 0 < (plain_measure rest value).len → EndsEqual (codes value) (codes rest) (plain_measure rest value).len
plain_ends rest value e h = ends_equal (codes value) (codes rest) _ h (plain_reaches rest value e)

-- what is assumed is the value's length
pub plain_assumed : (rest value : List ℕ) → (plain_measure rest value).measured ≡ false → (plain_measure rest value).len ≡ length value
unfolding plain_measure
plain_assumed rest value e = go (plain_reach (codes value) (codes rest)) e
  where
    go : (r : Reach) → (measured_or (length value) r).measured ≡ false → (measured_or (length value) r).len ≡ length value
    go unmatched e = refl
    go (reaches m) e = absurd (clash e)

-- an empty value is measured
pub plain_empty : (rest : List ℕ) → plain_measure rest [] ≡ measured 0
unfolding plain_measure plain_reach codes chars_after
plain_empty rest = refl

-- ---- quoted

found_same : {m n : ℕ} → Some m ≡ Some n → m ≡ n
found_same e = ap (λ (r : Option ℕ). of r) e
  where
    of : Option ℕ → ℕ
    of (Some k) = k
    of None = 0

missing_found : {n : ℕ} → None ≡ Some n → ⊥
missing_found e = clash (sym (ap (λ (r : Option ℕ). is_found r) e))
  where
    is_found : Option ℕ → Bool
    is_found (Some k) = true
    is_found None = false

-- the bytes passed on the way to the closing mark, which is found n bytes from here
abbrev ClosedIn : ℕ → List ℕ → ℕ → Type 0
ClosedIn quote s n = (ts : List Bool) × (Closed quote s ts) × (n ≡ bytes_passed ts + 1)

eqb-false : (a b : ℕ) → eqb a b ≡ false → a ≡ b → ⊥
eqb-false a b e h = clash (sym (eq-eqb a b h) ∙ e)

to_closed : (quote : ℕ) (s : List ℕ) (n : ℕ) → to_closing quote s ≡ Some n → ClosedIn quote s n
unfolding to_closing Closed begins_pair bytes_passed
to_closed quote [] n e = absurd (missing_found e)
to_closed quote (a ∷ []) n e = go (eqb a quote) refl e
  where
    go : (t : Bool) → eqb a quote ≡ t → cond t (Some 1) None ≡ Some n → ClosedIn quote (a ∷ []) n
    go true p e = ([], (refl, omega arith, eqb-true a quote p), sym (found_same e))
    go false p e = absurd (missing_found e)
to_closed quote (a ∷ b ∷ s) n e =
    go (passed_together quote a b) refl (eqb a quote) refl (to_closing quote s) (to_closed quote s) (to_closing quote (b ∷ s)) (to_closed quote (b ∷ s)) e
  where
    go : (x : Bool) → passed_together quote a b ≡ x → (y : Bool) → eqb a quote ≡ y
        → (r : Option ℕ) → ((m : ℕ) → r ≡ Some m → ClosedIn quote s m) → (q : Option ℕ) → ((m : ℕ) → q ≡ Some m → ClosedIn quote (b ∷ s) m)
        → cond x (further 2 r) (cond y (Some 1) (further 1 q)) ≡ Some n → ClosedIn quote (a ∷ b ∷ s) n
    go true p y w (Some m) f q g e =
        let k = f m refl in
        let z = found_same e in
        (true ∷ k.0, (p, k.1), let i = k.2 in omega arith)
    go true p y w None f q g e = absurd (missing_found e)
    go false p true w r f q g e = ([], (p, omega arith, eqb-true a quote w), sym (found_same e))
    go false p false w r f (Some m) g e =
        let k = g m refl in
        let z = found_same e in
        (false ∷ k.0, (p, omega arith, eqb-false a quote w, k.1), let i = k.2 in omega arith)
    go false p false w r f None g e = absurd (missing_found e)

closed_to : (quote : ℕ) (ts : List Bool) (s : List ℕ) → Closed quote s ts → to_closing quote s ≡ Some (bytes_passed ts + 1)
unfolding to_closing Closed begins_pair bytes_passed
closed_to quote [] [] k = absurd (omega (arith, k.1))
closed_to quote [] (a ∷ []) k = rw (eq-eqb a quote k.2) refl
closed_to quote [] (a ∷ b ∷ s) k = rw (k.0, eq-eqb a quote k.2) refl
closed_to quote (true ∷ ts) [] k = absurd (clash (sym k.0))
closed_to quote (true ∷ ts) (a ∷ []) k = absurd (clash (sym k.0))
closed_to quote (true ∷ ts) (a ∷ b ∷ s) k = rw (k.0, closed_to quote ts s k.1) (ap Some (let e : 2 + (bytes_passed ts + 1) ≡ 2 + bytes_passed ts + 1 = omega arith in e))
closed_to quote (false ∷ ts) [] k = absurd (omega (arith, k.1))
closed_to quote (false ∷ ts) (a ∷ []) k = absurd (missing_found (closed_to quote ts [] k.3))
closed_to quote (false ∷ ts) (a ∷ b ∷ s) k = rw (k.0, ne_eqb a quote k.2, closed_to quote ts (b ∷ s) k.3) (ap Some (let e : 1 + (bytes_passed ts + 1) ≡ 1 + bytes_passed ts + 1 = omega arith in e))

measured_found : (m n : ℕ) (r : Option ℕ) → found_or m r ≡ measured n → r ≡ Some n
measured_found m n (Some k) e = ap Some (ap (λ (x : Measure). x.len) e)
measured_found m n None e = absurd (clash (sym (ap (λ (x : Measure). x.measured) e)))

-- measured, with n bytes, exactly where the marks stand so
pub quoted_marked : (rest value : List ℕ) (quote n : ℕ) → quoted_measure rest value quote ≡ measured n → Marked rest quote n
unfolding quoted_measure quoted_len
quoted_marked [] value quote n e = absurd (missing_found (measured_found (length value) n None e))
quoted_marked (a ∷ s) value quote n e = go (eqb a quote) refl (to_closing quote s) (to_closed quote s) (measured_found (length value) n _ e)
  where
    go : (t : Bool) → eqb a quote ≡ t → (r : Option ℕ) → ((m : ℕ) → r ≡ Some m → ClosedIn quote s m) → cond t (further 1 r) None ≡ Some n → Marked (a ∷ s) quote n
    go false p r f e = absurd (missing_found e)
    go true p None f e = absurd (missing_found e)
    go true p (Some m) f e =
        let k = f m refl in
        let z = found_same e in
        let i = k.2 in
        record { some = omega arith; opening = eqb-true a quote p; passed = k.0; closed = k.1; size = omega arith }

pub marked_quoted : (rest value : List ℕ) (quote n : ℕ) → Marked rest quote n → quoted_measure rest value quote ≡ measured n
unfolding quoted_measure quoted_len
marked_quoted [] value quote n k = absurd (omega (arith, k.some))
marked_quoted (a ∷ s) value quote n k =
    let e : 1 + (bytes_passed k.passed + 1) ≡ n = omega (arith, k.size) in
    rw (eq-eqb a quote k.opening, closed_to quote k.passed s k.closed) (ap measured e)

pub quoted_assumed : (rest value : List ℕ) (quote : ℕ) → (quoted_measure rest value quote).measured ≡ false → (quoted_measure rest value quote).len ≡ length value
unfolding quoted_measure
quoted_assumed rest value quote e = go (quoted_len rest quote) e
  where
    go : (r : Option ℕ) → (found_or (length value) r).measured ≡ false → (found_or (length value) r).len ≡ length value
    go None e = refl
    go (Some m) e = absurd (clash e)

-- ---- block, and all styles

pub block_measured : (rest : List ℕ) (empty_span : Bool) (column : ℕ) → (block_measure rest empty_span column).measured ≡ true
unfolding block_measure
block_measured rest empty_span column = refl

block_ends : {rest : List ℕ} → Utf8 rest → (empty_span : Bool) (column : ℕ) → Boundary rest (block_measure rest empty_span column).len
unfolding block_measure
block_ends u true column = boundary_start u
block_ends u false column = block_boundary u column

plain_measured_ends : {rest : List ℕ} → Utf8 rest → (value : List ℕ) → (plain_measure rest value).measured ≡ true → Boundary rest (plain_measure rest value).len
plain_measured_ends {rest} u value e = plain_boundary u value (plain_reaches rest value e)

quoted_measured_ends : {rest : List ℕ} → Utf8 rest → (value : List ℕ) (quote : ℕ) → quote < 0x80 → (quoted_measure rest value quote).measured ≡ true → Boundary rest (quoted_measure rest value quote).len
unfolding quoted_measure
quoted_measured_ends {rest} u value quote l e = quoted_boundary u l (found (quoted_len rest quote) e)
  where
    found : (r : Option ℕ) → (found_or (length value) r).measured ≡ true → r ≡ Some (found_or (length value) r).len
    found (Some m) e = refl
    found None e = absurd (clash (sym e))

style_ends : {rest : List ℕ} → Utf8 rest → (value : List ℕ) (style : ℕ) (empty_span : Bool) (column : ℕ)
    → (style_measure rest value style empty_span column).measured ≡ true → Boundary rest (style_measure rest value style empty_span column).len
unfolding style_measure
style_ends {rest} u value style empty_span column e = go (eqb style plain) (eqb style single_quoted) (eqb style double_quoted) e
  where
    go : (a b c : Bool)
        → (cond a (plain_measure rest value) (cond b (quoted_measure rest value single_quote) (cond c (quoted_measure rest value double_quote) (block_measure rest empty_span column)))).measured ≡ true
        → Boundary rest (cond a (plain_measure rest value) (cond b (quoted_measure rest value single_quote) (cond c (quoted_measure rest value double_quote) (block_measure rest empty_span column)))).len
    go true b c e = plain_measured_ends u value e
    go false true c e = quoted_measured_ends u value single_quote (omega arith) e
    go false false true e = quoted_measured_ends u value double_quote (omega arith) e
    go false false false e = block_ends u empty_span column

-- what is measured is not cut, and ends at a boundary of the text
pub measured_uncut : {rest : List ℕ} → Utf8 rest → (value : List ℕ) (style : ℕ) (empty_span : Bool) (column : ℕ)
    → (scalar_measure rest value style empty_span column).measured ≡ true → scalar_len rest value style empty_span column ≡ (style_measure rest value style empty_span column).len
unfolding scalar_measure
measured_uncut u value style empty_span column e = let w = (style_ends u value style empty_span column e).within in omega arith

pub measured_boundary : {rest : List ℕ} → Utf8 rest → (value : List ℕ) (style : ℕ) (empty_span : Bool) (column : ℕ)
    → (scalar_measure rest value style empty_span column).measured ≡ true → Boundary rest (scalar_len rest value style empty_span column)
unfolding scalar_measure
measured_boundary {rest} u value style empty_span column e =
    subst (λ (n : ℕ). Boundary rest n) (sym (measured_uncut u value style empty_span column e)) (style_ends u value style empty_span column e)

-- a plain scalar that is measured reaches as far as its span
pub scalar_reaches : {rest : List ℕ} → Utf8 rest → (value : List ℕ) (empty_span : Bool) (column : ℕ)
    → (scalar_measure rest value plain empty_span column).measured ≡ true → plain_reach (codes value) (codes rest) ≡ reaches (scalar_len rest value plain empty_span column)
unfolding scalar_measure style_measure
scalar_reaches {rest} u value empty_span column e =
    plain_reaches rest value e ∙ ap reaches (sym (measured_uncut u value plain empty_span column e))

-- ---- document 02's sentence

length_measured : (k : Measure) → k.measured ≡ true → k ≡ measured k.len
length_measured k e = ap (λ (t : Bool). record { len = k.len; measured = t }) e

quoted_just_if : (rest value : List ℕ) (quote : ℕ) → JustIf (quoted_measure rest value quote).measured ((n : ℕ) × Marked rest quote n)
quoted_just_if rest value quote =
    record {
      to = λ e. ((quoted_measure rest value quote).len, quoted_marked rest value quote _ (length_measured (quoted_measure rest value quote) e));
      from = λ k. ap (λ (x : Measure). x.measured) (marked_quoted rest value quote k.0 k.1);
    }

pub scalar_says : (rest value : List ℕ) (style : ℕ) (empty_span : Bool) (column : ℕ) → SaysMeasured rest value style (scalar_measure rest value style empty_span column).measured
unfolding scalar_measure style_measure
scalar_says rest value style empty_span column =
    record {
      in_plain = λ e. rw (eq-eqb style plain e) (record { to = plain_matched rest value; from = matched_plain rest value });
      in_single_quotes = λ e. rw (ne_eqb style plain (λ z. omega arith), eq-eqb style single_quoted e) (quoted_just_if rest value single_quote);
      in_double_quotes = λ e.
          rw (ne_eqb style plain (λ z. omega arith), ne_eqb style single_quoted (λ z. omega arith), eq-eqb style double_quoted e) (quoted_just_if rest value double_quote);
      in_blocks = λ h.
          rw (ne_eqb style plain (λ z. omega arith), ne_eqb style single_quoted (λ z. omega arith), ne_eqb style double_quoted (λ z. omega arith)) (block_measured rest empty_span column);
    }
