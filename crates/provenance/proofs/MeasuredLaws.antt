-- What a plain scalar's walk takes where the measure finds the value, by induction over the value's characters. Source and value are the
-- encodings of their characters, so what is left of them is again an encoding, or they differ within the next character.
use Rattle.std.proofs.Math.Path.{◌≡◌, refl, sym, ap, subst}
use Rattle.std.proofs.lemmas.Option.{none-some, same_Some}
use Rattle.std.proofs.Common.{◌∙◌, ⊎_elim, add-zero, add_assoc}
use Rattle.std.specs.Prelude.{is_some, Bool, ◌&&◌, ◌||◌, ℕ, zero, suc, ◌+◌, ◌<◌, drop, None, Option, Some}
use Rattle.std.proofs.Math.Bool.{true, false, cond}
use mathlib.Core.List.{List, [], ◌∷◌, ◌++◌}
use Rattle.std.proofs.Math.Nat.{zero-add}
use native.Mathlib.Omega.{arith}
use borrow.Author.Tests.{lt-ltb, ltb-true, eqb-true, eqb-false, eq-eqb, not-true, not-false}
use Rattle.std.proofs.Math.Dec.{ltb, eqb}
use Rattle.std.proofs.Math.ListN.{length}
use Rattle.std.proofs.Math.Seq.{drop-append_seam, take-nil}
use Rattle.utf8.specs.Ascii.{tab, newline}
use Rattle.utf8.specs.Utf8.{ScalarValue, ScalarValues, encode, encode_all, is_ascii}
use Rattle.utf8.specs.Boundary.{Boundary}
use Rattle.utf8.specs.Characters.{character, first_char}
use Rattle.utf8.specs.WhiteSpace.{is_white_space}
use Rattle.utf8.proofs.Utf8Laws.{read, encode_all_append, scalars_back, boundary_is}
use Rattle.utf8.specs.Tests.{clash, by_order, and_left, and_right}
use Rattle.utf8.specs.declared.utf8.Char.{Char}
use Rattle.measure.specs.Run.{bytes_of, white_space_run, after_run, holds_newline}
use Rattle.measure.specs.Plain.{is_fold, Reach, unmatched, reaches, past_equal, past_run, begins_with, takes_run, plain_reach}
use Rattle.measure.specs.Scalar.{plain}
use Rattle.measure.proofs.Places.{run_split, after_none, encode_takes}
use Rattle.measure.proofs.MeasuredLaws.{after_no_run}
use Rattle.provenance.specs.declared.step.Step.{Step}
use Rattle.provenance.specs.declared.step.Step.TheVariants.{Verbatim, Replacement}
use Rattle.provenance.specs.Run.{white_run, newlines_in, blank_run}
use Rattle.provenance.specs.Escape.{EscapeReach}
use Rattle.provenance.specs.EscapeLaws.{FairTable}
use Rattle.provenance.specs.Grammar.{Rules, FittingStep, is_break_byte, step_at, rules_of}
use Rattle.provenance.specs.Reading.{IsReading, reading_of, Piece, step_pieces, both_verbatim, join_on, joined, pieces_of}
use Rattle.provenance.specs.ReadingLaws.{found_is_reading}
use Rattle.provenance.specs.Layout.{pieces_if}
use Rattle.provenance.specs.Start.{walk_start, list_from, scalar_list}
use Rattle.provenance.specs.Tests.{by_test, by_answer, and_no}
use Rattle.provenance.specs.Alike.{ascii_front, run_taken, equal_alike, reads_alike, past_span, source_lens, source_taken, pieces_end}
use Rattle.provenance.specs.AlikeLaws.{takes_only, alike_equal, alike_run, alike_last}
use Rattle.provenance.specs.PlainRuns.{ascii_bytes, wide, quiet_bytes, walk_run, break_white, held_some, front_held, front_all, bytes_all, run_some, run_parts, run_over, or_left, no_blanks, take_one}
use Rattle.provenance.specs.PlainSteps.{more_taken, plain_taken, taken_end, taken_break, taken_same, taken_other, taken_nothing, taken_copied, copied_or_none, newlines_held}

-- ---- steps at a character

module _ (column : ℕ) where
  -- a blank or newline takes a run that holds a newline
  fold_takes : (src : List ℕ) (c : ℕ) (val : List ℕ) → is_fold c ≡ true → blank_run val ≡ [] → holds_newline (white_run src) ≡ true
      → plain_taken column src (c ∷ val) ≡ more_taken (length (white_run src)) (plain_taken column (drop (length (white_run src)) src) val)
  unfolding blank_run
  fold_takes src c val f b h =
      taken_break column src c val (c ∷ []) (rw f) h
      (rw (f, b) (take_one (newlines_in (white_run src)) c (ltb-true 0 (newlines_in (white_run src)) (newlines_held (white_run src) ∙ h))))

  -- where no break stands, an ASCII character is equal or not
  ascii_step : (c : ℕ) (val : List ℕ) (x : ℕ) (xs : List ℕ) → c < 0x80 → is_break_byte c && holds_newline (ascii_front (white_space_run (x ∷ xs))) ≡ false
      → plain_taken column (encode_all (x ∷ xs)) (c ∷ val) ≡ cond (eqb c x) (more_taken 1 (plain_taken column (encode_all xs) val)) None
  unfolding encode_all
  ascii_step c val x xs l h =
      let n : is_break_byte c && holds_newline (white_run (encode x ++ encode_all xs)) ≡ false = rw (walk_run (x ∷ xs)) h in
      by_answer (eqb c x)
      (λ e.
      let f : c ≡ x = eqb-true c x e in
      let b : encode x ≡ c ∷ [] = ap encode (sym f) ∙ ascii_bytes c l in
      rw (b, e) (taken_same column c (encode_all xs) val (rw b at n)))
      (λ e.
      by_order x 0x80
      (λ lt. rw (ascii_bytes x lt, e) (taken_other column x (encode_all xs) c val (rw (ascii_bytes x lt) at n) (λ f. eqb-false c x e (sym f))))
      (λ le.
      let w = wide x le in
      let k = w.high in
      rw (w.is, e) (taken_other column w.begin (w.more ++ encode_all xs) c val (rw w.is at n) (λ f. omega arith))))

  -- at a tab a break takes no content, and then nothing fits
  tab_stuck : (src val : List ℕ) → white_run src ≡ [] → plain_taken column src (tab ∷ val) ≡ None
  unfolding white_run holds_newline
  tab_stuck [] val e = taken_nothing column tab val (λ z. omega arith)
  tab_stuck (x ∷ src) val e = taken_other column x src tab val (rw e (and_no (is_break_byte tab))) (λ f. absurd (let z : ◌≡◌ {A = ℕ} 0 (suc (length (white_run src))) = sym (ap length (rw f at e)) in omega arith))

  tab_takes : (src val : List ℕ) → holds_newline (white_run src) ≡ true → plain_taken column src (tab ∷ val) ≡ None
  unfolding blank_run is_fold
  tab_takes src val h =
      taken_break column src tab val [] refl h (take-nil (newlines_in (white_run src)))
      ∙ rw (tab_stuck (drop (length (white_run src)) src) val (run_over src))

  -- where source and value go on with different characters, of which the value's is no white space
  taken_apart : (d e : ℕ) (src val : List ℕ) → ScalarValue d → ScalarValue e → is_white_space d ≡ false → (e ≡ d → ⊥) → plain_taken column (encode e ++ src) (encode d ++ val) ≡ None
  taken_apart d e src val vd ve w n =
      ⊎_elim
      (λ z. z)
      (λ z.
      let f : character e (length (encode e)) ≡ character d (length (encode d)) = sym (read e src ve) ∙ ap first_char z ∙ read d (drop (length (encode d)) (encode e ++ src)) vd in
      absurd (n (ap (λ (k : Char). k.code) f)))
      (copied_or_none column (encode d) (encode e ++ src) val (quiet_bytes d (break_white d w)))

-- ---- how far the measure reaches

-- the measure of what is left is x, and with the k bytes before it is n
record Reached (x : Reach) (k n : ℕ) : Type 0 where
  after : ℕ
  is : x ≡ reaches after
  sum : n ≡ k + after

equal_reached : (k : ℕ) (x : Reach) (n : ℕ) → past_equal k x ≡ reaches n → Reached x k n
equal_reached k unmatched n e = absurd (let z : ◌≡◌ {A = ℕ} 0 1 = cc in omega arith)
equal_reached k (reaches m) n e = record { after = m; is = refl; sum = (cc) }

-- over a run, where something equal follows
run_reached : (k : ℕ) (x : Reach) (n : ℕ) → ((m : ℕ) → x ≡ reaches m → 0 < m) → past_run k x ≡ reaches n → Reached x k n
run_reached k unmatched n p e = absurd (let z : ◌≡◌ {A = ℕ} 0 1 = cc in omega arith)
run_reached k (reaches zero) n p e = absurd (let z = p 0 refl in omega arith)
run_reached k (reaches (suc m)) n p e = record { after = suc m; is = refl; sum = (cc) }

-- over a run at the value's end
run_at_end : (k n : ℕ) → past_run k (reaches 0) ≡ reaches n → n ≡ 0
run_at_end k n e = cc

-- the rest begins with the value's character c
record EqualFirst (c : ℕ) (vs cs : List ℕ) (n : ℕ) : Type 0 where
  others : List ℕ
  are : cs ≡ c ∷ others
  reached : Reached (plain_reach vs others) (length (encode c)) n

is_equal : (c : ℕ) (vs cs : List ℕ) (n : ℕ) → takes_run c cs ≡ false → plain_reach (c ∷ vs) cs ≡ reaches n → EqualFirst c vs cs n
unfolding plain_reach begins_with
is_equal c vs [] n t e = absurd (let z : ◌≡◌ {A = ℕ} 0 1 = cc (rw t at e) in omega arith)
is_equal c vs (d ∷ ds) n t e =
    by_answer (eqb c d)
    (λ f. record { others = ds; are = ap (λ (x : ℕ). x ∷ ds) (sym (eqb-true c d f)); reached = equal_reached (length (encode c)) (plain_reach vs ds) n (rw (t, f) at e) })
    (λ f. absurd (let g = rw (t, f) at e in let z : ◌≡◌ {A = ℕ} 0 1 = cc in omega arith))

-- a character that begins no run is no white space
dark_first : (d : ℕ) (cs : List ℕ) → white_space_run (d ∷ cs) ≡ [] → is_white_space d ≡ false
unfolding white_space_run
dark_first d cs e =
    by_answer (is_white_space d)
    (λ f. absurd (let z : ◌≡◌ {A = ℕ} 0 (suc (length (white_space_run cs))) = sym (ap length (rw f at e)) in omega arith))
    (λ f. f)

-- ---- along the value

-- what the walk takes: the span and what it takes past it, if it goes along
abbrev pub alike_taken : List ℕ → List ℕ → ℕ → Option ℕ
alike_taken vs cs n = cond (reads_alike vs cs) (Some (n + past_span vs cs)) None

more_if : (k m : ℕ) (t : Bool) → more_taken k (cond t (Some m) None) ≡ cond t (Some (k + m)) None
more_if k m true = refl
more_if k m false = refl

-- a blank or newline is ASCII
fold_ascii : (c : ℕ) → is_fold c ≡ true → c < 0x80
unfolding is_fold
fold_ascii c f = by_answer (eqb c 32) (λ e. let g = eqb-true c 32 e in omega arith) (λ e. let g = eqb-true c 10 (rw e at f) in omega arith)

module _ (column : ℕ) where
  -- an equal character
  same_char : (c : ℕ) (cs val : List ℕ) → takes_run c (c ∷ cs) ≡ false → equal_alike c (c ∷ cs) ≡ true
      → plain_taken column (encode_all (c ∷ cs)) (encode c ++ val) ≡ more_taken (length (encode c)) (plain_taken column (encode_all cs) val)
  unfolding encode_all takes_run equal_alike
  same_char c cs val t a =
      let run = white_space_run (c ∷ cs) in
      let n : is_break_byte c && holds_newline (ascii_front run) ≡ false = unbroken (is_fold c) (eqb c tab) (holds_newline (ascii_front run)) (holds_newline run) t (front_held run) (not-true _ a) in
      by_order c 0x80
      (λ lt. rw (ascii_bytes c lt) (rw (ascii_bytes c lt, eq-eqb c c refl) at (ascii_step column c val c cs lt n)))
      (λ le. let w = wide c le in taken_copied column (encode c) (encode_all cs) val (rw w.is w.quiet))
    where
      unbroken : (f t h l : Bool) → f && l ≡ false → (h ≡ true → l ≡ true) → t && h ≡ false → (f || t) && h ≡ false
      unbroken f t false l p q e = and_no (f || t)
      unbroken true t true l p q e = absurd (clash (sym (q refl) ∙ p))
      unbroken false t true l p q e = e

  -- a tab before a newline
  tab_char : (c : ℕ) (cs val : List ℕ) → equal_alike c (c ∷ cs) ≡ false → plain_taken column (encode_all (c ∷ cs)) (encode c ++ val) ≡ None
  unfolding equal_alike
  tab_char c cs val a =
      let b = not-false _ a in
      let e : c ≡ tab = eqb-true c tab (and_left (eqb c tab) _ b) in
      let h : holds_newline (white_run (encode_all (c ∷ cs))) ≡ true = rw (walk_run (c ∷ cs)) (and_right (eqb c tab) _ b) in
      let f : encode c ≡ tab ∷ [] = ascii_bytes c (omega arith) ∙ ap (λ (x : ℕ). x ∷ []) e in
      rw f (tab_takes column (encode_all (c ∷ cs)) val h)

  -- over an equal character: as it goes on after it
  over_equal : (c : ℕ) (vs cs : List ℕ) (m n : ℕ) → takes_run c (c ∷ cs) ≡ false → n ≡ length (encode c) + m
      → plain_taken column (encode_all cs) (encode_all vs) ≡ alike_taken vs cs m
      → plain_taken column (encode_all (c ∷ cs)) (encode c ++ encode_all vs) ≡ alike_taken (c ∷ vs) (c ∷ cs) n
  over_equal c vs cs m n t s r =
      let a = alike_equal c vs cs t in
      let k : length (encode c) + (m + past_span vs cs) ≡ n + past_span vs cs = omega arith in
      rw (a.0, a.1)
      (by_answer (equal_alike c (c ∷ cs))
      (λ e. rw e (same_char c cs (encode_all vs) t e ∙ ap (more_taken (length (encode c))) r ∙ more_if (length (encode c)) (m + past_span vs cs) (reads_alike vs cs) ∙ rw k))
      (λ e. rw e (tab_char c cs (encode_all vs) e)))

  -- the last character, where the walk sees no newline of the run
  last_equal : (c : ℕ) (cs : List ℕ) → is_fold c ≡ true → holds_newline (white_space_run cs) ≡ true → holds_newline (ascii_front (white_space_run cs)) ≡ false
      → plain_taken column (encode_all cs) (c ∷ []) ≡ cond (ltb 0 (cond (begins_with c (white_space_run cs)) 1 0)) (Some (0 + cond (begins_with c (white_space_run cs)) 1 0)) None
  unfolding white_space_run holds_newline begins_with
  last_equal c [] f r h = absurd (clash (sym r))
  last_equal c (x ∷ xs) f r h =
      ascii_step column c [] x xs (fold_ascii c f) (rw h (and_no (is_break_byte c)))
      ∙ by_answer (is_white_space x)
      (λ e. rw (e, taken_end column (encode_all xs)) (by_test (λ (t : Bool). cond t (Some 1) None ≡ cond (ltb 0 (cond t 1 0)) (Some (0 + cond t 1 0)) None) (eqb c x) refl refl))
      (λ e. absurd (clash (sym (rw e at r))))

  -- over the run that the value's last character takes
  over_last_run : (c : ℕ) (cs : List ℕ) → takes_run c cs ≡ true → plain_taken column (encode_all cs) (c ∷ []) ≡ alike_taken (c ∷ []) cs 0
  unfolding run_taken blank_run
  over_last_run c cs t =
      let b = takes_only c cs t in
      let a = alike_last c cs t in
      let run = white_space_run cs in
      rw (a.0, a.1)
      (by_answer (holds_newline (ascii_front run))
      (λ h.
      let w : holds_newline (white_run (encode_all cs)) ≡ true = rw (walk_run cs) h in
      rw (h, lt-ltb 0 (length (ascii_front run)) (held_some (ascii_front run) h), zero-add (length (ascii_front run)))
      (fold_takes column (encode_all cs) c [] b.0 refl w
      ∙ ap (more_taken (length (white_run (encode_all cs)))) (taken_end column (drop (length (white_run (encode_all cs))) (encode_all cs)))
      ∙ ap Some (add-zero (length (white_run (encode_all cs))) ∙ ap length (walk_run cs))))
      (λ h. rw h (last_equal c cs b.0 b.1 h)))

  -- white space in the source against another character of the value
  white_apart : (d : ℕ) (ds : List ℕ) (e : ℕ) (es : List ℕ) → ScalarValue d → ScalarValue e → is_white_space d ≡ false → is_white_space e ≡ true
      → plain_taken column (encode_all (e ∷ es)) (encode_all (d ∷ ds)) ≡ None
  unfolding encode_all
  white_apart d ds e es vd ve wd we =
      taken_apart column d e (encode_all es) (encode_all ds) vd ve wd (λ f. clash (sym we ∙ ap is_white_space f ∙ wd))

  -- the value's next character is no blank or newline
  dark_blanks : (d : ℕ) (ds : List ℕ) → is_white_space d ≡ false → blank_run (encode_all (d ∷ ds)) ≡ []
  unfolding encode_all
  dark_blanks d ds wd = no_blanks (encode d) (encode_all ds) (quiet_bytes d (break_white d wd)) (encode_takes d)

  -- a run that is not all ASCII, before another character of the value: where the walk sees a newline of it, and where not
  front_apart : (c d : ℕ) (ds cs : List ℕ) → ScalarValue d → ScalarValues cs → takes_run c cs ≡ true → is_white_space d ≡ false → is_ascii (white_space_run cs) ≡ false
      → holds_newline (ascii_front (white_space_run cs)) ≡ true → plain_taken column (encode_all cs) (c ∷ encode_all (d ∷ ds)) ≡ None
  front_apart c d ds cs vd v t wd a h =
      let p = run_parts cs v a in
      let w = walk_run cs in
      let front = ascii_front (white_space_run cs) in
      let rest : drop (length (white_run (encode_all cs))) (encode_all cs) ≡ encode_all (p.first ∷ p.others) =
      ap (λ (l : List ℕ). drop (length l) (encode_all cs)) w ∙ ap (drop (length front)) p.bytes ∙ drop-append_seam front (encode_all (p.first ∷ p.others))
      in
      fold_takes column (encode_all cs) c (encode_all (d ∷ ds)) (takes_only c cs t).0 (dark_blanks d ds wd) (ap holds_newline w ∙ h)
      ∙ ap (λ (l : List ℕ). more_taken (length (white_run (encode_all cs))) (plain_taken column l (encode_all (d ∷ ds)))) rest
      ∙ rw (white_apart d ds p.first p.others vd p.scalar wd p.white)

  unseen_apart : (c d : ℕ) (ds cs : List ℕ) → ScalarValue d → ScalarValues cs → is_fold c ≡ true → holds_newline (white_space_run cs) ≡ true → is_white_space d ≡ false
      → holds_newline (ascii_front (white_space_run cs)) ≡ false → plain_taken column (encode_all cs) (c ∷ encode_all (d ∷ ds)) ≡ None
  unfolding white_space_run holds_newline ascii_front
  unseen_apart c d ds [] vd v f r wd h = absurd (clash (sym r))
  unseen_apart c d ds (x ∷ xs) vd v f r wd h =
      ascii_step column c (encode_all (d ∷ ds)) x xs (fold_ascii c f) (rw h (and_no (is_break_byte c)))
      ∙ by_answer (eqb c x)
      (λ e.
      let g : c ≡ x = eqb-true c x e in
      let l : ltb x 0x80 ≡ true = lt-ltb x 0x80 (let k = fold_ascii c f in omega arith) in
      by_answer (is_white_space x)
      (λ w.
      let h' = rw (w, l) at h in
      let r' = rw w at r in
      let n : eqb x newline ≡ false = or_left (eqb x newline) _ h' in
      let p = run_some xs (rw n at r') in
      let q : ScalarValue p.first = (subst (λ (k : List ℕ). ScalarValues k) p.are v.1).0 in
      rw (e, p.are, white_apart d ds p.first p.others vd q wd p.white))
      (λ w. absurd (clash (sym (rw w at r)))))
      (λ e. rw e)

  -- over a run before another character of the value: as it goes on after it, if the run is ASCII
  over_run : (c d : ℕ) (ds cs : List ℕ) (m n : ℕ) → ScalarValue d → ScalarValues cs → takes_run c cs ≡ true → is_white_space d ≡ false → n ≡ bytes_of (white_space_run cs) + m
      → plain_taken column (encode_all (after_run cs)) (encode_all (d ∷ ds)) ≡ alike_taken (d ∷ ds) (after_run cs) m
      → plain_taken column (encode_all cs) (c ∷ encode_all (d ∷ ds)) ≡ alike_taken (c ∷ d ∷ ds) cs n
  over_run c d ds cs m n vd v t wd s r =
      let a = alike_run c d ds cs t in
      let b = takes_only c cs t in
      let run = white_space_run cs in
      let past = past_span (d ∷ ds) (after_run cs) in
      rw (a.0, a.1)
      (by_answer (is_ascii run)
      (λ e.
      let w : white_run (encode_all cs) ≡ run = walk_run cs ∙ front_all run e in
      let parts : encode_all cs ≡ run ++ encode_all (after_run cs) =
      ap encode_all (run_split cs) ∙ encode_all_append run (after_run cs) ∙ ap (λ (l : List ℕ). l ++ encode_all (after_run cs)) (bytes_all run e)
      in
      let rest : drop (length (white_run (encode_all cs))) (encode_all cs) ≡ encode_all (after_run cs) =
      ap (λ (l : List ℕ). drop (length l) (encode_all cs)) w ∙ ap (drop (length run)) parts ∙ drop-append_seam run (encode_all (after_run cs))
      in
      let z : length (white_run (encode_all cs)) ≡ bytes_of run = ap length (w ∙ sym (bytes_all run e)) in
      let k : length (white_run (encode_all cs)) + (m + past) ≡ n + past = omega arith in
      rw e
      (fold_takes column (encode_all cs) c (encode_all (d ∷ ds)) b.0 (dark_blanks d ds wd) (ap holds_newline w ∙ b.1)
      ∙ ap (λ (l : List ℕ). more_taken (length (white_run (encode_all cs))) (plain_taken column l (encode_all (d ∷ ds)))) rest
      ∙ ap (more_taken (length (white_run (encode_all cs)))) r
      ∙ more_if (length (white_run (encode_all cs))) (m + past) (reads_alike (d ∷ ds) (after_run cs))
      ∙ ap (λ (j : ℕ). cond (reads_alike (d ∷ ds) (after_run cs)) (Some j) None) k))
      (λ e.
      rw e
      (by_answer (holds_newline (ascii_front run))
      (λ h. front_apart c d ds cs vd v t wd e h)
      (λ h. unseen_apart c d ds cs vd v b.0 b.1 wd h))))

  -- ---- all of it

  -- of the characters vs that are left of the value
  abbrev Along : List ℕ → Type 0
  Along vs = (cs : List ℕ) → ScalarValues cs → (n : ℕ) → plain_reach vs cs ≡ reaches n → plain_taken column (encode_all cs) (encode_all vs) ≡ alike_taken vs cs n

  along_run : (c : ℕ) (vs cs : List ℕ) → ScalarValues (c ∷ vs) → ScalarValues cs → (n : ℕ) → takes_run c cs ≡ true → plain_reach (c ∷ vs) cs ≡ reaches n → Along vs
      → plain_taken column (encode_all cs) (encode_all (c ∷ vs)) ≡ alike_taken (c ∷ vs) cs n
  unfolding encode_all plain_reach
  along_run c [] cs u v n t e r =
      let z = run_at_end (bytes_of (white_space_run cs)) n (rw t at e) in
      rw (ascii_bytes c (fold_ascii c (takes_only c cs t).0), z) (over_last_run c cs t)
  along_run c (d ∷ ds) cs u v n t e r =
      let after = after_run cs in
      let q = run_reached (bytes_of (white_space_run cs)) (plain_reach (d ∷ ds) after) n some_equal (rw t at e) in
      let p = is_equal d ds after q.after (after_no_run d cs) q.is in
      let wd = dark_first d p.others (sym (ap white_space_run p.are) ∙ after_none cs) in
      let va = scalars_back (white_space_run cs) after (subst (λ (l : List ℕ). ScalarValues l) (run_split cs) v) in
      rw (ascii_bytes c (fold_ascii c (takes_only c cs t).0))
      (over_run c d ds cs q.after n u.1.0 v t wd q.sum (r after va q.after q.is))
    where
      some_equal : (m : ℕ) → plain_reach (d ∷ ds) (after_run cs) ≡ reaches m → 0 < m
      some_equal m f =
          let p = is_equal d ds (after_run cs) m (after_no_run d cs) f in
          let s = p.reached.sum in
          let k = encode_takes d in
          omega arith

  along_equal : (c : ℕ) (vs cs : List ℕ) → ScalarValues cs → (n : ℕ) → takes_run c cs ≡ false → plain_reach (c ∷ vs) cs ≡ reaches n → Along vs
      → plain_taken column (encode_all cs) (encode_all (c ∷ vs)) ≡ alike_taken (c ∷ vs) cs n
  unfolding encode_all
  along_equal c vs cs v n t e r =
      let p = is_equal c vs cs n t e in
      let q = p.reached in
      let t' : takes_run c (c ∷ p.others) ≡ false = ap (takes_run c) (sym p.are) ∙ t in
      let w = (subst (λ (l : List ℕ). ScalarValues l) p.are v).1 in
      subst (λ (l : List ℕ). plain_taken column (encode_all l) (encode c ++ encode_all vs) ≡ alike_taken (c ∷ vs) l n) (sym p.are)
      (over_equal c vs p.others q.after n t' q.sum (r p.others w q.after q.is))

  along_end : Along []
  unfolding encode_all plain_reach reads_alike past_span
  along_end cs v n e = let z : n ≡ 0 = cc in rw z (taken_end column (encode_all cs))

  pub along : (vs : List ℕ) → ScalarValues vs → Along vs
  along [] u cs v n e = along_end cs v n e
  along (c ∷ vs) u cs v n e =
      by_answer (takes_run c cs)
      (λ t. along_run c vs cs u v n t e (along vs u.1))
      (λ t. along_equal c vs cs v n t e (along vs u.1))

-- ---- what is known of a reading by what it takes

pub taken_found : (o : Option (List Step)) (t : Bool) (k : ℕ) → source_taken o ≡ cond t (Some k) None → is_some o ≡ t
taken_found None true k e = absurd (none-some k e)
taken_found None false k e = refl
taken_found (Some ts) true k e = refl
taken_found (Some ts) false k e = absurd (none-some (source_lens ts) (sym e))

pub taken_ends : (ts : List Step) (t : Bool) (k : ℕ) → source_taken (Some ts) ≡ cond t (Some k) None → source_lens ts ≡ k
taken_ends ts true k e = same_Some (source_lens ts) k e
taken_ends ts false k e = absurd (none-some (source_lens ts) (sym e))

-- ---- where pieces end

joined_ends : (first : ℕ) (ps : List Piece) → pieces_end first (joined ps) ≡ pieces_end first ps
unfolding pieces_end joined
joined_ends first [] = refl
joined_ends first (p ∷ ps) = on_ends (joined ps) ∙ joined_ends p.end ps
  where
    on_ends : (qs : List Piece) → pieces_end first (join_on p qs) ≡ pieces_end p.end qs
    on_ends [] = refl
    on_ends (q ∷ qs) = by_answer (both_verbatim p q) (λ e. rw e) (λ e. rw e)

steps_end : (at : ℕ → ℕ → FittingStep) (len s v first : ℕ) (ts : List Step) → IsReading at len s v ts → pieces_end first (step_pieces first ts) ≡ first + source_lens ts
unfolding IsReading pieces_end step_pieces source_lens
steps_end at len s v first [] r = sym (add-zero first)
steps_end at len s v first (Verbatim n ∷ ts) r = steps_end at len (s + n) (v + n) (first + n) ts r.2 ∙ add_assoc first n (source_lens ts)
steps_end at len s v first (Replacement a b ∷ ts) r = steps_end at len (s + a) (v + b) (first + a) ts r.2 ∙ add_assoc first a (source_lens ts)

pub reading_end : (r : Rules) {reach : EscapeReach} → FairTable r.escapes reach → (src val : List ℕ) (first : ℕ) (ts : List Step) → reading_of r src val ≡ Some ts
    → pieces_end first (pieces_of first ts) ≡ first + source_lens ts
unfolding pieces_of
reading_end r fair src val first ts e =
    joined_ends first (step_pieces first ts) ∙ steps_end (step_at r src val) (length val) 0 0 first ts (found_is_reading r fair src val ts e)

-- a plain scalar's list is that of the walk from its start on
pub plain_list : (text : List ℕ) (start len : ℕ) (value : List ℕ) (column : ℕ) → Boundary text start
    → scalar_list text start len value plain column ≡ pieces_if start (reading_of (rules_of plain column) (drop start text) value)
unfolding scalar_list walk_start list_from
plain_list text start len value column b = rw (boundary_is b)

pub some_pieces : (first : ℕ) (o : Option (List Step)) → is_some (pieces_if first o) ≡ is_some o
unfolding pieces_if
some_pieces first None = refl
some_pieces first (Some ts) = refl

-- pieces are those of a reading
pub record Pieces (first : ℕ) (o : Option (List Step)) (ps : List Piece) : Type 0 where
  pub steps : List Step
  pub is : o ≡ Some steps
  pub are : ps ≡ pieces_of first steps

pub of_reading : (first : ℕ) (o : Option (List Step)) (ps : List Piece) → pieces_if first o ≡ Some ps → Pieces first o ps
unfolding pieces_if
of_reading first None ps e = absurd (none-some ps e)
of_reading first (Some ts) ps e = record { steps = ts; is = refl; are = sym (same_Some (pieces_of first ts) ps e) }
