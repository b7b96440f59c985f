-- The laws of the definitions in `Alike`.
use Rattle.std.specs.Prelude.{◌≡◌, refl, Bool, true, false, not, ◌&&◌, ◌||◌, List, [], ◌∷◌, ℕ, ltb, eqb, length, drop}
use Rattle.std.proofs.Common.{lt-ltb}
use Rattle.std.proofs.lemmas.Bool.{not-true}
use Rattle.utf8.specs.Ascii.{tab}
use Rattle.utf8.specs.Utf8.{is_ascii}
use Rattle.utf8.specs.WhiteSpace.{is_white_space}
use Rattle.utf8.specs.Tests.{and_left, and_right}
use Rattle.measure.specs.Run.{white_space_run, after_run, holds_newline}
use Rattle.measure.specs.Plain.{is_fold, takes_run}
use Rattle.provenance.specs.Tests.{by_answer}
use Rattle.provenance.specs.Alike.{run_taken, run_alike, equal_alike, reads_alike, past_span, no_tabs, narrow_spaces}
use Rattle.provenance.specs.PlainRuns.{held_some, front_all}

pub takes_only : (c : ℕ) (cs : List ℕ) → takes_run c cs ≡ true → (is_fold c ≡ true) × (holds_newline (white_space_run cs) ≡ true)
unfolding takes_run
takes_only c cs t = (and_left (is_fold c) _ t, and_right (is_fold c) _ t)

-- ---- a character further

pub alike_equal : (c : ℕ) (vs cs : List ℕ) → takes_run c (c ∷ cs) ≡ false → (reads_alike (c ∷ vs) (c ∷ cs) ≡ equal_alike c (c ∷ cs) && reads_alike vs cs) × (past_span (c ∷ vs) (c ∷ cs) ≡ past_span vs cs)
unfolding reads_alike past_span
alike_equal c [] cs t = (rw t, rw t)
alike_equal c (d ∷ vs) cs t = (rw t, rw t)

pub alike_run : (c d : ℕ) (vs cs : List ℕ) → takes_run c cs ≡ true
    → (reads_alike (c ∷ d ∷ vs) cs ≡ is_ascii (white_space_run cs) && reads_alike (d ∷ vs) (after_run cs)) × (past_span (c ∷ d ∷ vs) cs ≡ past_span (d ∷ vs) (after_run cs))
unfolding reads_alike past_span run_alike
alike_run c d vs cs t = (rw t, rw t)

pub alike_last : (c : ℕ) (cs : List ℕ) → takes_run c cs ≡ true
    → (reads_alike (c ∷ []) cs ≡ ltb 0 (run_taken c (white_space_run cs))) × (past_span (c ∷ []) cs ≡ run_taken c (white_space_run cs))
unfolding reads_alike past_span run_alike
alike_last c cs t = (rw t (and_yes (ltb 0 (run_taken c (white_space_run cs)))), rw t)
  where
    and_yes : (a : Bool) → a && true ≡ a
    and_yes true = refl
    and_yes false = refl

-- ---- where nothing parts them

-- the run that they begin with is ASCII, and what comes after it has no other white space
narrow_run : (cs : List ℕ) → narrow_spaces cs ≡ true → (is_ascii (white_space_run cs) ≡ true) × (narrow_spaces (after_run cs) ≡ true)
unfolding narrow_spaces white_space_run after_run is_ascii
narrow_run [] h = (refl, refl)
narrow_run (c ∷ cs) h =
    by_answer (is_white_space c)
    (λ e.
    let h' = rw e at h in
    let r = narrow_run cs (and_right (ltb c 0x80) (narrow_spaces cs) h') in
    (rw (e, and_left (ltb c 0x80) (narrow_spaces cs) h') r.0, rw e r.1))
    (λ e. (rw e, rw e h))

narrow_next : (cs : List ℕ) → narrow_spaces cs ≡ true → narrow_spaces (drop 1 cs) ≡ true
unfolding narrow_spaces
narrow_next [] h = h
narrow_next (c ∷ cs) h = and_right (not (is_white_space c) || ltb c 0x80) (narrow_spaces cs) h

narrow_over : (c : ℕ) (vs run : List ℕ) → holds_newline run ≡ true → is_ascii run ≡ true → run_alike c vs run ≡ true
unfolding run_alike run_taken
narrow_over c [] run h e = rw (front_all run e, h) (lt-ltb 0 (length run) (held_some run h))
narrow_over c (d ∷ vs) run h e = e

pub narrow_alike : (vs cs : List ℕ) → no_tabs vs ≡ true → narrow_spaces cs ≡ true → reads_alike vs cs ≡ true
unfolding reads_alike no_tabs equal_alike
narrow_alike [] cs t h = refl
narrow_alike (c ∷ vs) cs t h =
    let n = not-true (eqb c tab) (and_left (not (eqb c tab)) (no_tabs vs) t) in
    let u = and_right (not (eqb c tab)) (no_tabs vs) t in
    let r = narrow_run cs h in
    by_answer (takes_run c cs)
    (λ e. rw (e, narrow_over c vs (white_space_run cs) (takes_only c cs e).1 r.0) (narrow_alike vs (after_run cs) u r.1))
    (λ e. rw (e, n) (narrow_alike vs (drop 1 cs) u (narrow_next cs h)))
