-- What the walk answers and leaves, where it ends: at the value's end with room or without, or stuck before it.
use mathlib.Core.Path.{◌≡◌, sym, ap, ◌∙◌, subst}
use mathlib.Core.List.{List}
use Prim.Native.Nat.{ℕ, ◌≤◌, ◌<◌}
use native.Mathlib.Omega.{arith}
use lib.ListN.{length}
use borrow.Author.Tests.{le-leb, lt-leb}
use Rattle.std.specs.Prelude.{None, Option, Some}
use Rattle.provenance.specs.declared.step.Step.{Step}
use Rattle.provenance.specs.declared.walk.Walked.{Walked}
use Rattle.provenance.specs.declared.walk.Walked.TheVariants.{Listed, NoRoom, NoList}
use Rattle.provenance.specs.Escape.{EscapeReach}
use Rattle.provenance.specs.EscapeLaws.{FairTable}
use Rattle.provenance.specs.Grammar.{Rules, FittingStep, step_at}
use Rattle.provenance.specs.Reading.{IsReading, reading_of, Piece}
use Rattle.provenance.specs.Layout.{room, zeros, answer_of, buffer_of, pieces_if}
use Rattle.provenance.specs.Writing.{put_open, count_open, cleared_to, written_len}
use Rattle.provenance.specs.StepLaws.{Fair, grammar_fair}
use Rattle.provenance.specs.ReadingLaws.{reading_is_found, no_reading_found}
use Rattle.provenance.proofs.PieceLaws.{laid, laid_is}
use Rattle.provenance.proofs.Turn.{Kept, Going, on_none, at_end, end_count, end_kept, clear_all}

module _ (r : Rules) {reach : EscapeReach} (fair : FairTable r.escapes reach) (src val : List ℕ) (base m : ℕ) where
  abbrev at : ℕ → ℕ → FittingStep
  at = step_at r src val

  abbrev result : Option (List Piece)
  result = pieces_if base (reading_of r src val)

  -- what a call hands back and leaves
  abbrev pub Ends : Walked → List ℕ → Type 0
  Ends w buf = (w ≡ answer_of (room m) result) × (buf ≡ buffer_of m result)

  abbrev walk_fair : Fair reach at (length src) (length val)
  walk_fair = grammar_fair r fair src val

  module _ (buf : List ℕ) (s v from n : ℕ) (h : Going reach at (length src) (length val) base m buf s v from n) where
    pub ends_stuck : v < length val → at s v ≡ None → (k : ℕ) (buf' : List ℕ) → k ≡ written_len n m → buf' ≡ cleared_to k buf → Ends NoList buf'
    unfolding pieces_if answer_of buffer_of
    ends_stuck more e k buf' ek eb =
        let none_found : reading_of r src val ≡ None = no_reading_found r fair src val (on_none reach at (length src) (length val) base m walk_fair buf s v from n h more e) in
        let z : cleared_to k buf ≡ zeros m = clear_all m h.written buf k h.held (ek ∙ ap (λ (j : ℕ). written_len j m) (sym h.count)) in
        (rw none_found, rw none_found (eb ∙ z))

    module _ (end : length val ≤ v) where
      abbrev ts : List Step
      ts = (at_end reach at (length src) (length val) base m walk_fair buf s v from n h end).0

      reads : IsReading at (length val) 0 0 ts
      reads = (at_end reach at (length src) (length val) base m walk_fair buf s v from n h end).1

      list_is : result ≡ Some (laid base base ts)
      unfolding pieces_if
      list_is = ap (pieces_if base) (reading_is_found r fair src val ts reads) ∙ ap Some (sym (laid_is at (length src) (length val) walk_fair base ts reads))

      count_is : length (laid base base ts) ≡ count_open n from s
      count_is = end_count reach at (length src) (length val) base m walk_fair buf s v from n h end

      kept_is : Kept m (laid base base ts) (put_open buf n base from s)
      kept_is = end_kept reach at (length src) (length val) base m walk_fair buf s v from n h end

      -- n' pieces were counted, and buf' left: it stays where there is room for them all, and is cleared where there is none
      pub record Ended (n' : ℕ) (buf' : List ℕ) : Type 0 where
        pub listed : n' ≤ room m → Ends (Listed n') buf'
        pub full : room m < n' → (cleared : List ℕ) → cleared ≡ cleared_to (written_len n' (length buf')) buf' → Ends NoRoom cleared

      -- as the last call tells them, with the base that it was given and the buffer's length kept
      module _ (base' : ℕ) (same_base : base' ≡ base) (n' : ℕ) (buf' : List ℕ) (en : n' ≡ count_open n from s)
          (eb : buf' ≡ put_open buf n base' from s) (same_length : length buf' ≡ length buf) where
        count_told : n' ≡ length (laid base base ts)
        count_told = en ∙ sym count_is

        kept_told : Kept m (laid base base ts) buf'
        kept_told = subst (λ (l : List ℕ). Kept m (laid base base ts) l) (sym (rw same_base at eb)) kept_is

        pub ended : Ended n' buf'
        unfolding answer_of buffer_of
        ended =
            let c = count_told in
            let size = h.held.size in
            let k : written_len n' (length buf') ≡ written_len (length (laid base base ts)) m =
            ap (λ (j : ℕ). written_len j (length buf')) c ∙ ap (λ (j : ℕ). written_len (length (laid base base ts)) j) (same_length ∙ size) in
            record {
              listed = λ le.
                  let le' : length (laid base base ts) ≤ room m = omega arith in
                  (rw (list_is, le-leb _ _ le') (ap Listed c), rw (list_is, le-leb _ _ le') (kept_told.kept (omega arith)));
              full = λ lt cleared e.
                  let lt' : room m < length (laid base base ts) = omega arith in
                  (rw (list_is, lt-leb _ _ lt'), rw (list_is, lt-leb _ _ lt') (e ∙ clear_all m (laid base base ts) buf' _ kept_told k));
            }
