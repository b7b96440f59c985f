-- Demand 3 holds of the walk: `demand3` over any rules with a fair table of escapes, `demand3_of_scalars` of every scalar.
use Rattle.std.specs.Prelude.{◌≡◌, refl, ◌⊎◌, Some, ℕ, ◌+◌, ◌-◌, ◌*◌, ◌≤◌, ◌<◌, length, take, drop, None, Option}
use Rattle.std.proofs.Common.{sym, ap, ◌∙◌, inl, inr, arith, le-leb}
use Rattle.std.proofs.Math.Path.{subst}
use Rattle.std.proofs.Math.Bool.{true}
use mathlib.Core.List.{List, [], ◌∷◌}
use Prim.{tt}
use Rattle.std.proofs.Math.ListN.{length-drop}
use Rattle.std.proofs.lemmas.Bool.{lt-leb}
use Rattle.utf8.specs.Boundary.{Boundary, is_boundary}
use Rattle.utf8.proofs.Utf8Laws.{is_boundary_lem, boundary_is}
use Rattle.provenance.specs.declared.step.Step.{Step}
use Rattle.provenance.specs.declared.step.Step.TheVariants.{Verbatim, Replacement}
use Rattle.provenance.specs.declared.walk.Walked.{Walked}
use Rattle.provenance.specs.declared.walk.Walked.TheVariants.{Listed, NoRoom, NoList}
use Rattle.provenance.specs.Escape.{EscapeReach, escapes_reach}
use Rattle.provenance.specs.Grammar.{Rules, FittingStep, step_at, rules_of}
use Rattle.provenance.specs.Reading.{IsReading, Reading, source_len, content_len, reading_of, Piece, pieces_of}
use Rattle.provenance.specs.Layout.{zeros, laid_by, laid_pieces, walked_number, answer_of, left_of, pieces_if}
use Rattle.provenance.specs.Start.{walk_start, list_from, scalar_list}
use Rattle.provenance.specs.Demand.{Accepts, StartsAt, Follow, EndBy, AllCopied, contents, EscapeLast, ReadingPieces, Demand3}
use Rattle.utf8.specs.Tests.{by_order}
use Rattle.provenance.specs.Tests.{by_answer}
use Rattle.provenance.specs.EscapeLaws.{style_fair, FairTable}
use Rattle.provenance.specs.StepLaws.{Fair, grammar_fair, step_same, step_past}
use Rattle.provenance.specs.ReadingLaws.{reading_unique, found_is_reading, reading_is_found}
use Rattle.provenance.proofs.PieceLaws.{laid, laid_is, first_starts, others_follow, all_ended, contents_are, value_end, value_end_bounds, all_copied}

-- ---- answers and what is left of a list

none_accepted : (most : ℕ) → Accepts (answer_of most None) → ⊥
unfolding answer_of
none_accepted most a = a

some_accepted : (most : ℕ) (ps : List Piece) → Accepts (answer_of most (Some ps))
unfolding answer_of
some_accepted most ps = by_order most (length ps) (λ lt. rw (lt-leb _ _ lt) tt) (λ le. rw (le-leb _ _ le) tt)

no_room_listed : (n : ℕ) → NoRoom ≡ Listed n → ⊥
no_room_listed n h = let z : ◌≡◌ {A = ℕ} 0 1 = cc in omega arith

no_list_listed : (n : ℕ) → NoList ≡ Listed n → ⊥
no_list_listed n h = let z : ◌≡◌ {A = ℕ} 0 1 = cc in omega arith

none_no_room : (most : ℕ) → walked_number (answer_of most None) ≡ 8 → ⊥
unfolding answer_of
none_no_room most h = omega arith

some_no_room : (most : ℕ) (ps : List Piece) → walked_number (answer_of most (Some ps)) ≡ 8 → most < length ps
unfolding answer_of
some_no_room most ps h =
    by_order most (length ps) (λ lt. lt) (λ le. absurd (let z : ◌≡◌ {A = ℕ} 0 8 = rw (le-leb _ _ le) at h in omega arith))

no_room_is : (most : ℕ) (ps : List Piece) → most < length ps → walked_number (answer_of most (Some ps)) ≡ 8
unfolding answer_of
no_room_is most ps lt = rw (lt-leb _ _ lt)

listed_is : (most : ℕ) (ps : List Piece) (n : ℕ) → answer_of most (Some ps) ≡ Listed n → (n ≡ length ps) × (length ps ≤ most) × (left_of most (Some ps) ≡ ps)
unfolding answer_of left_of
listed_is most ps n h =
    by_order most (length ps)
    (λ lt. absurd (no_room_listed n (rw (lt-leb _ _ lt) at h)))
    (λ le. let e : Listed (length ps) ≡ Listed n = rw (le-leb _ _ le) at h in let e' : length ps ≡ n = cc in (sym e', le, rw (le-leb _ _ le)))

none_listed : (most n : ℕ) → answer_of most None ≡ Listed n → ⊥
unfolding answer_of
none_listed most n h = no_list_listed n h

nothing_listed : (most : ℕ) (o : Option (List Piece)) → ((n : ℕ) → answer_of most o ≡ Listed n → ⊥) → left_of most o ≡ []
unfolding answer_of left_of
nothing_listed most None h = refl
nothing_listed most (Some ps) h =
    by_order most (length ps)
    (λ lt. rw (lt-leb _ _ lt))
    (λ le. absurd (h (length ps) (rw (le-leb _ _ le))))

-- ---- a walk's list is its reading's pieces

module _ (r : Rules) {reach : EscapeReach} (fair : FairTable r.escapes reach) (text : List ℕ) (first : ℕ) (value : List ℕ) where
  abbrev src : List ℕ
  src = drop first text

  pub listed_only : {X : Type 0} → (list_from r text first value ≡ None → X) → (Boundary text first → (ts : List Step) → Reading r src value ts → list_from r text first value ≡ Some (pieces_of first ts) → X) → X
  unfolding list_from pieces_if
  listed_only {X} f g =
      by_answer (is_boundary text first)
      (λ b. go b (reading_of r src value) refl)
      (λ b. f (rw b))
    where
      go : is_boundary text first ≡ true → (o : Option (List Step)) → reading_of r src value ≡ o → X
      go b None e = f (rw (b, e))
      go b (Some ts) e = g (is_boundary_lem b) ts (found_is_reading r fair src value ts e) (rw (b, e))

  pub listed_if : Boundary text first → (ts : List Step) → Reading r src value ts → list_from r text first value ≡ Some (pieces_of first ts)
  unfolding list_from pieces_if
  listed_if b ts h = rw (boundary_is b, reading_is_found r fair src value ts h)

  abbrev at : ℕ → ℕ → FittingStep
  at = step_at r src value

  walk_fair : Fair reach at (length src) (length value)
  walk_fair = grammar_fair r fair src value

  -- past the value's end only by an escape at last
  escape_last : (s v : ℕ) (ts : List Step) → IsReading at (length value) s v ts → v ≤ length value → length value < value_end v ts → EscapeLast r src value s v ts
  unfolding IsReading value_end EscapeLast
  escape_last s v [] h m k = absurd (omega arith)
  escape_last s v (Verbatim n ∷ []) h m k = let b = walk_fair.same s v n h.0 h.1 in absurd (omega arith)
  escape_last s v (Replacement a b ∷ []) h m k =
      let d = length-drop v value in
      let more = h.0 in
      step_past r fair (drop s src) (drop v value) a b (omega arith) h.1 (omega arith)
  escape_last s v (t ∷ u ∷ us) h m k = escape_last (s + source_len t) (v + content_len t) (u ∷ us) h.2 (let more = h.2.0 in omega arith) k

  equal_bytes : (s v n : ℕ) → v < length value → at s v ≡ Some (Verbatim n) → take n (drop s src) ≡ take n (drop v value)
  equal_bytes s v n more e = (step_same r fair (drop s src) (drop v value) n e).3

  module _ (ts : List Step) (h : Reading r src value ts) where
    -- the pieces as they are laid
    is_laid : laid first first ts ≡ pieces_of first ts
    is_laid = laid_is at (length src) (length value) walk_fair first ts h

    content-of :
        (contents (pieces_of first ts) ≡ length value)
        ⊎ (EscapeLast r src value 0 0 ts × (length value < contents (pieces_of first ts)) × (contents (pieces_of first ts) < length value + reach.content))
    content-of =
        let e : contents (pieces_of first ts) ≡ value_end 0 ts = ap contents (sym is_laid) ∙ contents_are at (length src) (length value) walk_fair first ts h in
        let b = value_end_bounds at (length src) (length value) walk_fair 0 0 ts (omega arith) h in
        by_order (length value) (value_end 0 ts) (λ lt. inr (escape_last 0 0 ts h (omega arith) lt, omega arith, omega arith)) (λ le. inl (omega arith))

    ends_by : Boundary text first → EndBy (length text + reach.past) (pieces_of first ts)
    ends_by b =
        let d : length src ≡ length text - first = length-drop first text in
        let w = b.within in
        let e : first + (length src + reach.past) ≡ length text + reach.past = omega arith in
        subst (λ (n : ℕ). EndBy n (pieces_of first ts)) e
        (subst (λ (l : List Piece). EndBy (first + (length src + reach.past)) l) is_laid (all_ended at (length src) (length value) walk_fair first ts h))

    -- all that holds of a reading's pieces
    pub reading_pieces : Boundary text first → ReadingPieces r reach text first value (pieces_of first ts)
    reading_pieces b =
        record {
          steps = ts;
          reading = h;
          pieces = refl;
          first_start = subst (λ (l : List Piece). StartsAt first l) is_laid (first_starts at (length src) (length value) walk_fair first ts h);
          tiling = subst (λ (l : List Piece). Follow l) is_laid (others_follow at (length src) (length value) walk_fair first ts h);
          ends = ends_by b;
          copied = subst (λ (l : List Piece). AllCopied text value 0 l) is_laid
              (all_copied at (length src) (length value) walk_fair text value first refl refl equal_bytes ts h);
          content = content-of;
        }

  -- ---- of the walk

  abbrev found : Option (List Piece)
  found = list_from r text first value

  left_listed : (most n : ℕ) → answer_of most found ≡ Listed n
      → (n ≡ length (left_of most found)) × (length (left_of most found) ≤ most) × Boundary text first × ReadingPieces r reach text first value (left_of most found)
  left_listed most n a =
      listed_only
      (λ e. absurd (none_listed most n (ap (answer_of most) (sym e) ∙ a)))
      (λ b ts h e.
      let w = listed_is most (pieces_of first ts) n (ap (answer_of most) (sym e) ∙ a) in
      let is : left_of most found ≡ pieces_of first ts = ap (left_of most) e ∙ w.2 in
      (w.0 ∙ ap length (sym is), rw is w.1, b, subst (λ (l : List Piece). ReadingPieces r reach text first value l) (sym is) (reading_pieces ts h b)))

  pub demand3 : (most : ℕ) → Demand3 r reach text first value most (answer_of most found) (left_of most found)
  demand3 most =
      record {
        unique = λ ts us p q. reading_unique at (length value) 0 0 ts us p q;
        accepts_only = λ a.
            listed_only
            (λ e. absurd (none_accepted most (subst (λ (o : Option (List Piece)). Accepts (answer_of most o)) e a)))
            (λ b ts h e. (b, (ts, h)));
        accepts_if = λ b ts h. subst (λ (o : Option (List Piece)). Accepts (answer_of most o)) (sym (listed_if b ts h)) (some_accepted most (pieces_of first ts));
        no_room_only = λ a.
            listed_only
            (λ e. absurd (none_no_room most (ap (λ (o : Option (List Piece)). walked_number (answer_of most o)) (sym e) ∙ a)))
            (λ b ts h e. (b, (ts, h, some_no_room most (pieces_of first ts) (ap (λ (o : Option (List Piece)). walked_number (answer_of most o)) (sym e) ∙ a))));
        no_room_if = λ b ts h lt. ap (λ (o : Option (List Piece)). walked_number (answer_of most o)) (listed_if b ts h) ∙ no_room_is most (pieces_of first ts) lt;
        listed = left_listed most;
        nothing_left = nothing_listed most found;
      }

-- of every scalar: its walk starts where 01 says, by its start in the text and the length of its span
pub demand3_of_scalars : (text : List ℕ) (start len : ℕ) (value : List ℕ) (style column most : ℕ)
    → Demand3 (rules_of style column) escapes_reach text (walk_start text start len value style) value most
    (answer_of most (scalar_list text start len value style column)) (left_of most (scalar_list text start len value style column))
unfolding scalar_list
demand3_of_scalars text start len value style column most = demand3 (rules_of style column) (style_fair style) text (walk_start text start len value style) value most

pub no_pieces : (size : ℕ) → zeros size ≡ laid_pieces size []
unfolding laid_by
no_pieces size = let e : size - 4 * 0 ≡ size = omega arith in rw e refl

-- ---- what a reader of the pieces that are left may conclude, whatever the answer is

module _ (r : Rules) (reach : EscapeReach) (text : List ℕ) (first : ℕ) (value : List ℕ) (most : ℕ) (left : List Piece) where
  -- the file bytes of a verbatim piece are its content
  pub verbatim_is_content : (answer : Walked) → Demand3 r reach text first value most answer left → AllCopied text value 0 left
  unfolding AllCopied
  verbatim_is_content (Listed n) d = (d.listed n refl).3.copied
  verbatim_is_content NoRoom d = subst (λ (l : List Piece). AllCopied text value 0 l) (sym (d.nothing_left no_room_listed)) tt
  verbatim_is_content NoList d = subst (λ (l : List Piece). AllCopied text value 0 l) (sym (d.nothing_left no_list_listed)) tt

  -- no piece ends further past the text than an escape reaches
  pub ends_near_text : (answer : Walked) → Demand3 r reach text first value most answer left → EndBy (length text + reach.past) left
  unfolding EndBy
  ends_near_text (Listed n) d = (d.listed n refl).3.ends
  ends_near_text NoRoom d = subst (λ (l : List Piece). EndBy (length text + reach.past) l) (sym (d.nothing_left no_room_listed)) tt
  ends_near_text NoList d = subst (λ (l : List Piece). EndBy (length text + reach.past) l) (sym (d.nothing_left no_list_listed)) tt
