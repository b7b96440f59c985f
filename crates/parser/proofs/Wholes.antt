-- From what the inner calls leave to what the public calls promise.
use mathlib.Core.Path.{◌≡◌, refl, sym, ap, ◌∙◌}
use mathlib.Core.Bool.{Bool, false}
use mathlib.Core.List.{List, [], ◌∷◌, ◌++◌}
use Prim.Native.Nat.{ℕ, ◌+◌, ◌/◌, ◌≤◌, ◌<◌, min}
use native.Mathlib.Omega.{arith}
use Rattle.std.specs.Prelude.{Some, None, Result, Ok, Err, is_err, Option}
use borrow.Author.Tests.{lt-ltb, le-ltb}
use Rattle.std.proofs.lemmas.Bool.Decides.{nat_tests}
use lib.ListN.{length, take, drop, length-replicate}
use Rattle.utf8.specs.Tests.{clash}
use Rattle.text.specs.Admission.{admission, admission_of_both, error_number}
use Rattle.text.specs.Offset.{byte_offset}
use Rattle.text.specs.declared.admission.TextError.{TextError}
use Rattle.schema.specs.Tag.{resolve_scalar}
use Rattle.schema.specs.declared.plain.Resolved.{Resolved}
use Rattle.style.specs.Style.{folded, style_number, style_numbered}
use Rattle.style.specs.declared.Style.{Style}
use Rattle.event.specs.Read.{events_limit}
use Rattle.provenance.specs.Reading.{Piece}
use Rattle.provenance.specs.Layout.{room, zeros, answer_of, buffer_of, piece_width}
use Rattle.provenance.specs.declared.walk.Walked.{Walked}
use Rattle.provenance.specs.declared.walk.Walked.TheVariants.{Listed, NoRoom, NoList}
use Rattle.records.specs.Record.{no_tag}
use Rattle.records.specs.Layout.{pieces_limit, record_room, piece_room}
use Rattle.records.specs.LayoutLaws.{take-replicate}
use Rattle.records.specs.declared.record.Node.{Node}
use Rattle.spans.specs.Scalar.{Mark, scalar_from, scalar_start, list_at, tag_info, resolved_by, event_node}
use Rattle.spans.specs.Fits.{scalar_entry}
use Rattle.spans.specs.declared.scalar.ScalarEntry.{ScalarEntry}
use Rattle.parser.specs.Machine.{State, empty, Outcome, built, refused, completed, keeping, scalar_kept, follow, run_all}
use Rattle.parser.specs.Call.{row_number, with_parents, building, one_scalar, scalar_call, Delivered, DeliveredScalar}
use Rattle.parser.specs.Held.{Filled, Refuses, Counted, alone_answer}
use Rattle.parser.specs.declared.answer.Refusal.{Refusal}
use Rattle.parser.specs.declared.answer.Refusal.TheVariants.{Malformed}
use Rattle.parser.specs.declared.answer.Built.{Built}
use Rattle.parser.specs.declared.answer.Refused.{Refused}
use Rattle.parser.specs.declared.answer.Scalar.{Scalar}
use Rattle.parser.proofs.Pieces.{Walks, walks_of, filled_none, filled_fits, filled_longer}

-- the first numbers of a buffer of zeros
pub zeros_front : (n size : ℕ) (p : List ℕ) → p ≡ zeros size → n ≤ length p → take n p ≡ zeros n
zeros_front n size p e l = ap (take n) e ∙ take-replicate n size 0 (omega (arith, ap length e, length-replicate {A = ℕ} size 0))

-- the pieces that fit are those that fit in the part that is used
pub room_used : (size n : ℕ) → n ≡ min size pieces_limit → n / piece_width ≡ piece_room size
room_used size n e = omega arith

-- ---- a whole document

two_not_three : (a b c d e : ℕ) → ◌≡◌ {A = List ℕ} (a ∷ b ∷ []) (c ∷ d ∷ e ∷ []) → ⊥
two_not_three a b c d e h = let l : ◌≡◌ {A = ℕ} 2 3 = ap length h in omega arith

-- the inner part had the first n numbers of the pieces p
module _ (size pieces_size n : ℕ) (is-n : n ≡ min pieces_size pieces_limit) (b q p : List ℕ) (len : length q ≡ n) (zp : p ≡ zeros pieces_size) where
  pub settled_built : (o : Outcome) (r : Result Built Refused) → is_err r ≡ false → Filled size n o r b q → Delivered size pieces_size o r b (q ++ drop n p)
  settled_built (built xs ps) r e h =
      record { answer = h.0; all_records = h.1; all_pieces = filled_longer n pieces_size ps q p h.2 len (omega arith) zp }
  settled_built (refused m k) (Ok x) e h = absurd (two_not_three m k 0 x.nodes x.pieces (sym h))
  settled_built (refused m k) (Err x) e h = absurd (clash e)

module _ (text events : List ℕ) where
  -- rows 1 and 2
  pub events_too_long : events_limit < length events → (e : Refusal) → row_number e ≡ 1 → Refuses text events e
  unfolding building
  events_too_long l e is = λ size pieces_size. rw (lt-ltb events_limit (length events) l, is) refl

  pub text_refused : length events ≤ events_limit → (x : TextError) (e : Refusal) → admission text ≡ Err x → row_number e ≡ error_number x → Refuses text events e
  unfolding building
  text_refused l x e told is = λ size pieces_size. rw (le-ltb events_limit (length events) l, told, is) refl

  module _ (size pieces_size : ℕ) (b p : List ℕ) where
    pub let_in : length events ≤ events_limit → (ascii : Bool) (r : Result Built Refused) → admission text ≡ Ok ascii
        → Delivered size pieces_size (with_parents (run_all text events (record_room size) (piece_room pieces_size))) r b p → Delivered size pieces_size (building text events size pieces_size) r b p
    unfolding building
    let_in l ascii r e h = rw (le-ltb events_limit (length events) l, e) h

-- ---- one scalar

-- the style of a number has that number, and a number without one is above 4
pub style_is : (n : ℕ) (s : Style) → Some s ≡ style_numbered n → style_number s ≡ n
style_is n s e = grind (arith, nat_tests)

pub no_style : (n : ℕ) → None ≡ style_numbered n → folded < n
no_style n e = grind (arith, nat_tests)

abbrev outcome : State → Outcome
outcome st = built st.nodes st.pieces

-- by what its walk answered, in a buffer q of `size` numbers
module _ (size : ℕ) (small : size ≤ pieces_limit) (q : List ℕ) (len : length q ≡ size) where
  listed_few : (o : Option (List Piece)) (n : ℕ) → Walks size o (Listed n) q → Counted 0 (Listed n)
  listed_few None n w = absurd w
  listed_few (Some ps) n w = let a = w.0 in omega (arith, filled_fits size ps q w.1 len)

  pub alone_counted : (o : Option (List Piece)) (w : Walked) → w ≡ answer_of (room size) o → q ≡ buffer_of size o → Counted 0 w
  alone_counted o NoRoom e f = tt
  alone_counted o NoList e f = tt
  alone_counted o (Listed n) e f = listed_few o n (walks_of size o (Listed n) q e f)

  alone_kept : (y : Node) (o : Option (List Piece)) (w : Walked) → Walks size o w q
      → DeliveredScalar size (follow (keeping (piece_room size) y o empty) outcome 0) (alone_answer (record { node = y; walked = w })) q
  unfolding keeping completed
  alone_kept y None NoRoom w = absurd w
  alone_kept y (Some ps) NoRoom w =
      let a = w.0 in
      rw (lt-ltb (piece_room size) (0 + length ps) (omega arith)) (record { answer = refl; one_record = refl; all_pieces = w.1 })
  alone_kept y None NoList w = record { answer = refl; one_record = refl; all_pieces = w ∙ sym (filled_none size) }
  alone_kept y (Some ps) NoList w = absurd w
  alone_kept y None (Listed n) w = absurd w
  alone_kept y (Some ps) (Listed n) w =
      let a = w.0 in
      let f = filled_fits size ps q w.1 len in
      rw (le-ltb (piece_room size) (0 + length ps) (omega arith), a) (record { answer = refl; one_record = refl; all_pieces = w.1 })

  -- the scalar's outcome goes by its record and its walk
  pub one_told : (text : List ℕ) (m : Mark) (value : List ℕ) (i : ℕ) (r : Resolved) (x : ScalarEntry)
      → m.style ≤ folded → i ≡ byte_offset text m.index → r ≡ resolve_scalar value m.style None
      → x ≡ scalar_entry (room size) text (scalar_from i m value 0) no_tag r → q ≡ buffer_of size (list_at text (scalar_from i m value 0))
      → DeliveredScalar size (one_scalar text m value size) (alone_answer x) q
  unfolding one_scalar scalar_kept event_node scalar_start tag_info resolved_by
  one_told text m value i r x l ei er ex eq =
      rw (le-ltb folded m.style l, ← ei, ← er, ex)
      (alone_kept _ _ _ (walks_of size (list_at text (scalar_from i m value 0)) _ q refl eq))

module _ (text : List ℕ) (m : Mark) (value : List ℕ) (size : ℕ) where
  pub style_unknown : (ascii : Bool) → admission_of_both text value ≡ Ok ascii → folded < m.style → (q : List ℕ) → q ≡ zeros size
      → DeliveredScalar size (scalar_call text m value size) (Err Malformed) q
  unfolding scalar_call one_scalar
  style_unknown ascii e l q z = rw (e, lt-ltb folded m.style l) (record { answer = refl; one_record = refl; all_pieces = z })

  pub scalar_refused : (x : TextError) (e : Refusal) (q : List ℕ) → admission_of_both text value ≡ Err x → row_number e ≡ error_number x → q ≡ zeros size
      → DeliveredScalar size (scalar_call text m value size) (Err e) q
  unfolding scalar_call
  scalar_refused x e q told is z = rw (told, ← is) (record { answer = refl; one_record = refl; all_pieces = z })

  -- the buffer's front was lent
  longer : (n : ℕ) (o : Outcome) (r : Result Scalar Refusal) (q p : List ℕ) → length q ≡ n → n ≤ size → p ≡ zeros size → DeliveredScalar n o r q → DeliveredScalar size o r (q ++ drop n p)
  longer n (built xs ps) r q p l h z w = record { answer = w.answer; one_record = w.one_record; all_pieces = filled_longer n size ps q p w.all_pieces l h z }
  longer n (refused j k) r q p l h z w =
      record { answer = w.answer; one_record = w.one_record; all_pieces = filled_longer n size [] q p (w.all_pieces ∙ sym (filled_none n)) l h z ∙ filled_none size }

  pub scalar_read : (ascii : Bool) → admission_of_both text value ≡ Ok ascii → (n : ℕ) → n ≡ min size pieces_limit → (r : Result Scalar Refusal) (q p : List ℕ) → length q ≡ n → p ≡ zeros size
      → DeliveredScalar n (one_scalar text m value n) r q
      → DeliveredScalar size (scalar_call text m value size) r (q ++ drop n p)
  unfolding scalar_call one_scalar
  scalar_read ascii e n is-n r q p l z w =
      let same : piece_room n ≡ piece_room size = omega arith in
      rw (e, ← same) (longer n (one_scalar text m value n) r q p l (omega arith) z w)
