-- `replay::case::case_of` meets its contract: each part stands where the definitions say.
use Rattle.std.proofs.Common.{◌≡◌, ℕ, ◌+◌, ◌*◌, Bool, true, false, not, List, drop, refl}
use native.Mathlib.Omega.{arith}
use Rattle.replay.specs.Case.{number, rooms_at, pieces_count_at, returned_if}
use Rattle.std.specs.Bool.{then_some}
use Rattle.replay.specs.declared.case.Returned.{Returned}
use Rattle.replay.proofs.Framing.{Left, number_there, part_there, behind_number, behind_part, same_place}
use Rattle.replay.proofs.case.case_of.Goals as goal

-- behind the text, and behind the events too
text_read : {s t : List ℕ} → t ≡ drop (4 + 1 * number s 0) s → Left s (4 + number s 0) t
text_read {s} {t} e = record { is = rw e (grind arith) }

events_read : {s t r : List ℕ} → Left s (4 + number s 0) t → r ≡ drop (4 + 1 * number t 0) t → Left s (rooms_at s) r
events_read {s} l e = same_place (behind_part 1 l e) (grind arith)

-- behind the rooms, and behind what is returned
rooms_read : {s t r u v : List ℕ} → Left s (4 + number s 0) t → r ≡ drop (4 + 1 * number t 0) t → u ≡ drop 4 r → v ≡ drop 4 u → Left s (rooms_at s + 8) v
rooms_read {s} l e f g = same_place (behind_number (behind_number (events_read l e) f) g) (grind arith)

returned_read : {s r t u v : List ℕ} → Left s (rooms_at s + 8) r → t ≡ drop 4 r → u ≡ drop 4 t → v ≡ drop 4 u → Left s (rooms_at s + 20) v
returned_read {s} l e f g = same_place (behind_number (behind_number (behind_number l e) f) g) (grind arith)

-- behind the records
pieces_read : {s r t : List ℕ} → Left s (rooms_at s + 20) r → t ≡ drop (4 + 4 * number r 0) r → Left s (pieces_count_at s) t
pieces_read {s} l e = same_place (behind_part 4 l e) (grind arith)

-- none for the code that stands for a panic
none_if : (panicked : Bool) (r : Returned) → then_some (not panicked) r ≡ returned_if panicked r
none_if true r = refl
none_if false r = refl

pub returns-clause-events : goal.returns-clause-events
returns-clause-events c =
    let l = text_read c.part-text.ensures.rest in
    rw (c.part-events.ensures.value, part_there _ l, number_there l) (grind arith)

pub returns-clause-rooms : goal.returns-clause-rooms
returns-clause-rooms c =
    let l = events_read (text_read c.part-text.ensures.rest) c.part-events.ensures.rest in
    rw (c.number.ensures.value, c.number-2.ensures.value, number_there l, number_there (behind_number l c.number.ensures.rest)) refl

pub returns-clause-returned : goal.returns-clause-returned
returns-clause-returned c =
    let l = rooms_read (text_read c.part-text.ensures.rest) c.part-events.ensures.rest c.number.ensures.rest c.number-2.ensures.rest in
    let first = same_place {m = rooms_at c.args.s.now + 12} (behind_number l c.number-3.ensures.rest) (grind arith) in
    let second = same_place {m = rooms_at c.args.s.now + 16} (behind_number first c.number-4.ensures.rest) (grind arith) in
    rw (
      c.then_some.ensures,
      c.number-3.ensures.value,
      c.number-4.ensures.value,
      c.number-5.ensures.value,
      number_there l,
      number_there first,
      number_there second,
    )
    (none_if _ _)

pub returns-clause-records : goal.returns-clause-records
returns-clause-records c =
    let l = rooms_read (text_read c.part-text.ensures.rest) c.part-events.ensures.rest c.number.ensures.rest c.number-2.ensures.rest in
    let r = returned_read l c.number-3.ensures.rest c.number-4.ensures.rest c.number-5.ensures.rest in
    rw (c.part.ensures.value, part_there _ r, number_there r) (grind arith)

pub returns-clause-pieces : goal.returns-clause-pieces
returns-clause-pieces c =
    let l = rooms_read (text_read c.part-text.ensures.rest) c.part-events.ensures.rest c.number.ensures.rest c.number-2.ensures.rest in
    let r = returned_read l c.number-3.ensures.rest c.number-4.ensures.rest c.number-5.ensures.rest in
    let p = pieces_read r c.part.ensures.rest in
    rw (c.part-2.ensures.value, part_there _ p, number_there p) refl
