use Rattle.std.proofs.Common.{◌≡◌, not, sym, ◌∙◌, ap, ◌+◌, ◌≤◌, ◌<◌, length, drop, get_or, arith}
use Rattle.std.proofs.lemmas.Bool.{not-true, not-false}
use Rattle.utf8.specs.Characters.{codes}
use Rattle.utf8.proofs.Utf8Laws.{CharAt, utf8_sound}
use Rattle.measure.specs.Counted.{run_of}
use Rattle.measure.proofs.Read.{some_read, none_read, has_byte, got_byte, part_size, part_byte}
use Rattle.measure.proofs.Matches.{equal_more, equal_all, Comparing, run_fits, match_begins, match_at-end, match_run, compare_known, compare_other, compare_looked, match_equal, match_fails, match_letters}
use Rattle.measure.proofs.plain.plain_scalar_len.Goals as goal
use Rattle.measure.proofs.plain.plain_scalar_len.Goals.{In-Some, After-ne, After-white_space_run-run, Joined-known-at, then-known-at+then-is_fold+else-run, else-known-at, else-known-at-via-then-known-at+else-is_fold, else-known-at-via-else-known-at}

-- ---- what is known where

-- the character of the value that was read
char_here : (c : In-Some) → CharAt c.args.value.bytes.now c.characters.v c.in-Some.c
char_here c = some_read (utf8_sound _ c.args.value.utf8) c.characters.invariant.value_place_is c.in-Some.ensures

-- the run of the rest that was read
run_here : (c : After-white_space_run-run) → c.white_space_run-run.result ≡ run_of (codes (drop c.characters.at c.args.rest.bytes.now))
run_here c = rw c.rest_from.ensures at c.white_space_run-run.ensures

run_room : (c : After-white_space_run-run) → c.characters.at + c.white_space_run-run.result.len ≤ length c.args.rest.bytes.now
run_room c = run_fits (utf8_sound _ c.args.rest.utf8) c.characters.invariant.rest_place (run_here c)

-- the next character takes no run, by one of three ways: the run was looked at now, it is no blank and no newline, or the run was
-- looked at before
comparing : (c : Joined-known-at) → Comparing c.args.rest.bytes.now c.args.value.bytes.now c.characters.at c.characters.end c.if-known-at.known c.characters.v c.in-Some.c
comparing c =
    let r = c.characters.invariant in
    elim c.if-known-at.branch [
      | then-known-at+then-is_fold+else-run w ↦
          rw w.known-is (compare_looked r (rw w.rest_from.ensures at w.white_space_run-run.ensures) w.if-run.false)
      | else-known-at w ↦
          rw w.known-is (elim w.else-known-at.branch [
            | else-known-at-via-then-known-at+else-is_fold x ↦ compare_other r (sym x.is_fold.ensures ∙ x.if-is_fold.false)
            | else-known-at-via-else-known-at x ↦ compare_known r x.if-known-at.false
          ])
    ]

-- the byte at k of the character was compared with the rest's
module _ (c : After-ne) (a : CharAt c.args.value.bytes.now c.characters.v c.in-Some.c) where
  within : c.loop-k.k < c.in-Some.c.len
  within = let size = part_size c.args.value.bytes.now c.characters.v c.in-Some.c.len a.room in omega arith

  compared : c.ne.result ≡ not (has_byte c.args.rest.bytes.now (c.characters.at + c.loop-k.k) (get_or c.args.value.bytes.now (c.characters.v + c.loop-k.k) 0))
  compared = c.ne.ensures ∙ ap not (got_byte _ _ _ _ c.get.ensures.lookup.3 ∙ ap (has_byte c.args.rest.bytes.now (c.characters.at + c.loop-k.k)) (part_byte c.args.value.bytes.now c.characters.v c.in-Some.c.len c.loop-k.k within))

-- ---- the answers

pub characters-init : goal.characters-init
characters-init c = match_begins (utf8_sound _ c.args.rest.utf8) (utf8_sound _ c.args.value.utf8)

pub overflow_add-at : goal.overflow_add-at
overflow_add-at c = let f = run_room (goal.at.overflow_add-at c).After-white_space_run-run in omega arith

pub overflow_add-v : goal.overflow_add-v
overflow_add-v c = let a = char_here (goal.at.overflow_add-v c).In-Some in omega arith

pub characters-smaller-then-run : goal.characters-smaller-then-run
characters-smaller-then-run c = let a = char_here (goal.at.characters-smaller-then-run c).In-Some in omega arith

pub characters-preserved-then-run : goal.characters-preserved-then-run
characters-preserved-then-run c =
    let a = char_here (goal.at.characters-preserved-then-run c).In-Some in
    let run = run_here (goal.at.characters-preserved-then-run c).After-white_space_run-run in
    match_run (utf8_sound _ c.args.rest.utf8) (utf8_sound _ c.args.value.utf8) c.characters.invariant a c.if-known-at.true run (sym c.is_fold.ensures ∙ c.if-is_fold.true) c.if-run.true

pub overflow_add-known : goal.overflow_add-known
overflow_add-known c = let f = run_room (goal.at.overflow_add-known c).After-white_space_run-run in omega arith

pub overflow_add-b-items : goal.overflow_add-b-items
overflow_add-b-items c = let a = char_here (goal.at.overflow_add-b-items c).In-Some in omega arith

pub slice_bounds-b-items-end : goal.slice_bounds-b-items-end
slice_bounds-b-items-end c = (char_here (goal.at.slice_bounds-b-items-end c).In-Some).room

pub loop-k-preserved : goal.loop-k-preserved
loop-k-preserved c =
    let place = (goal.at.loop-k-preserved c).After-ne in
    let a = char_here (goal.at.loop-k-preserved c).In-Some in
    let inside = within place a in
    equal_more c.args.rest.bytes.now c.characters.at c.args.value.bytes.now c.characters.v c.loop-k.k c.loop-k.invariant (omega arith) (not-false _ (sym (compared place a) ∙ c.if-ne.false))

pub characters-preserved : goal.characters-preserved
characters-preserved c =
    let a = char_here (goal.at.characters-preserved c).In-Some in
    let size = part_size c.args.value.bytes.now c.characters.v c.in-Some.c.len a.room in
    let equal = equal_all c.args.rest.bytes.now c.characters.at c.args.value.bytes.now c.characters.v c.loop-k.invariant (omega arith) (omega arith) in
    let r = match_equal (utf8_sound _ c.args.rest.utf8) (utf8_sound _ c.args.value.utf8) (comparing (goal.at.characters-preserved c).Joined-known-at) a equal in
    match_letters (utf8_sound _ c.args.rest.utf8) (utf8_sound _ c.args.value.utf8) r c.letters-n.ensures.letters

pub returns-in_default : goal.returns-in_default
returns-in_default c = c.measured.ensures ∙ match_at-end c.characters.invariant (none_read (utf8_sound _ c.args.value.utf8) c.characters.invariant.value_place_is c.in_default.ensures)

pub returns-then-ne : goal.returns-then-ne
returns-then-ne c =
    let place = (goal.at.returns-then-ne c).After-ne in
    let a = char_here (goal.at.returns-then-ne c).In-Some in
    c.assumed.ensures ∙ match_fails (utf8_sound _ c.args.rest.utf8) (utf8_sound _ c.args.value.utf8) (comparing (goal.at.returns-then-ne c).Joined-known-at) a c.loop-k.k (within place a) (not-true _ (sym (compared place a) ∙ c.if-ne.true))
