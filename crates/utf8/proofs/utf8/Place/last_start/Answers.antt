use Rattle.std.proofs.Common.{arith, sym, ◌∙◌, ap, ◌≡◌, get_or, take, get_or-take}
use Rattle.utf8.specs.Class.{is_continuation}
use Rattle.utf8.proofs.Back.{goes_back, start_only}
use Rattle.utf8.proofs.Utf8Laws.{utf8_sound}
use Rattle.utf8.proofs.utf8.Place.last_start.Goals as goal
use Rattle.utf8.proofs.utf8.Place.last_start.Goals.{After-is_continuation}

-- what was told of the byte at `start`, among those before the place
told : (c : After-is_continuation) → c.is_continuation.result ≡ is_continuation (get_or (take c.args.self.at c.args.self.text.bytes.now) c.loop-s.start 0)
told c =
    c.is_continuation.ensures
    ∙ ap is_continuation (c.byte_at.ensures ∙ sym (get_or-take c.args.self.at c.args.self.text.bytes.now c.loop-s.start 0 c.loop-s.invariant.within))

pub overflow_sub-start-in-loop-s : goal.overflow_sub-start-in-loop-s
overflow_sub-start-in-loop-s c =
    let w = c.loop-s in
    goes_back (utf8_sound _ c.args.self.text.utf8) c.args.self.boundary w.start w.invariant.within
    (sym (told (goal.at.overflow_sub-start-in-loop-s c).After-is_continuation) ∙ c.loop-s-test.true) w.invariant.behind

pub loop-s-smaller : goal.loop-s-smaller
loop-s-smaller c = let some = overflow_sub-start-in-loop-s c in omega arith

pub returns : goal.returns
returns c =
    let w = c.loop-s in
    start_only (utf8_sound _ c.args.self.text.utf8) c.args.self.boundary w.start w.invariant.within
    (sym (told (goal.at.returns c).After-is_continuation) ∙ c.loop-s-test.false) w.invariant.behind
