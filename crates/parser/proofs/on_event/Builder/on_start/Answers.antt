-- `on_start` meets its contract: rows 5 and 6 by the counts; then the new collection is the machine's.
use mathlib.Core.Path.{refl, sym, ◌∙◌}
use Prim.Native.Nat.{◌≤◌, ◌<◌}
use native.Mathlib.Omega.{arith}
use lib.ListN.{length}
use Rattle.utf8.proofs.Utf8Laws.{utf8_sound}
use Rattle.parser.proofs.Turns.{root_refused, past_root, too_deep, opened}
use Rattle.parser.proofs.Starts.{cursor_within}
use Rattle.parser.specs.Machine.{depth_limit, on_start}
use Rattle.parser.proofs.on_event.Builder.on_start.Goals as goal

pub returns-in_err-before_root : goal.returns-in_err-before_root
unfolding on_start
returns-in_err-before_root c = λ records pieces size pieces_size st h t. root_refused h _ _ _ (sym c.before_root.ensures ∙ c.in_err-before_root.was) c.from_residual.ensures.1 _ _ _

pub returns-then-depth-ge-DEPTH_LIMIT : goal.returns-then-depth-ge-DEPTH_LIMIT
unfolding on_start
returns-then-depth-ge-DEPTH_LIMIT c = λ records pieces size pieces_size st h t.
    let on = sym c.before_root.ensures ∙ c.in_ok-before_root.was in
    let deep : depth_limit ≤ length c.args.self.now.stack = rw (← c.depth.ensures) c.if-depth-ge-DEPTH_LIMIT.true in
    rw (past_root h _ _ on, too_deep h _ deep) refl

pub overflow_cast-self : goal.overflow_cast-self
overflow_cast-self c =
    let text = c.args.text.content in
    omega (arith, (cursor_within text.bytes.now c.args.index _ (utf8_sound _ text.utf8) text.within c.byte_offset_of_char-self.ensures).1)

pub returns : goal.returns
returns c = λ records pieces size pieces_size st h t.
    let a = c.args in
    let on = sym c.before_root.ensures ∙ c.in_ok-before_root.was in
    let free : length a.self.now.stack < depth_limit = rw (← c.depth.ensures) c.if-depth-ge-DEPTH_LIMIT.false in
    rw (c.push.ensures, c.suffix_of.ensures)
    (opened h a.collection a.index a.tag c.byte_offset_of_char-self.result _ (utf8_sound _ a.text.content.utf8) c.byte_offset_of_char-self.ensures on free t)
