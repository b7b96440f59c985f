-- `build` meets its contract: text and events are let in, or the buffers are zero.
use Rattle.parser.proofs.Wholes.{let_in}
use Rattle.parser.proofs.build.build.Goals as goal

pub returns-in-Ok : goal.returns-in-Ok
returns-in-Ok c =
    let document = c.in-Ok.document in
    let told = c.in-Ok.ensures.admitted in
    let filled = c.fill_or_clear in
    let_in c.args.text.now c.args.events.now _ _ _ _ (rw told.2 at document.short) _ filled.result told.0 (rw (told.1, told.2, c.clear.auto.buffer, c.clear-2.auto.buffer) at filled.ensures)
