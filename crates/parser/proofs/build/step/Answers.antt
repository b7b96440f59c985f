-- `step` meets its contract: what was read is sound.
use mathlib.Core.Path.{sym, ◌∙◌}
use Rattle.parser.proofs.Heads.{read_of}
use Rattle.parser.proofs.build.step.Goals as goal

pub on_event-requires-clause-read : goal.on_event-requires-clause-read
on_event-requires-clause-read c =
    let document = c.args.document in
    read_of document.events.now document.bytes document.short c.args.at c.in_ok-e.e c.in_ok-e.next (sym c.read_event.ensures ∙ c.in_ok-e.was)
