-- `push_complete` meets its contract: its children have their parent, its record is the next one in the buffer, and the innermost collection
-- has a child more.
use Prim.Native.Nat.{◌<◌}
use mathlib.Core.Path.{◌∙◌}
use Rattle.records.specs.Layout.{record_room}
use Rattle.parser.proofs.Turns.{pushed, completed_nested}
use Rattle.parser.proofs.on_event.Builder.push_complete.Goals as goal

pub returns : goal.returns
returns c = λ text size pieces_size st pieces on r h.
    let a = c.args in
    let l : a.self.now.nodes < record_room size = rw (← h.size_is) c.requires.pushable.room in
    let same = c.put_record.auto.records ∙ c.adopt.auto.records in
    (rw c.add_child.ensures (pushed h a.x a.children _ _ l on r same c.adopt.ensures c.put_record.ensures), completed_nested a.x a.children st r)
