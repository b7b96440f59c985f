-- `replay_offsets::same_offsets` is safe. The loop's invariant: the cursor stands in the text.
use Rattle.text.specs.Offset.{Stands}
use Rattle.replay_offsets.proofs.same_offsets.Given as goal

abbrev pub invariant-loop-alias : goal.invariant-loop-alias
invariant-loop-alias l =
    (goal.iterator-loop-alias).can_next l.alias-iterator
    × (goal.iterator-loop-alias).is_finite l.alias-iterator
    × Stands l.text.content.bytes.now l.cursor.chars l.cursor.offset
