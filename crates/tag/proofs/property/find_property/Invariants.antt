-- `tag::property::find_property` meets its contract. The loop's invariant: the search from `before` finds what the one from the node does. The
-- measure is `before`: a token that is passed over has a byte at least.
use Rattle.tag.proofs.Turn.{Searching}
use Rattle.tag.proofs.property.find_property.Given as goal

abbrev pub invariant-loop-before : goal.invariant-loop-before
invariant-loop-before l = Searching l.text.bytes.now l.at l.before

abbrev pub decreases-loop-before : goal.decreases-loop-before
decreases-loop-before l = l.before
