-- `collection_node` meets its contract: the start is a boundary and the end within the text, as the search and the record ask.
use Rattle.spans.proofs.SpanLaws.{collection_start_boundary, end_within}
use Rattle.spans.proofs.collection.collection_node.Goals as goal

pub invariant_of-start : goal.invariant_of-start
invariant_of-start c =
    let on = c.requires.boundary in
    record { boundary = rw c.collection_start.ensures (collection_start_boundary c.args.text.bytes.now c.args.o on.0 on.1) }

pub collection_over-requires-clause-end_in_bounds : goal.collection_over-requires-clause-end_in_bounds
collection_over-requires-clause-end_in_bounds c =
    rw c.collection_end-end.ensures (end_within c.args.text.bytes.now c.args.o.collection c.args.at c.requires.at_in_bounds)
