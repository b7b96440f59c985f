-- `keep_scalar` meets its contract, by what the walk answered: the free part of the pieces is as it was, or has the list in it.
use mathlib.Core.Path.{refl, sym, ◌∙◌}
use Rattle.provenance.specs.declared.walk.Walked.TheVariants.{Listed, NoRoom, NoList}
use Rattle.parser.proofs.Pieces.{walks_of}
use Rattle.parser.proofs.Turns.{moved_on, leaf_rooted, list_leaf, walk_no_room, walk_no_list, walk_listed}
use Rattle.parser.proofs.on_event.Builder.keep_scalar.Goals as goal

pub returns-in-NoRoom : goal.returns-in-NoRoom
returns-in-NoRoom c = λ text size pieces_size st p o y on leaf h t len answer buffer.
    let w = walks_of _ o NoRoom y (sym c.in-NoRoom.is ∙ answer) buffer in
    rw (walk_no_room h y len c.args.x.node o w) refl

pub returns-in-NoList : goal.returns-in-NoList
returns-in-NoList c = λ text size pieces_size st p o y on leaf h t len answer buffer.
    let w = walks_of _ o NoList y (sym c.in-NoList.is ∙ answer) buffer in
    let same = walk_no_list h y len c.args.x.node o w in
    rw (same.0, same.1) (moved_on h _ _ _ _ (c.push_complete.ensures text size pieces_size st p on (leaf_rooted _ st leaf t) h))

pub returns-in-Listed : goal.returns-in-Listed
returns-in-Listed c = λ text size pieces_size st p o y on leaf h t len answer buffer.
    let n = c.in-Listed.n in
    let w = walks_of _ o (Listed n) y (sym c.in-Listed.is ∙ answer) buffer in
    let more = walk_listed h y len c.args.x.node o n w in
    let listed = c.with_list-node.ensures in
    rw (more.kept, ← listed)
    (moved_on more.held _ _ _ _ (c.push_complete-in-Listed.ensures text size pieces_size more.with_pieces _ (rw listed on)
    (leaf_rooted _ more.with_pieces (rw listed (list_leaf _ _ _ leaf)) (more.nested t)) more.held))
