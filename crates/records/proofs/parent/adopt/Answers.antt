-- `adopt` meets its contract, by the first of the links that are left: there is a record before, and its count leads to the next.
use Rattle.std.proofs.Common.{◌≡◌, ◌∙◌, ◌+◌, ◌-◌, sym, arith}
use Rattle.records.specs.Layout.{node_at}
use Rattle.records.proofs.AdoptLaws.{link, link_before, parent_length, parent_chain, adopt_done, adopt_one}
use Rattle.records.proofs.parent.adopt.Goals as goal

pub overflow_sub-child : goal.overflow_sub-child
overflow_sub-child c = (link_before c.loop.records c.loop.end (c.args.children - c.loop.counter) (omega arith) c.loop.invariant.0).0

pub read_record-requires : goal.read_record-requires
read_record-requires c = (link_before c.loop.records c.loop.end (c.args.children - c.loop.counter) (omega arith) c.loop.invariant.0).1

pub overflow_sub-end : goal.overflow_sub-end
overflow_sub-end c =
    rw c.read_record.ensures (link c.loop.records c.loop.end (c.args.children - c.loop.counter) (omega arith) c.loop.invariant.0).within

pub put_parent-requires : goal.put_parent-requires
put_parent-requires c = (link_before c.loop.records c.loop.end (c.args.children - c.loop.counter) (omega arith) c.loop.invariant.0).1

pub loop-preserved : goal.loop-preserved
loop-preserved c =
    let l = c.loop in
    let left = c.args.children - l.counter in
    let p = c.args.parent in
    let k = link l.records l.end left (omega arith) l.invariant.0 in
    let less : c.args.children - (l.counter + 1) ≡ left - 1 = omega arith in
    rw (c.put_parent.ensures, c.read_record.ensures, less) (
      parent_chain l.records (l.end - 1) p (left - 1) (l.end - (node_at l.records (l.end - 1)).subtree) k.on,
      adopt_one l.records p l.end left (omega arith) ∙ l.invariant.1,
      parent_length l.records (l.end - 1) p ∙ l.invariant.2,
    )

pub returns : goal.returns
returns c = sym (adopt_done c.loop.records c.args.parent (c.args.children - c.loop.counter) c.loop.end (omega arith)) ∙ c.loop.invariant.1
