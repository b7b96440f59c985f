-- `node::search::search_back` meets its contract. The loop's invariant: the pairs that are left, from here, give what all pairs give from `v`.
use Rattle.std.proofs.Common.{◌≡◌, ◌+◌, ◌-◌, None}
use Rattle.node.specs.Search.{search_back}
use Rattle.node.proofs.Steps.{rest}
use Rattle.node.proofs.search.search_back.Given as goal

abbrev pub invariant-loop-i : goal.invariant-loop-i
invariant-loop-i l = rest l.records l.events l.key (l.count + 1 - l.i) l.at l.found ≡ search_back l.records l.events l.key l.count l.v None
