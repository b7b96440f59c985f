-- `node::child::steps_back` meets its contract. The loop's invariant: the steps that are left, from here, give what all steps give from `c`.
use Rattle.std.proofs.Common.{◌≡◌, ◌-◌}
use Rattle.node.specs.Child.{steps_back}
use Rattle.node.proofs.child.steps_back.Given as goal

abbrev pub invariant-loop : goal.invariant-loop
invariant-loop l = steps_back l.records (l.k - l.counter) l.at ≡ steps_back l.records l.k l.c
