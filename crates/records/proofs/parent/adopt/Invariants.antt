-- `records::parent::adopt` meets its contract. The loop's invariant: what is left, from here, leaves what all would leave, and the counts lead on.
use Rattle.std.proofs.Common.{◌≡◌, ◌-◌, length}
use Rattle.records.specs.Adopt.{adopted, Chain}
use Rattle.records.proofs.parent.adopt.Given as goal

abbrev pub invariant-loop : goal.invariant-loop
invariant-loop l =
    Chain l.records (l.children - l.counter) l.end
    × (adopted l.records l.parent (l.children - l.counter) l.end ≡ adopted l.initial.records l.parent l.children l.parent)
    × (length l.records ≡ length l.initial.records)
