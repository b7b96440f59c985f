-- The loop's invariant: what was counted and the run of the rest are the run of the whole.
use Rattle.std.proofs.Common.{◌≡◌, ◌≤◌, drop}
use Rattle.provenance.specs.Counted.{counted_run}
use Rattle.provenance.proofs.Runs.{scan_so_far}
use Rattle.provenance.proofs.run.white_run.Given as goal

abbrev pub invariant-loop-b : goal.invariant-loop-b
invariant-loop-b l = record {
  counted : l.run.len ≡ l.b-index;
  newlines : l.run.newlines ≤ l.run.len;
  so_far : scan_so_far l.b-index l.run.newlines l.run.last (drop l.b-index l.tail) ≡ counted_run l.tail;
}
