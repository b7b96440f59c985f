-- The loop's invariant: the digits left, behind the number so far, are the number of them all. What has i digits is below 16 to that power.
use Rattle.std.proofs.Common.{◌≡◌, ◌<◌, drop}
use Rattle.provenance.specs.Escape.{digits_from, digits}
use Rattle.provenance.specs.EscapeLaws.{sixteens}
use Rattle.provenance.proofs.escape.digits.Given as goal

abbrev pub invariant-loop-b : goal.invariant-loop-b
invariant-loop-b l = record {
  small : l.code < sixteens l.b-index;
  rest : digits_from l.code (drop l.b-index l.tail) ≡ digits l.tail;
}
