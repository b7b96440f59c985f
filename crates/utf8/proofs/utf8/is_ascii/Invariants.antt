-- `utf8::utf8::is_ascii` meets its contract. The loop's invariant: all is ASCII where the bytes met are and the rest is.
use Rattle.std.proofs.Common.{◌≡◌, ◌&&◌, drop}
use Rattle.utf8.specs.Utf8.{is_ascii}
use Rattle.utf8.proofs.utf8.is_ascii.Given as goal

abbrev pub invariant-loop-b : goal.invariant-loop-b
invariant-loop-b l = l.ascii && is_ascii (drop l.b-index l.s) ≡ is_ascii l.s
