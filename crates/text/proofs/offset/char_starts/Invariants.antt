-- `text::offset::char_starts` meets its contract. The loop's invariant: `n` characters begin among the bytes passed.
use Rattle.std.proofs.Common.{◌≡◌, take}
use Rattle.text.specs.Starts.{starts}
use Rattle.text.proofs.offset.char_starts.Given as goal

abbrev pub invariant-loop-b : goal.invariant-loop-b
invariant-loop-b l = l.n ≡ starts (take l.b-index l.s)
