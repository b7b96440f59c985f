-- `depth` meets its contract: as many collections are taken.
use Rattle.std.proofs.Common.{length-take, arith}
use Rattle.std.proofs.lemmas.List.{length-reverse}
use Rattle.parser.proofs.stack.Stack.depth.Goals as goal

pub returns : goal.returns
returns c = rw (← c.self.view_is) (simp (length-reverse, length-take) (omega (arith, c.self.invariant.0)))
