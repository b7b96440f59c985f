-- `measure::quoted::quoted_scalar_len` meets its contract. The loop's invariant: the closing mark is found from here where it is found
-- from the start, as many bytes further on as were passed. The measure is what is left.
use mathlib.Core.Path.{◌≡◌}
use Prim.Native.Nat.{◌-◌}
use lib.ListN.{length, drop}
use Rattle.measure.specs.Quoted.{further, to_closing, quoted_len}
use Rattle.measure.proofs.quoted.quoted_scalar_len.Given as goal

abbrev pub invariant-loop-b : goal.invariant-loop-b
invariant-loop-b l = further l.i (to_closing l.quote (drop l.i l.rest)) ≡ quoted_len l.rest l.quote

abbrev pub decreases-loop-b : goal.decreases-loop-b
decreases-loop-b l = length l.rest - l.i
