-- `schema::integer::gather` meets its contract. The loop's invariant: the sum is the negative of a number m, and the digits left,
-- after m, write what all of them write. Where a step does not fit, m with one digit more is past the lowest integer, and a number
-- only grows with its digits.
use Rattle.std.proofs.Common.{◌≡◌, ℕ, drop}
use Rattle.schema.specs.Integer.{positional, value_of}
use Rattle.schema.proofs.Below.{Neg}
use Rattle.schema.proofs.integer.gather.Given as goal

abbrev pub invariant-loop-b : goal.invariant-loop-b
invariant-loop-b l = (m : ℕ) × Neg l.sum m × (positional l.base m (drop l.b-index l.digits) ≡ value_of l.base l.digits)
