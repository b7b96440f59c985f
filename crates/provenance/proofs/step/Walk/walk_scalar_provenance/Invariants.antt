-- `provenance::step::Walk::walk_scalar_provenance` meets its contract. The loop's invariant: a reading from here on gives one from the start and
-- the other way round, its pieces are those written and those of the rest (`Going`); no run from here to `known` holds a newline; and the
-- pieces are counted from the source's base. The measure is what is left of the source and of the value.
use mathlib.Core.Path.{◌≡◌}
use Prim.Native.Nat.{◌+◌, ◌-◌}
use lib.ListN.{length}
use Rattle.style.specs.Style.{style_number}
use Rattle.provenance.specs.Grammar.{rules_of, step_at}
use Rattle.provenance.specs.Escape.{escapes_reach}
use Rattle.provenance.proofs.Steps.{Clear}
use Rattle.provenance.proofs.Turn.{Going}
use Rattle.provenance.proofs.step.Walk.walk_scalar_provenance.Given as goal

abbrev pub invariant-loop-v : goal.invariant-loop-v
invariant-loop-v l = record {
  going :
      Going escapes_reach (step_at (rules_of (style_number l.fn.self.style) l.fn.self.column) l.src l.value) (length l.src) (length l.value) l.base (length l.initial.pieces)
      l.pieces l.s l.v l.written.from l.written.count;
  clear : Clear l.src l.s l.known;
  same_base : l.written.base ≡ l.base;
}

abbrev pub decreases-loop-v : goal.decreases-loop-v
decreases-loop-v l = (length l.src - l.s) + (length l.value - l.v)
