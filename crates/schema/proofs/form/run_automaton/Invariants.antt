-- `schema::form::run_automaton` meets its contract. The loop's invariant: the state awaits of the rest of the value what the rows
-- ask of the whole. In the state that awaits nothing the rest does not matter.
use Rattle.std.proofs.Common.{◌≡◌, ◌<◌, drop}
use Rattle.schema.specs.Automaton.{state_count, awaits, accepted, flags}
use Rattle.schema.proofs.form.run_automaton.Given as goal

abbrev pub invariant-loop-b : goal.invariant-loop-b
invariant-loop-b l = (l.state < state_count) × (accepted (awaits l.state) (drop l.b-index l.value) ≡ flags l.value)
