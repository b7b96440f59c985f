-- `schema::form::run_automaton`: a byte of the value, its symbol, and the state that follows.
use Rattle.std.proofs.Common.{◌≡◌, ◌∙◌, ap, ℕ, ◌+◌, ◌-◌, ◌<◌, drop, get_or, arith}
use Rattle.schema.specs.Automaton.{state_count, awaits, entry_at, accepted, flags}
use Rattle.schema.proofs.Flags.{started, turned, nothing_left}
use Rattle.schema.proofs.form.run_automaton.Goals as goal
use Rattle.schema.proofs.form.run_automaton.Goals.{After-from-state}

pub loop-b-init : goal.loop-b-init
loop-b-init c = (omega arith, started _)

module _ (c : After-from-state) where
  abbrev b : ℕ
  b = get_or c.args.value.now c.loop-b.b-index 0

  low : b < 256
  low = omega arith

  entry : c.from-state.result ≡ entry_at c.args.symbols.now c.args.next.now c.loop-b.state b - 44
  entry = cc

  follows : accepted (awaits c.from-state.result) (drop (c.loop-b.b-index + 1) c.args.value.now) ≡ flags c.args.value.now
  follows =
      let d = c.requires.derives c.loop-b.state b c.loop-b.invariant.0 low in
      turned _ _ _ _ c.loop-b-test.true c.loop-b.invariant.1 (ap awaits entry ∙ d)

  state_low : c.from-state.result < state_count
  state_low = let h = c.requires.state_low c.loop-b.state b c.loop-b.invariant.0 low in omega (arith, entry)

pub returns-then-state-eq-DEAD : goal.returns-then-state-eq-DEAD
returns-then-state-eq-DEAD c =
    let left = follows (goal.at.returns-then-state-eq-DEAD c).After-from-state in
    nothing_left _ _ (rw c.if-state-eq-DEAD.true at left)

pub loop-b-preserved : goal.loop-b-preserved
loop-b-preserved c =
    let d = (goal.at.loop-b-preserved c).After-from-state in
    (state_low d, follows d)
