use mathlib.Core.Path.{◌≡◌, sym, ◌∙◌}
use native.Mathlib.Omega.{arith}
use Rattle.std.proofs.lemmas.Result.{err_from_is_err_and, IfOk-at_ok}
use Rattle.event.specs.Read.{read_event}
use Rattle.parser.specs.Machine.{next_place}
use Rattle.parser.proofs.Gates.{mapped_ok, mapped_err}
use Rattle.parser.proofs.Heads.{first_head, ready, NextHead, next_head, refused_here, built_now, not_built}
use Rattle.parser.proofs.build.fill.Goals.{In_ok-at}
use Rattle.parser.proofs.build.fill.Goals as goal

pub loop-at-init : goal.loop-at-init
loop-at-init c = first_head _ _ _ _ _ c.new-builder.ensures c.requires.0 c.requires.1 c.requires.2

pub step-requires : goal.step-requires
step-requires c = ready c.loop-at.invariant c.args.document.short c.loop-at-test.true

pub returns-in_err-at : goal.returns-in_err-at
returns-in_err-at c =
    let m = mapped_err _ c.step.result c.map_err.result _ c.map_err.ensures.cases c.in_err-at.was in
    let q = err_from_is_err_and c.from_residual.result c.from_residual.ensures.1 in
    rw (q.1, q.2, m.2)
    (refused_here c.loop-at.invariant c.args.document.bytes c.loop-at-test.true c.step.result c.step.new.builder c.step.new.records c.step.new.pieces c.step.ensures.stepped m.0 m.1)

-- the head of the loop, one event on
next : (c : In_ok-at) → NextHead c.loop-at.invariant c.args.document.bytes c.loop-at-test.true c.step.result c.step.new.builder c.step.new.records c.step.new.pieces c.step.ensures.stepped c.in_ok-at.at
next c =
    let ok = mapped_ok _ c.step.result c.map_err.result c.in_ok-at.at c.map_err.ensures.cases c.in_ok-at.was in
    next_head c.loop-at.invariant c.args.document.bytes c.loop-at-test.true c.step.result c.step.new.builder c.step.new.records c.step.new.pieces c.step.ensures.stepped
    c.in_ok-at.at c.in_ok-at.at ok (IfOk-at_ok (λ n. n ≡ next_place (read_event c.args.document.events.now c.loop-at.at)) ok c.step.ensures.next)

pub overflow_add-number : goal.overflow_add-number
overflow_add-number c =
    let numbered = c.loop-at.invariant.numbered in
    omega (arith, c.args.document.short, c.loop-at.invariant.within)

pub loop-at-smaller : goal.loop-at-smaller
loop-at-smaller c =
    let n = next c in
    omega (arith, n.onward, n.head.within)

pub loop-at-preserved : goal.loop-at-preserved
loop-at-preserved c = (next c).head

pub returns-then-not-root_done : goal.returns-then-not-root_done
returns-then-not-root_done c = not_built c.loop-at.invariant c.loop-at-test.false (sym c.root_done.ensures ∙ c.if-not-root_done.true)

pub returns : goal.returns
returns c = built_now c.loop-at.invariant c.loop-at-test.false (sym c.root_done.ensures ∙ c.if-not-root_done.false)
