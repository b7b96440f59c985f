use Rattle.std.proofs.Common.{arith, ◌∙◌, sym, length}
use Rattle.std.proofs.lemmas.Nat.{le_or_l, le_or_r}
use Rattle.utf8.proofs.Windows.{fits_at, awaits_at, met_more, all_met, fit_utf8}
use Rattle.utf8.proofs.window.passes_windows.Goals as goal

pub loop-i-preserved : goal.loop-i-preserved
loop-i-preserved c =
    let s = c.args.s.now in
    let i = c.loop-i.i in
    let before = le_or_l c.loop-i.misfits c.misfit-misfits.result in
    let here = le_or_r c.loop-i.misfits c.misfit-misfits.result in
    λ e. met_more s i (c.loop-i.invariant (omega arith)) (fits_at s i (omega arith) (c.misfit-misfits.ensures (omega arith)))

pub returns-then-misfits-eq0 : goal.returns-then-misfits-eq0
returns-then-misfits-eq0 c =
    let s = c.args.s.now in
    λ e.
    fit_utf8 s (all_met s c.loop-i.i c.loop-i-test.false (c.starts_well.ensures e) (c.loop-i.invariant c.if-misfits-eq0.true))
    (awaits_at s (length s) (omega arith) _ (sym c.is_awaited.ensures ∙ c.if-is_awaited.false))
