use Rattle.std.proofs.Common.{◌≡◌, ◌+◌, sym, ◌∙◌, drop, get_or}
use Rattle.std.proofs.lemmas.Bool.{not-true, not-false}
use Rattle.measure.specs.Quoted.{passed_together}
use Rattle.letters.specs.Marks.{Unmarked}
use Rattle.letters.proofs.Chunks.{part_is}
use Rattle.measure.proofs.Read.{got_byte}
use Rattle.measure.proofs.Closing.{other_opens, opens, passes_two, closes, passes_one, never_closes, passes_many}
use Rattle.measure.proofs.quoted.quoted_scalar_len.Goals as goal
use Rattle.measure.proofs.quoted.quoted_scalar_len.Goals.{After-passed_together, After-unmarked-i}

-- the two bytes at i were looked at; what stands there
asked : (c : After-passed_together) → c.passed_together.result ≡ passed_together c.args.quote (get_or c.args.rest.now c.loop-b.i 0) (get_or c.args.rest.now (c.loop-b.i + 1) 0)
asked c = c.passed_together.ensures ∙ rw (c.in-Some.ensures.lookup.3.1 0, c.byte_at.ensures)

-- the ordinary bytes that were passed at once
passed : (c : After-unmarked-i) → Unmarked c.args.quote (drop (c.loop-b.i + 1) c.args.rest.now) c.unmarked-i.result
passed c = rw (part_is c.args.rest.now (c.loop-b.i + 1)) at c.unmarked-i.ensures

pub returns-then-ne : goal.returns-then-ne
returns-then-ne c = other_opens _ _ (sym (got_byte _ 0 _ _ c.first.ensures.item.3) ∙ not-true _ (sym c.if-ne.ensures))

pub loop-b-init : goal.loop-b-init
loop-b-init c = opens _ _ (sym (got_byte _ 0 _ _ c.first.ensures.item.3) ∙ not-false _ (sym c.if-ne.ensures))

pub loop-b-preserved-then-passed_together : goal.loop-b-preserved-then-passed_together
loop-b-preserved-then-passed_together c =
    passes_two c.args.rest.now c.args.quote c.loop-b.i c.in-Some.ensures.lookup.3.0 (sym (asked (goal.at.loop-b-preserved-then-passed_together c).After-passed_together) ∙ c.if-passed_together.true)
    ∙ c.loop-b.invariant

pub returns-then-b-quote : goal.returns-then-b-quote
returns-then-b-quote c =
    let here = c.in-Some.ensures.lookup.3 in
    let apart = sym (asked (goal.at.returns-then-b-quote c).After-passed_together) ∙ c.if-passed_together.false in
    closes c.args.rest.now c.args.quote c.loop-b.i here.0 apart (sym (here.1 0) ∙ c.if-b-quote.true) ∙ c.loop-b.invariant

pub loop-b-preserved : goal.loop-b-preserved
loop-b-preserved c =
    let here = c.in-Some.ensures.lookup.3 in
    let apart = sym (asked (goal.at.loop-b-preserved c).After-passed_together) ∙ c.if-passed_together.false in
    passes_many c.args.rest.now c.args.quote (c.loop-b.i + 1) c.unmarked-i.result (passed (goal.at.loop-b-preserved c).After-unmarked-i)
    ∙ passes_one c.args.rest.now c.args.quote c.loop-b.i here.0 apart (λ e. c.if-b-quote.false (here.1 0 ∙ e))
    ∙ c.loop-b.invariant

pub returns : goal.returns
returns c = never_closes c.args.rest.now c.args.quote c.loop-b.i c.in_default.ensures.lookup.3 ∙ c.loop-b.invariant
