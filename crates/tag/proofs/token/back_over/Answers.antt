use Rattle.std.proofs.Common.{sym, ◌∙◌, arith}
use Rattle.utf8.proofs.Utf8Laws.{utf8_sound}
use Rattle.tag.proofs.Steps.{going_ends, some_before, none_before, going_stops, going_on}
use Rattle.tag.proofs.token.back_over.Goals as goal
use Rattle.tag.proofs.token.back_over.Goals.{In-Some, in-Some+then-not-kind, in_default}

pub overflow_sub-at : goal.overflow_sub-at
overflow_sub-at g c = (some_before (utf8_sound _ c.args.place.text.utf8) c.loop-c.invariant.edge c.in-Some.ensures).fits

pub loop-c-smaller : goal.loop-c-smaller
loop-c-smaller g c = let t = some_before (utf8_sound _ c.args.place.text.utf8) c.loop-c.invariant.edge c.in-Some.ensures in omega arith

pub loop-c-preserved : goal.loop-c-preserved
loop-c-preserved g c =
    let u = utf8_sound _ c.args.place.text.utf8 in
    let t = some_before u c.loop-c.invariant.edge c.in-Some.ensures in
    record {
      edge = t.edge;
      going = λ test tells. going_on u t (c.loop-c.invariant.going test tells) (sym (tells _ _ c.kind.ensures) ∙ c.if-not-kind.false);
    }

pub returns-clause-value : goal.returns-clause-value
returns-clause-value g c = λ test tells.
    let u = utf8_sound _ c.args.place.text.utf8 in
    let going = c.loop-c.invariant.going test tells in
    elim c.match-last_char.branch [
      | in-Some+then-not-kind w ↦ going_stops u (some_before u c.loop-c.invariant.edge w.in-Some.ensures) going (sym (tells _ _ w.kind.ensures) ∙ w.if-not-kind.true)
      | in_default w ↦ going_ends u going (none_before u c.loop-c.invariant.edge w.in_default.ensures)
    ]
