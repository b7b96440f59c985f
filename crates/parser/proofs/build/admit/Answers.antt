-- `admit` meets its contract: the events' size, then the text.
use mathlib.Core.Path.{refl}
use Rattle.std.proofs.lemmas.Result.{err_from_is_err_and}
use Rattle.parser.specs.declared.answer.Refusal.TheVariants.{TooLong}
use Rattle.parser.proofs.Wholes.{events_too_long, text_refused}
use Rattle.parser.proofs.build.admit.Goals as goal

pub returns-then-events-gt-EVENTS_LIMIT-clause-refused :
    goal.returns-then-events-gt-EVENTS_LIMIT-clause-refused
returns-then-events-gt-EVENTS_LIMIT-clause-refused c = events_too_long _ _ c.if-events-gt-EVENTS_LIMIT.true TooLong refl

pub returns-in_err-admit_text-clause-refused : goal.returns-in_err-admit_text-clause-refused
returns-in_err-admit_text-clause-refused c =
    let p = err_from_is_err_and c.from_residual.result c.from_residual.ensures.1 in
    rw p.1 (text_refused _ _ c.if-events-gt-EVENTS_LIMIT.false _ _ c.in_err-admit_text.ensures.refused p.2)
