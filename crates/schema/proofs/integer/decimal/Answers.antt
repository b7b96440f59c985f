-- `schema::integer::decimal` meets its contract: after a minus, after a plus, or with no sign.
use Rattle.std.proofs.Common.{◌∙◌, ap}
use Rattle.schema.specs.Integer.{held}
use Rattle.schema.proofs.Digits.{after_minus, no_minus}
use Rattle.schema.proofs.integer.decimal.Goals as goal

pub returns-in-Some : goal.returns-in-Some
returns-in-Some c =
    let p = c.in-Some.ensures.cases in
    c.gather.ensures ∙ ap held (after_minus _ _ p.0 p.1)

pub returns-in-None : goal.returns-in-None
returns-in-None c =
    c.positive.ensures ∙ ap held (no_minus _ _ _ c.in-None.ensures.cases c.strip_prefix-in-None.ensures.cases c.unwrap_or.ensures)
