-- `schema::integer::positive` meets its contract: what was gathered below zero is turned about, the lowest integer apart,
-- which has no positive.
use Rattle.std.proofs.Common.{◌∙◌, le_of_lt}
use Rattle.schema.proofs.Below.{back, fits, beyond_pos, value_neg, nothing_neg, negated, turned_about}
use Rattle.schema.proofs.integer.positive.Goals as goal

pub returns-in_err-gather : goal.returns-in_err-gather
returns-in_err-gather c = c.from_residual.ensures ∙ beyond_pos _ (le_of_lt (nothing_neg _ c.in_err-gather.ensures))

pub returns : goal.returns
returns c =
    let p = value_neg _ _ c.in_ok-gather.ensures in
    turned_about _ _ (negated (back (fits p.0 p.1) p.0)) c.checked_neg.ensures
