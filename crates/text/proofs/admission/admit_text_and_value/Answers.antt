-- `text::admission::admit_text_and_value` meets its contract: the value's length first, then the text, then the value's bytes.
use Rattle.std.proofs.Common.{refl, sym, ◌∙◌}
use Rattle.std.proofs.lemmas.Bool.{lt-ltb, le-ltb}
use Rattle.std.proofs.lemmas.Result.{err_from_is_err_and}
use Rattle.text.proofs.Admit.{both_long, both_admitted, both_refused}
use Rattle.text.proofs.admission.admit_text_and_value.Goals as goal

pub returns-then-value-gt-TEXT_LIMIT-clause-refused : goal.returns-then-value-gt-TEXT_LIMIT-clause-refused
returns-then-value-gt-TEXT_LIMIT-clause-refused c = both_long c.args.text.now c.args.value.now (lt-ltb _ _ c.if-value-gt-TEXT_LIMIT.true)

pub returns-in_err-text-clause-refused : goal.returns-in_err-text-clause-refused
returns-in_err-text-clause-refused c =
    let p = err_from_is_err_and c.from_residual.result c.from_residual.ensures.1 in
    let short = le-ltb _ _ c.if-value-gt-TEXT_LIMIT.false in
    rw (p.1, p.2) (both_refused c.args.text.now c.args.value.now _ short c.in_err-text.ensures.refused)

pub returns-then-is_utf8-clause-admitted : goal.returns-then-is_utf8-clause-admitted
returns-then-is_utf8-clause-admitted c =
    let short = le-ltb _ _ c.if-value-gt-TEXT_LIMIT.false in
    let told = c.in_ok-text.ensures.admitted in
    (both_admitted c.args.text.now c.args.value.now _ short told.0 ∙ rw (sym c.is_utf8.ensures ∙ c.if-is_utf8.true), told.1, refl)

pub returns-clause-refused : goal.returns-clause-refused
returns-clause-refused c =
    let short = le-ltb _ _ c.if-value-gt-TEXT_LIMIT.false in
    let told = c.in_ok-text.ensures.admitted in
    both_admitted c.args.text.now c.args.value.now _ short told.0 ∙ rw (sym c.is_utf8.ensures ∙ c.if-is_utf8.false)
