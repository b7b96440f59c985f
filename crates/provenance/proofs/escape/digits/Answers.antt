use Rattle.std.proofs.Common.{◌∙◌, sym, ap, ℕ, ◌+◌, ◌*◌, length, drop, arith, eqb-true}
use Rattle.std.proofs.lemmas.Bool.{eqb-false}
use Rattle.provenance.specs.Escape.{digits_from}
use Rattle.provenance.specs.EscapeLaws.{sixteens_more, sixteens_four}
use Rattle.provenance.proofs.Escapes.{digits_more, digits_bad, digits_end, digits_none, digits_some}
use Rattle.provenance.proofs.escape.digits.Goals as goal

pub returns-then-is_empty-clause-value : goal.returns-then-is_empty-clause-value
returns-then-is_empty-clause-value c = sym (digits_none c.args.tail.now (eqb-true _ 0 (sym c.is_empty.ensures ∙ c.if-is_empty.true)))

pub loop-b-init : goal.loop-b-init
loop-b-init c = record { small = omega arith; rest = digits_some c.args.tail.now (let n = eqb-false (length c.args.tail.now) 0 (sym c.is_empty.ensures ∙ c.if-is_empty.false) in omega arith) }

pub returns-in_err-code-clause-value : goal.returns-in_err-code-clause-value
returns-in_err-code-clause-value c =
    let l = c.loop-b in
    let n = rw c.from.ensures at c.in_err-code.ensures.value in
    c.from_residual.ensures ∙ sym (digits_bad c.args.tail.now l.b-index l.code c.loop-b-test.true n) ∙ l.invariant.rest

pub loop-b-preserved : goal.loop-b-preserved
loop-b-preserved c =
    let l = c.loop-b in
    let d = rw c.from.ensures at c.in_ok-code.ensures.value in record {
      small = sixteens_more l.b-index l.code c.in_ok-code.field-0 l.invariant.small (omega arith);
      rest =
          ap (λ (k : ℕ). digits_from (l.code * 16 + k) (drop (l.b-index + 1) c.args.tail.now)) d.1
          ∙ sym (digits_more c.args.tail.now l.b-index l.code c.loop-b-test.true d.0)
          ∙ l.invariant.rest;
    }

pub returns-clause-value : goal.returns-clause-value
returns-clause-value c = let l = c.loop-b in sym (digits_end c.args.tail.now l.b-index l.code c.loop-b-test.false) ∙ l.invariant.rest

pub returns-clause-four : goal.returns-clause-four
returns-clause-four c = let l = c.loop-b in let small = l.invariant.small in let q = sixteens_four l.b-index (omega arith) in omega arith
