-- A turn of `schema::integer::gather`: the sum is the negative of m, and a digit follows in `base`.
use Rattle.std.proofs.Common.{refl, ◌∙◌, ap, sym, ℕ, ◌+◌, ◌*◌, get_or, pos, neg_ℤ, ◌-ℤ◌, to_z, of_z, w64, arith, rules}
use Rattle.schema.specs.Integer.{digit_value, held}
use Rattle.schema.proofs.Below.{Neg, neg, checked, unsigned_back, within, out_of, less, times_by, held_neg, beyond_neg}
use Rattle.schema.proofs.Digits.{one_more_lem, no_more, beyond}
use Rattle.schema.proofs.integer.gather.Goals as goal
use Rattle.schema.proofs.integer.gather.Goals.{After-checked_sub}

pub loop-b-init : goal.loop-b-init
loop-b-init c = (0, neg 0, refl)

pub returns-in_err-checked_mul : goal.returns-in_err-checked_mul
returns-in_err-checked_mul c =
    let v = c.loop-b.invariant in
    let h = out_of (times_by v.1 (unsigned_back c.from.ensures (omega arith))) c.in_err-checked_mul.ensures in
    c.from_residual.ensures ∙ beyond_neg _ (beyond _ c.requires v.0 _ _ _ _ c.loop-b-test.true v.2 (omega (arith, h)))

-- the sum with a digit more
with_digit : (c : After-checked_sub)
    → Neg (to_z w64 (of_z w64 c.in_ok-checked_mul.field-0) -ℤ to_z w64 (of_z w64 c.from-in-loop-b.result))
    (c.loop-b.invariant.0 * c.args.base + digit_value (get_or c.args.digits.now c.loop-b.b-index 0))
with_digit c =
    less (checked c.in_ok-checked_mul.ensures (times_by c.loop-b.invariant.1 (unsigned_back c.from.ensures (omega arith))))
    (unsigned_back (c.from-in-loop-b.ensures ∙ ap pos c.digit_value.ensures) (omega (arith, c.digit_value.ensures)))

pub returns-in_err-sum : goal.returns-in_err-sum
returns-in_err-sum c =
    let v = c.loop-b.invariant in
    c.from_residual-in_err-sum.ensures
    ∙ beyond_neg _ (beyond _ c.requires v.0 _ _ _ _ c.loop-b-test.true v.2 (out_of (with_digit (goal.at.returns-in_err-sum c).After-checked_sub) c.in_err-sum.ensures))

pub loop-b-preserved : goal.loop-b-preserved
loop-b-preserved c =
    let v = c.loop-b.invariant in (
      _,
      checked c.in_ok-sum.ensures (with_digit (goal.at.loop-b-preserved c).After-checked_sub),
      sym (one_more_lem _ v.0 _ _ c.loop-b-test.true) ∙ v.2,
    )

pub returns : goal.returns
returns c =
    let v = c.loop-b.invariant in
    held_neg v.1 (within v.1 (search rules))
    ∙ ap (λ (n : ℕ). held (neg_ℤ (pos n))) (sym (no_more _ v.0 _ _ c.loop-b-test.false) ∙ v.2)
