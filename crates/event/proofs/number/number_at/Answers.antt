use Rattle.std.proofs.Common.{◌≡◌, ℕ, ◌+◌, ◌-◌, ◌<◌, List, length, get_or, take, drop, ◌∙◌, rules, arith, add-one, length-take, get_or-take, get_or-drop}
use Rattle.event.specs.Number.{number_at}
use Rattle.event.proofs.NumberLaws.{number_grows}
use Rattle.event.proofs.number.number_at.Goals as goal

-- a byte of the number is one of the whole bytes
byte_is : (s : List ℕ) (i w k : ℕ) → k < length (take (i + w - i) (drop i s)) → get_or (take (i + w - i) (drop i s)) k 0 ≡ get_or s (i + k) 0
byte_is s i w k h = get_or-take (i + w - i) (drop i s) k 0 (omega (arith, length-take (i + w - i) (drop i s))) ∙ get_or-drop i s k 0

pub loop-byte-init : goal.loop-byte-init
unfolding number_at
loop-byte-init c = search rules

pub overflow_mul-n : goal.overflow_mul-n
overflow_mul-n c =
    let l = length-take (c.args.at + c.args.width - c.args.at) (drop c.args.at c.args.events.now) in
    omega (arith, number_grows c.args.events.now (λ i. omega (arith, c.type_inv.events i)) c.args.at c.loop-byte.byte-index (omega arith))

pub overflow_add-n : goal.overflow_add-n
overflow_add-n c =
    let l = length-take (c.args.at + c.args.width - c.args.at) (drop c.args.at c.args.events.now) in
    let small : c.from.result < 256 = search rules in
    omega (arith, number_grows c.args.events.now (λ i. omega (arith, c.type_inv.events i)) c.args.at c.loop-byte.byte-index (omega arith))

pub loop-byte-preserved : goal.loop-byte-preserved
unfolding number_at
loop-byte-preserved c =
    rw (add-one, c.loop-byte.invariant, c.from.ensures ∙ byte_is c.args.events.now c.args.at c.args.width c.loop-byte.byte-index c.loop-byte-test.true)
