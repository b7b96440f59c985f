use Rattle.std.proofs.Common.{◌≡◌, ◌-◌, ◌+◌, ◌∙◌, sym, arith}
use Rattle.node.specs.Search.{earlier}
use Rattle.node.proofs.Steps.{pairs_on, pairs_done}
use Rattle.node.proofs.search.search_back.Goals as goal
use Rattle.node.proofs.search.search_back.Goals.{Joined-key_is, then-key_is, else-key_is, then-i-count+in_ok-at, else-i-count}

-- what was found up to this pair
found_here : (c : Joined-key_is) → earlier c.args.records.now c.args.events.now c.args.key.now c.in_ok-pair.pair.key c.loop-i.at c.loop-i.found ≡ c.if-key_is.found
found_here c =
    elim c.if-key_is.branch [
      | then-key_is w ↦ rw (← c.key_is.ensures, w.if-key_is.true) (sym w.found-is)
      | else-key_is w ↦ rw (← c.key_is.ensures, w.if-key_is.false) (sym w.found-is)
    ]

pub loop-i-preserved : goal.loop-i-preserved
loop-i-preserved c =
    let b = c.args.records.now in
    let y = c.in_ok-pair.pair in
    let n : c.args.count + 1 - (c.loop-i.i + 1) ≡ c.args.count + 1 - c.loop-i.i - 1 = omega arith in
    let q = found_here (goal.at.loop-i-preserved c).Joined-key_is in
    elim c.if-i-count.branch [
      | then-i-count+in_ok-at w ↦
          rw (n, w.at-is)
          (sym (pairs_on b c.args.events.now c.args.key.now (c.args.count + 1 - c.loop-i.i) c.loop-i.at w.in_ok-at.at c.loop-i.found c.if-key_is.found y (omega arith) (sym c.in_ok-pair.ensures) (sym w.in_ok-at.ensures) q)
          ∙ c.loop-i.invariant)
      | else-i-count w ↦ absurd (omega arith)
    ]

pub returns-after-i-count : goal.returns-after-i-count
returns-after-i-count c =
    let b = c.args.records.now in
    let y = c.in_ok-pair.pair in
    let last : c.args.count + 1 - c.loop-i.i ≡ 1 = omega arith in
    let q = found_here (goal.at.returns-after-i-count c).Joined-key_is in
    sym (pairs_done b c.args.events.now c.args.key.now (c.args.count + 1 - c.loop-i.i) c.loop-i.at c.loop-i.found c.if-key_is.found y last (sym c.in_ok-pair.ensures) q)
    ∙ c.loop-i.invariant
