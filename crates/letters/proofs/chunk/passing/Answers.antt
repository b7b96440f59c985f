use Rattle.std.proofs.Common.{arith, ℕ, ◌≡◌, ◌+◌, ◌*◌, ◌≤◌, ap}
use Rattle.std.proofs.Math.Nat.{mul-le-mul_left}
use Rattle.letters.proofs.Chunks.{each_more}
use Rattle.letters.proofs.chunk.passing.Goals as goal

pub returns-then-first : goal.returns-then-first
returns-then-first g c =
    let k = c.loop-k.k in
    let n = c.from.ensures in
    let start : k * c.from.result ≡ k * g.row.N = ap (λ (m : ℕ). k * m) n in
    let f = c.from-then-first.ensures in
    let more : k + 1 ≤ c.args.chunks = omega arith in
    let room = mul-le-mul_left g.row.N more in
    record {
      within = omega arith;
      each = each_more _ (k * c.from.result) c.from-then-first.result (λ i h. c.loop-k.invariant i (omega arith)) (λ j h. c.loop-j.invariant.1 j (omega arith) (omega arith));
    }

pub loop-k-preserved : goal.loop-k-preserved
loop-k-preserved g c =
    let k = c.loop-k.k in
    let n = c.from.ensures in
    let start : k * c.from.result ≡ k * g.row.N = ap (λ (m : ℕ). k * m) n in
    λ i h. each_more _ (k * c.from.result) g.row.N (λ i h. c.loop-k.invariant i (omega arith)) (λ j h. c.loop-j.invariant.1 j (omega arith) (omega arith)) i (omega arith)
