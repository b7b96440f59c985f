use Rattle.std.proofs.Common.{◌≡◌, ◌<◌, ◌∙◌, sym, ap, refl, ℕ, ◌+◌, List, set, get_or, length, take, drop, arith, append_assoc}
use Rattle.std.proofs.lemmas.List.Edits.{sets-eq, paste_more, paste_all}
use lib.Seq.{paste}
use Rattle.records.proofs.buffer.put.Goals as goal

pub loop-i-preserved : goal.loop-i-preserved
loop-i-preserved c =
    let b = c.args.buffer.now in
    let at = c.args.at in
    let i = c.loop-i.i in
    let inside : at + i < length b = omega arith in
    ap (λ (l : List ℕ). set l (at + i) (get_or c.args.numbers.now i 0)) c.loop-i.invariant ∙ paste_more b at c.args.numbers.now i 0 inside c.loop-i-test.true

pub returns : goal.returns
returns c =
    let b = c.args.buffer.now in
    let at = c.args.at in
    let ns = c.args.numbers.now in
    let all : c.loop-i.i ≡ length ns = omega arith in
    c.loop-i.invariant
    ∙ ap (λ (n : ℕ). paste b at ns n) all
    ∙ paste_all b at ns (length ns) refl
    ∙ sym (sets-eq ns b at (omega arith) ∙ append_assoc (take at b) ns (drop (at + length ns) b))
