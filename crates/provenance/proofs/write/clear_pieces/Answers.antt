-- `clear_pieces` meets its contract: the front that is cleared lies within the buffer.
use Rattle.std.proofs.Common.{◌≡◌, ◌∙◌, ap, ◌++◌, drop, List, ℕ, length, length-take, take, arith, replicate}
use Rattle.provenance.specs.Writing.{cleared_to}
use Rattle.provenance.proofs.Turn.{within_of}
use Rattle.provenance.proofs.write.clear_pieces.Goals as goal

pub slice_bounds-clear-end : goal.slice_bounds-clear-end
slice_bounds-clear-end c = within_of _ _ _ c.written_len-end.ensures

pub slice_bounds-clear-end-2 : goal.slice_bounds-clear-end-2
slice_bounds-clear-end-2 c =
    let h = within_of _ _ _ c.written_len-end.ensures in
    omega (arith, length-take c.written_len-end.result c.args.pieces.now)

pub returns : goal.returns
returns c =
    let h = within_of _ _ _ c.written_len-end.ensures in
    let end = c.written_len-end.result in
    let b = c.args.pieces.now in
    let e : length (take end b) ≡ end = omega (arith, length-take end b) in
    ap (λ (l : List ℕ). l ++ drop end b) (c.clear.ensures ∙ ap (λ (k : ℕ). replicate k 0) e) ∙ ap (λ (k : ℕ). cleared_to k b) c.written_len-end.ensures
