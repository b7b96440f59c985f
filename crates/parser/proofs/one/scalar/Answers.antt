-- `scalar` meets its contract: text and value, then the scalar over the part of the pieces that is used.
use mathlib.Core.Path.{◌≡◌, sym, ap, ◌∙◌}
use Prim.Native.Nat.{ℕ, ◌≤◌, min}
use native.Mathlib.Omega.{arith}
use lib.ListN.{length, take, replicate}
use lib.Seq.{length-take-le}
use Rattle.std.proofs.lemmas.Result.{err_from_is_err_and}
use Rattle.style.specs.StyleLaws.{style_known}
use Rattle.records.specs.Layout.{pieces_limit}
use Rattle.spans.specs.Scalar.{mark}
use Rattle.parser.proofs.Wholes.{zeros_front, style_is, no_style, style_unknown, scalar_refused, scalar_read}
use Rattle.parser.proofs.one.scalar.Goals as goal

pub returns-in_err-text : goal.returns-in_err-text
returns-in_err-text c =
    let a = c.args in
    let p = err_from_is_err_and c.from_residual.result c.from_residual.ensures.1 in
    rw p.1
    (scalar_refused a.text.now (mark a.index a.column a.style a.empty) a.value.now (length a.pieces.now) _ _ _ c.in_err-text.ensures.refused p.2 c.clear.ensures)

pub returns-in_err-style : goal.returns-in_err-style
returns-in_err-style c =
    let a = c.args in
    let p = err_from_is_err_and c.from_residual-in_err-style.result c.from_residual-in_err-style.ensures.1 in
    rw (p.1, p.2)
    (style_unknown a.text.now (mark a.index a.column a.style a.empty) a.value.now (length a.pieces.now) _ c.in_ok-text.ensures.admitted.0
    (no_style a.style (rw c.in_err-style.was at c.try_from.ensures)) _ c.clear.ensures)

pub one_scalar-requires : goal.one_scalar-requires
one_scalar-requires c =
    let size = length c.args.pieces.now in
    let p = c.clear in
    let n = c.usable-n in
    let e = n.ensures in
    let l : n.result ≤ length p.new.buffer = omega arith in
    let part : length (take n.result p.new.buffer) ≡ n.result = length-take-le n.result p.new.buffer l in
    record { style_known = rw c.into.ensures (style_known c.in_ok-style.style); pieces_zero = (zeros_front n.result size p.new.buffer p.ensures l ∙ ap (λ (m : ℕ). replicate m 0) (sym part), omega arith) }

pub returns : goal.returns
returns c =
    let a = c.args in
    let size = length a.pieces.now in
    let p = c.clear in
    let n = c.usable-n in
    let one = c.one_scalar in
    let is_n : n.result ≡ min size pieces_limit = n.ensures ∙ ap (λ (m : ℕ). min m pieces_limit) p.auto.buffer in
    let part : length (take n.result p.new.buffer) ≡ n.result = length-take-le n.result p.new.buffer (let k = p.auto.buffer in omega arith) in
    let told = c.in_ok-text.ensures.admitted in
    scalar_read a.text.now (mark a.index a.column a.style a.empty) a.value.now size _ told.0 n.result is_n one.result one.new.pieces p.new.buffer (one.auto.pieces ∙ part) p.ensures
    (rw (part, told.1, told.2, c.into.ensures, style_is a.style c.in_ok-style.style (rw c.in_ok-style.was at c.try_from.ensures)) at one.ensures)
