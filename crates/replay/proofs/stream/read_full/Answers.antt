use Rattle.std.proofs.Common.{◌≡◌, ℕ, ◌+◌, ◌≤◌, List, ◌++◌, length, take, sym, subst, ap, ◌∙◌, arith, length-take}
use Rattle.std.proofs.KnownBytes.{Consumes-trans}
use Rattle.std.proofs.Math.Seq.{take-append-add}
use Rattle.std.proofs.lemmas.Grind.{common_steps}
use Rattle.std.proofs.lemmas.List.{take-append-le}
use Rattle.std.specs.Io.KnownBytes.{Consumes}
use borrow.Rule.Slice.PartMut.{put_mid, post_of}
use Rattle.replay.proofs.stream.read_full.Goals as goal

-- the first bytes of a buffer, after n more were read behind i of them
take_more : (buffer read : List ℕ) (i k n : ℕ) → i ≤ length buffer → n ≤ length read → take (i + n) (put_mid i k buffer read) ≡ take i buffer ++ take n read
take_more buffer read i k n h m =
    let e : i ≡ length (take i buffer) = simp length-take (omega arith) in
    ap (λ (j : ℕ). take (j + n) (put_mid i k buffer read)) e
    ∙ take-append-add (take i buffer) (read ++ post_of i k buffer) n
    ∙ ap (λ (t : List ℕ). take i buffer ++ t) (take-append-le n read (post_of i k buffer) m)

pub loop-done-preserved : goal.loop-done-preserved
loop-done-preserved g c =
    let more = take_more c.loop-done.buffer c.read.new.buf c.loop-done.done _ c.in-Ok.read c.loop-done.invariant.0 c.in-Ok.ensures.bound.0 in
    (grind (arith, common_steps), subst (Consumes _ _) (sym more) (Consumes-trans _ _ _ _ _ c.loop-done.invariant.1 c.in-Ok.ensures.bytes.0))
