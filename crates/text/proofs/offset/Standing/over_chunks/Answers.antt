use Rattle.std.proofs.Common.{◌≡◌, ◌∙◌, sym, ap, subst, List, ℕ, ◌+◌, ◌-◌, ◌++◌, arith, length, take, drop, length-append, length-drop, drop-drop}
use Rattle.std.proofs.Math.Seq.{take_all, take-append_seam, drop-append_seam}
use Rattle.utf8.proofs.Utf8Laws.{utf8_sound}
use Rattle.std.specs.Slice.Iter.{chunks_exact_rest}
use Rattle.text.specs.Offset.{Stands}
use Rattle.text.specs.Starts.{starts}
use Rattle.text.proofs.OffsetLaws.{offset_within, stands_boundary}
use Rattle.text.proofs.Starts.{starts_most, starts_part, stands_starts, starts_stands}
use Rattle.text.proofs.offset.Standing.over_chunks.Goals as goal

-- what is left from a place on
tail : (s : List ℕ) (i : ℕ) → take (length s - i) (drop i s) ≡ drop i s
tail s i = let l = length-drop i s in take_all (length s - i) (drop i s) (omega arith)

pub slice_bounds-chunks_exact-count : goal.slice_bounds-chunks_exact-count
slice_bounds-chunks_exact-count c = rw c.args.self.placed (offset_within (utf8_sound _ c.args.self.text.utf8) c.args.self.cursor.chars)

pub slice_bounds-chunks_exact-start : goal.slice_bounds-chunks_exact-start
slice_bounds-chunks_exact-start c = rw c.args.self.placed (offset_within (utf8_sound _ c.args.self.text.utf8) c.args.self.cursor.chars)

pub loop-chunk-init : goal.loop-chunk-init
loop-chunk-init c =
    let s = c.args.self.text.bytes.now in
    let stands : Stands s c.args.self.cursor.chars c.args.self.cursor.offset = record { counted = c.args.self.counted; placed = c.args.self.placed } in
    let within = (stands_boundary (utf8_sound s c.args.self.text.utf8) stands).within in
    let cut = c.chunks_exact-chunk-items.ensures in
    let same = c.into_iter-chunk-iterator.ensures.into_iter_gives in
    (c.requires, within, rw same cut.size, rw same (cut.rest ∙ tail s c.args.self.cursor.offset), stands_starts (utf8_sound s c.args.self.text.utf8) stands)

pub overflow_add-chars : goal.overflow_add-chars
overflow_add-chars c =
    let e : c.char_starts.result ≡ starts c.in-Some.chunk.now = c.char_starts.ensures in
    let few = starts_most c.in-Some.chunk.now in
    let l = c.in-Some.ensures.steps.1.1 in
    let size = c.loop-chunk.invariant.2 in
    omega arith

pub loop-chunk-preserved : goal.loop-chunk-preserved
loop-chunk-preserved c =
    let s = c.args.self.text.bytes.now in
    let w = c.loop-chunk in
    let next = c.in-Some.ensures.steps in
    let chunk = c.in-Some.chunk.now in
    let e : c.char_starts.result ≡ starts chunk = c.char_starts.ensures in
    let few = starts_most chunk in
    let n : length chunk ≡ 32 = next.1.1 ∙ w.invariant.2 in
    let rest = chunks_exact_rest c.next.new.self in
    let cut : chunk ++ rest ≡ drop w.offset s = sym next.1.0 ∙ w.invariant.3 in
    let front : take 32 (drop w.offset s) ≡ chunk = ap (take 32) (sym cut) ∙ rw (sym n) (take-append_seam chunk rest) in
    let back : rest ≡ drop (w.offset + 32) s = sym (drop-append_seam chunk rest) ∙ rw n (ap (drop 32) cut) ∙ drop-drop 32 w.offset s in
    let long = ap length cut in
    let joined = length-append chunk rest in
    let left = length-drop w.offset s in
    let more = ap starts front in
    let part = starts_part s w.offset 32 in
    let begun = w.invariant.4 in
    let within = w.invariant.1 in
    let most = c.if-target-chars-lt-CHUNK.false in
    (omega arith, omega arith, next.0 ∙ w.invariant.2, back, omega arith)

pub returns : goal.returns
returns c =
    let w = c.loop-chunk in
    let n = c.next_boundary.ensures in
    (subst (λ (k : ℕ). Stands c.args.self.text.bytes.now k c.next_boundary.result) (n.1 ∙ w.invariant.4) (starts_stands (utf8_sound _ c.args.self.text.utf8) n.0), w.invariant.0)
