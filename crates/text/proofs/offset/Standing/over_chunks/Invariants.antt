-- `text::offset::Standing::over_chunks` meets its contract. The loop's invariant: chunks of 32 bytes are still to be cut from what is left
-- from `offset` on, `chars` characters begin before it, and the target is not passed.
use Rattle.std.proofs.Common.{◌≡◌, ◌≤◌, length, take, drop}
use Rattle.std.specs.Slice.Iter.{chunks_exact_rest, chunks_exact_size}
use Rattle.text.specs.Starts.{starts}
use Rattle.text.proofs.offset.Standing.over_chunks.Given as goal

abbrev pub invariant-loop-chunk : goal.invariant-loop-chunk
invariant-loop-chunk l =
    (l.chars ≤ l.target)
    × (l.offset ≤ length l.self.text.bytes.now)
    × (chunks_exact_size l.chunk-iterator ≡ 32)
    × (chunks_exact_rest l.chunk-iterator ≡ drop l.offset l.self.text.bytes.now)
    × (starts (take l.offset l.self.text.bytes.now) ≡ l.chars)
