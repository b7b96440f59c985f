use Rattle.std.proofs.Common.{◌≡◌, sym, true, List, ℕ, ◌+◌, ◌-◌, ◌<◌, arith}
use Rattle.utf8.specs.Characters.{is_utf8}
use Rattle.utf8.proofs.Utf8Laws.{utf8_sound}
use Rattle.text.specs.Offset.{Stands}
use Rattle.text.proofs.OffsetLaws.{StepsBack, stands_boundary, stands_previous, stands_cursor}
use Rattle.text.proofs.offset.Standing.backward.Goals as goal

-- what a step back comes to, as far from the target as there are turns left
step : {s : List ℕ} (target chars counter : ℕ) {offset : ℕ} → is_utf8 s ≡ true → Stands s (target + (chars - counter)) offset → counter < chars
    → StepsBack s (target + (chars - counter)) offset
step {s} target chars counter u h t = stands_previous (utf8_sound s u) h (omega arith)

pub invariant_of-last_start : goal.invariant_of-last_start
invariant_of-last_start c = record { boundary = stands_boundary (utf8_sound _ c.args.self.text.utf8) c.loop.invariant.0 }

pub last_start-offset-requires : goal.last_start-offset-requires
last_start-offset-requires c =
    let back = step c.args.target c.args.self.cursor.chars c.loop.counter c.args.self.text.utf8 c.loop.invariant.0 c.loop-test.true in
    let some = back.some in
    let fits = back.fits in
    omega arith

pub loop-preserved : goal.loop-preserved
loop-preserved c =
    let t = c.loop-test.true in
    let n : c.args.target + (c.args.self.cursor.chars - (c.loop.counter + 1)) ≡ c.args.target + (c.args.self.cursor.chars - c.loop.counter) - 1 = omega arith in
    (rw (n, c.last_start-offset.ensures) (step c.args.target c.args.self.cursor.chars c.loop.counter c.args.self.text.utf8 c.loop.invariant.0 c.loop-test.true).stands, c.loop.invariant.1)

pub returns : goal.returns
returns c =
    let t = c.loop-test.false in
    let n : c.args.target + (c.args.self.cursor.chars - c.loop.counter) ≡ c.args.target = omega arith in
    let h : Stands c.args.self.text.bytes.now c.args.target c.loop.offset = rw (sym n) c.loop.invariant.0 in
    stands_cursor h
