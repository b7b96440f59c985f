-- `break_step` meets its contract: the two sides have the lengths that the calls say, and are compared.
use Rattle.std.proofs.Common.{◌≡◌, ◌+◌, ◌-◌, ◌≤◌, arith, length, take, drop, length-drop}
use Rattle.std.specs.Bool.{Decides}
use Rattle.std.proofs.lemmas.Bool.Decides.{Decides-eqb}
use Rattle.std.proofs.lemmas.Slice.Eq.{slice_eq-Decides}
use Rattle.style.specs.Style.{style_number, is_block}
use Rattle.provenance.specs.Run.{white_run, newlines_in, cut, blank_run}
use Rattle.letters.proofs.Chunks.{part_is}
use Rattle.provenance.proofs.Steps.{cut_of, folds_of, cut_inside, folds_inside, pair_same, pair_other}
use Rattle.provenance.proofs.step.Walk.break_step.Goals as goal
use Rattle.provenance.proofs.step.Walk.break_step.Goals.{After-folds-b, After-eq}

-- how many bytes each side has
left_len : (c : After-folds-b) → c.cut_len-a.result ≡ length (cut (is_block (style_number c.args.self.style)) c.args.self.column (white_run (drop c.args.s c.args.self.src.now)))
left_len c = let a = c.args in cut_of (is_block (style_number a.self.style)) a.self.column a.run (drop a.s a.self.src.now) c.cut_len-a.result (rw c.is_block.ensures at c.cut_len-a.ensures) c.requires.run_value

right_len : (c : After-folds-b) → c.folds-b.result ≡ length (take (newlines_in (white_run (drop c.args.s c.args.self.src.now))) (blank_run (drop c.args.v c.args.self.value.now)))
right_len c =
    let a = c.args in
    folds_of a.run (drop a.s a.self.src.now) (drop a.v a.self.value.now) c.folds-b.result (rw (part_is a.self.value.now a.v) at c.folds-b.ensures) c.requires.run_value

-- and that they lie inside
sides : (c : After-folds-b) → (c.args.s + c.cut_len-a.result ≤ length c.args.self.src.now) × (c.args.v + c.folds-b.result ≤ length c.args.self.value.now)
sides c =
    let a = c.args in
    let el = left_len c in
    let er = right_len c in
    let il = cut_inside (is_block (style_number a.self.style)) a.self.column (drop a.s a.self.src.now) in
    let ir = folds_inside (newlines_in (white_run (drop a.s a.self.src.now))) (drop a.v a.self.value.now) in
    let dl = length-drop a.s a.self.src.now in
    let dr = length-drop a.v a.self.value.now in
    (omega arith, omega arith)

-- what comparing them says
compared : (c : After-eq) → Decides c.eq.result (take c.cut_len-a.result (drop c.args.s c.args.self.src.now) ≡ take c.folds-b.result (drop c.args.v c.args.self.value.now))
compared c =
    let a = c.args in
    let ql : a.s + c.cut_len-a.result - a.s ≡ c.cut_len-a.result = omega arith in
    let qr : a.v + c.folds-b.result - a.v ≡ c.folds-b.result = omega arith in
    slice_eq-Decides Decides-eqb _ _ _ (rw (ql, qr) at c.eq.ensures)

pub overflow_add-s : goal.overflow_add-s
overflow_add-s c = let i = sides (goal.at.overflow_add-s c).After-folds-b in omega arith

pub slice_bounds-eq-end : goal.slice_bounds-eq-end
slice_bounds-eq-end c = let i = sides (goal.at.slice_bounds-eq-end c).After-folds-b in omega arith

pub overflow_add-v : goal.overflow_add-v
overflow_add-v c = let i = sides (goal.at.overflow_add-v c).After-folds-b in omega arith

pub slice_bounds-eq-end-2 : goal.slice_bounds-eq-end-2
slice_bounds-eq-end-2 c = let i = sides (goal.at.slice_bounds-eq-end-2 c).After-folds-b in omega arith

pub returns-then-eq : goal.returns-then-eq
returns-then-eq c =
    let a = c.args in
    pair_same (is_block (style_number a.self.style)) a.self.column (drop a.s a.self.src.now) (drop a.v a.self.value.now) _ _ (left_len (goal.at.returns-then-eq c).After-folds-b) (right_len (goal.at.returns-then-eq c).After-folds-b)
    ((compared (goal.at.returns-then-eq c).After-eq).0 c.if-eq.true)

pub returns-else-eq : goal.returns-else-eq
returns-else-eq c =
    let a = c.args in
    pair_other (is_block (style_number a.self.style)) a.self.column (drop a.s a.self.src.now) (drop a.v a.self.value.now) _ _ (left_len (goal.at.returns-else-eq c).After-folds-b) (right_len (goal.at.returns-else-eq c).After-folds-b) c.eq.result
    (compared (goal.at.returns-else-eq c).After-eq).1 c.if-eq.false
