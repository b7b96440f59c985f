use mathlib.Core.Path.{◌≡◌, refl, sym, ap, ◌∙◌}
use mathlib.Core.List.{List}
use mathlib.Core.Logic.{⊎_elim, ◌⊎◌}
use Prim.Native.Nat.{ℕ, ◌+◌, ◌≤◌, ◌<◌}
use native.Mathlib.Omega.{arith}
use lib.ListN.{length}
use Rattle.std.specs.Prelude.{Some}
use Rattle.provenance.specs.declared.step.Step.{Step}
use Rattle.provenance.specs.declared.write.Written.{Written}
use Rattle.style.specs.Style.{style_number, is_block}
use Rattle.provenance.specs.Grammar.{rules_of, step_at}
use Rattle.provenance.specs.Writing.{written_len}
use Rattle.provenance.specs.LetterLaws.{letters-steps}
use Rattle.provenance.specs.Escape.{escapes_reach}
use Rattle.provenance.specs.EscapeLaws.{style_fair}
use Rattle.provenance.specs.StepLaws.{Fair, grammar_fair}
use Rattle.provenance.proofs.Steps.{Clear, tells, run_small, clear_after, clear_on}
use Rattle.provenance.proofs.Turn.{Going, begins, on_verbatim, on_letters, on_replacement}
use Rattle.provenance.proofs.Walks.{Ended, ends_stuck, ended}
use Rattle.provenance.proofs.step.Walk.walk_scalar_provenance.Goals as goal
use Rattle.provenance.proofs.step.Walk.walk_scalar_provenance.Goals.{After-known_after-known, After-put_open-n, After-put_replacement-written, In-Replacement, In-Verbatim}

-- ---- what is known in a turn
-- the steps of the grammar are fair
fair_here : (style column : ℕ) (src value : List ℕ) → Fair escapes_reach (step_at (rules_of style column) src value) (length src) (length value)
fair_here style column src value = grammar_fair (rules_of style column) (style_fair style) src value

-- after the run was looked at
clear_here : (c : After-known_after-known) → Clear c.args.self.src.now c.loop-v.s c.known_after-known.result
clear_here c =
    let a = c.args in
    let w = c.loop-v in
    clear_after (is_block (style_number a.self.style)) a.self.src.now a.self.value.now w.s w.v w.known w.invariant.clear c.break_run-run.result c.break_run-run.ensures _ c.known_after-known.ensures

-- the step is verbatim
verbatim_bounds : (c : In-Verbatim)
    → (0 < c.in-Verbatim.k) × (c.loop-v.s + c.in-Verbatim.k ≤ length c.args.self.src.now) × (c.loop-v.v + c.in-Verbatim.k ≤ length c.args.self.value.now)
verbatim_bounds c =
    let a = c.args in
    (fair_here (style_number a.self.style) a.self.column a.self.src.now a.self.value.now).same c.loop-v.s c.loop-v.v c.in-Verbatim.k c.loop-v-test.true (sym c.step_at.ensures ∙ c.in-Some.is ∙ ap (λ (t : Step). Some t) c.in-Verbatim.is)

-- the step is a replacement
replacement_bounds : (c : In-Replacement)
    → (c.loop-v.v + c.in-Replacement.b ≤ length c.args.self.value.now + 2)
    × (((0 < c.in-Replacement.a) × (c.loop-v.s < length c.args.self.src.now) × (c.loop-v.s + c.in-Replacement.a ≤ length c.args.self.src.now + 4))
    ⊎ ((c.in-Replacement.a ≡ 0) × (c.loop-v.v + c.in-Replacement.b ≡ length c.args.self.value.now)))
replacement_bounds c =
    let a = c.args in
    (fair_here (style_number a.self.style) a.self.column a.self.src.now a.self.value.now).other c.loop-v.s c.loop-v.v c.in-Replacement.a c.in-Replacement.b c.loop-v-test.true (sym c.step_at.ensures ∙ c.in-Some.is ∙ ap (λ (t : Step). Some t) c.in-Replacement.is)

-- and was written
replaced : (c : After-put_replacement-written)
    → Going escapes_reach (step_at (rules_of (style_number c.args.self.style) c.args.self.column) c.args.self.src.now c.args.self.value.now) (length c.args.self.src.now) (length c.args.self.value.now) c.args.base (length c.args.pieces.now) c.put_replacement-written.new.pieces
    (c.loop-v.s + c.in-Replacement.a) (c.loop-v.v + c.in-Replacement.b) c.put_replacement-written.result.from c.put_replacement-written.result.count
replaced c =
    let a = c.args in
    let w = c.loop-v in
    let p = c.put_replacement-written in
    rw p.ensures.value
    (on_replacement _ _ _ _ _ _ (fair_here (style_number a.self.style) a.self.column a.self.src.now a.self.value.now) _ w.s w.v w.written.from w.written.count w.invariant.going c.loop-v-test.true _ _ (sym c.step_at.ensures ∙ c.in-Some.is ∙ ap (λ (t : Step). Some t) c.in-Replacement.is) _ p.new.pieces refl (rw w.invariant.same_base at p.ensures.pieces_after))

-- the value's end, with the last verbatim bytes written
ended_here : (c : After-put_open-n)
    → Ended (rules_of (style_number c.args.self.style) c.args.self.column) (style_fair (style_number c.args.self.style)) c.args.self.src.now c.args.self.value.now c.args.base
    (length c.args.pieces.now) _ c.loop-v.s c.loop-v.v c.loop-v.written.from c.loop-v.written.count c.loop-v.invariant.going c.loop-v-test.false c.put_open-n.result c.put_open-n.new.pieces
ended_here c =
    let w = c.loop-v in
    let o = c.put_open-n in
    ended _ _ _ _ _ _ _ _ _ _ _ w.invariant.going c.loop-v-test.false _ w.invariant.same_base _ _ o.ensures.value o.ensures.pieces_after o.auto.pieces

-- ---- the goals
pub loop-v-init : goal.loop-v-init
loop-v-init c = record { going = begins _ _ _ _ _ _ _ refl c.requires.pieces_zero; clear = λ i h k. absurd (omega arith); same_base = refl }

pub known_after-known-requires : goal.known_after-known-requires
known_after-known-requires c =
    let a = c.args in
    let w = c.loop-v in
    let g = w.invariant.going.in_source in
    let small = run_small (is_block (style_number a.self.style)) a.self.src.now a.self.value.now w.s w.v w.known w.invariant.clear c.break_run-run.result c.break_run-run.ensures in
    (omega arith, omega arith)

pub step_at-requires : goal.step_at-requires
step_at-requires c =
    let a = c.args in
    let w = c.loop-v in
    record { v_in_bounds = c.loop-v-test.true; tells = tells (is_block (style_number a.self.style)) a.self.src.now a.self.value.now w.s w.v w.known w.invariant.clear c.break_run-run.result c.break_run-run.ensures }

pub overflow_add-s : goal.overflow_add-s
overflow_add-s c = let b = verbatim_bounds (goal.at.overflow_add-s c).In-Verbatim in omega arith

pub overflow_add-v : goal.overflow_add-v
overflow_add-v c = let b = verbatim_bounds (goal.at.overflow_add-v c).In-Verbatim in omega arith

pub letters-more-requires : goal.letters-more-requires
letters-more-requires c = let b = verbatim_bounds (goal.at.letters-more-requires c).In-Verbatim in (omega arith, omega arith)

pub loop-v-smaller-in-Verbatim : goal.loop-v-smaller-in-Verbatim
loop-v-smaller-in-Verbatim c = let b = verbatim_bounds (goal.at.loop-v-smaller-in-Verbatim c).In-Verbatim in let l = c.letters-more.ensures in let in_source = l.in_source in let in_value = l.in_value in omega arith

pub loop-v-preserved-in-Verbatim : goal.loop-v-preserved-in-Verbatim
loop-v-preserved-in-Verbatim c =
    let a = c.args in
    let style = style_number a.self.style in
    let w = c.loop-v in
    let k = c.in-Verbatim.k in
    let l = c.letters-more.ensures in
    let fair = fair_here style a.self.column a.self.src.now a.self.value.now in
    let g = on_verbatim _ _ _ _ _ _ fair _ w.s w.v w.written.from w.written.count w.invariant.going c.loop-v-test.true k (sym c.step_at.ensures ∙ c.in-Some.is ∙ ap (λ (t : Step). Some t) c.in-Verbatim.is) in record {
      going =
          on_letters _ _ _ _ _ _ fair _ (w.s + k) (w.v + k) w.written.from w.written.count c.letters-more.result g l.in_value
          (letters-steps style a.self.column a.self.src.now a.self.value.now (w.s + k) (w.v + k) c.letters-more.result l.letters);
      clear = clear_on a.self.src.now w.s (w.s + k + c.letters-more.result) c.known_after-known.result (omega arith) (clear_here (goal.at.loop-v-preserved-in-Verbatim c).After-known_after-known);
      same_base = w.invariant.same_base;
    }

pub put_replacement-written-requires : goal.put_replacement-written-requires
put_replacement-written-requires c =
    let source = c.requires.short.0 in
    let value = c.requires.short.1 in
    let g = c.loop-v.invariant.going in
    let same_base = c.loop-v.invariant.same_base in
    let in_source = g.in_source in
    let in_run = g.in_run in
    let few = g.fewer c.loop-v-test.true in
    let b = replacement_bounds (goal.at.put_replacement-written-requires c).In-Replacement in
    (omega arith, omega arith, omega arith, ⊎_elim (λ z. omega arith) (λ z. omega arith) b.1, omega arith)

pub overflow_add-v-in-Replacement : goal.overflow_add-v-in-Replacement
overflow_add-v-in-Replacement c = let limit = c.requires.short.1 in let i = (replaced (goal.at.overflow_add-v-in-Replacement c).After-put_replacement-written).in_value in omega arith

pub loop-v-smaller : goal.loop-v-smaller
loop-v-smaller c =
    let more = c.loop-v-test.true in
    ⊎_elim (λ z. omega arith) (λ z. omega arith) (replacement_bounds (goal.at.loop-v-smaller c).In-Replacement).1

pub loop-v-preserved : goal.loop-v-preserved
loop-v-preserved c =
    let w = c.loop-v in
    record {
      going = replaced (goal.at.loop-v-preserved c).After-put_replacement-written;
      clear = clear_on c.args.self.src.now w.s (w.s + c.in-Replacement.a) c.known_after-known.result (omega arith) (clear_here (goal.at.loop-v-preserved c).After-known_after-known);
      same_base = ap (λ (x : Written). x.base) c.put_replacement-written.ensures.value ∙ w.invariant.same_base;
    }

pub returns-in_default : goal.returns-in_default
returns-in_default c =
    let a = c.args in
    let style = style_number a.self.style in
    let w = c.loop-v in
    let g = w.invariant.going in
    let e = ends_stuck (rules_of style a.self.column) (style_fair style) a.self.src.now a.self.value.now a.base (length a.pieces.now) _ w.s w.v w.written.from w.written.count g
    c.loop-v-test.true (sym c.step_at.ensures ∙ c.in_default.is)
    _ _ (ap (λ (j : ℕ). written_len w.written.count j) g.held.size) c.clear_pieces.ensures in
    record { value = e.0; pieces_after = e.1 }

pub returns-then-room-n : goal.returns-then-room-n
returns-then-room-n c =
    let most = c.room.ensures in
    let over = c.if-room-n.true in
    let e = (ended_here (goal.at.returns-then-room-n c).After-put_open-n).full (omega arith) _ c.clear_pieces-then-room-n.ensures in
    record { value = e.0; pieces_after = e.1 }

pub returns : goal.returns
returns c =
    let most = c.room.ensures in
    let in_room = c.if-room-n.false in
    let e = (ended_here (goal.at.returns c).After-put_open-n).listed (omega arith) in
    record { value = e.0; pieces_after = e.1 }
