-- `text::offset::next_boundary` meets its contract: the search stops at the byte that continues no character, or at the end.
use Rattle.std.proofs.Common.{◌≡◌, ◌∙◌, sym, ap, List, ℕ, ◌+◌, ◌-◌, ◌<◌, true, false, arith, length, take, drop, get_or, get_or-take, get_or-drop}
use Rattle.std.proofs.Math.ListN.{get_or-eq_default}
use Rattle.std.proofs.lemmas.Grind.{common_steps}
use Rattle.utf8.specs.Class.{is_continuation}
use Rattle.text.specs.Starts.{starts}
use Rattle.text.proofs.Starts.{all_go_on}
use Rattle.text.proofs.offset.next_boundary.Goals as goal

-- a byte of the part that is searched
at_part : (s : List ℕ) (i k : ℕ) → k < length s - i → get_or (take (length s - i) (drop i s)) k 0 ≡ get_or s (i + k) 0
at_part s i k h = get_or-take (length s - i) (drop i s) k 0 h ∙ get_or-drop i s k 0

pub returns-in-Some : goal.returns-in-Some
returns-in-Some c =
    let s = c.args.s.now in
    let i = c.args.i in
    let n = c.in-Some.more in
    let within : i + n < length s = grind (arith, common_steps) in
    let found : is_continuation (get_or (take (length s - i) (drop i s)) n 0) ≡ false = grind (arith, common_steps) in
    let all : (k : ℕ) → k < n → is_continuation (get_or (take (length s - i) (drop i s)) k 0) ≡ true = (λ k h. grind (arith, common_steps)) in (
      record { within = omega arith; edge = ap is_continuation (sym (at_part s i n (omega arith))) ∙ found },
      all_go_on s i n (omega arith) (λ k h. ap is_continuation (sym (at_part s i k (omega arith))) ∙ all k h),
    )

pub returns-in-None : goal.returns-in-None
returns-in-None c =
    let s = c.args.s.now in
    let i = c.args.i in
    let n = length s - i in
    let all : (k : ℕ) → k < n → is_continuation (get_or (take (length s - i) (drop i s)) k 0) ≡ true = (λ k h. grind (arith, common_steps)) in
    let r = c.requires in
    let e : i + n ≡ length s = omega arith in (
      record { within = omega arith; edge = ap is_continuation (get_or-eq_default s 0 {n = length s} (omega arith)) },
      ap (λ (k : ℕ). starts (take k s)) (sym e) ∙ all_go_on s i n (omega arith) (λ k h. ap is_continuation (sym (at_part s i k h)) ∙ all k h),
    )
