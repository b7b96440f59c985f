-- `tag_info` meets its contract: a tag's span lies within the text, so its numbers fit.
use Rattle.std.proofs.Common.{◌≡◌, true, ℕ, ◌≤◌, List, length, arith}
use Rattle.utf8.specs.Boundary.{Boundary}
use Rattle.utf8.specs.Characters.{is_utf8}
use Rattle.utf8.proofs.Utf8Laws.{utf8_sound}
use Rattle.text.specs.Admission.{text_limit}
use Rattle.tag.specs.Tag.{tag_span}
use Rattle.tag.proofs.TagLaws.{tag_span_within}
use Rattle.tag.specs.declared.property.TagSpan.{TagSpan}
use Rattle.spans.proofs.scalar.tag_info.Goals as goal

span_fits : (text : List ℕ) (i n : ℕ) (p : TagSpan) → is_utf8 text ≡ true → length text ≤ text_limit → Boundary text i
    → p ≡ tag_span text i n → (p.start ≤ text_limit) × (p.end ≤ text_limit)
span_fits text i n p u l on is =
    let w = tag_span_within (utf8_sound text u) on n in
    let order = rw (← is) at w.order in
    let end = rw (← is) at w.end in
    (omega arith, omega arith)

pub overflow_cast-result : goal.overflow_cast-result
overflow_cast-result c =
    let p = c.make_tag_info-span in
    let start = c.args.start in
    let is = rw (c.place.ensures.0, c.place.ensures.1) at p.ensures in
    let w : (p.result.start ≤ text_limit) × (p.result.end ≤ text_limit) =
    span_fits _ _ _ _ start.text.utf8 start.text.within start.boundary is in
    omega (arith, w.0)

pub overflow_cast-result-2 : goal.overflow_cast-result-2
overflow_cast-result-2 c =
    let p = c.make_tag_info-span in
    let start = c.args.start in
    let is = rw (c.place.ensures.0, c.place.ensures.1) at p.ensures in
    let w : (p.result.start ≤ text_limit) × (p.result.end ≤ text_limit) =
    span_fits _ _ _ _ start.text.utf8 start.text.within start.boundary is in
    omega (arith, w.1)
