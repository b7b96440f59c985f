-- `tag::property::find_tag_span` meets its contract: the property's span lies within the text, and its part is handed back.
use Rattle.std.proofs.Common.{◌≡◌, ap, List, ℕ, arith}
use Rattle.utf8.specs.Utf8.{Utf8}
use Rattle.utf8.specs.Boundary.{Boundary}
use Rattle.utf8.proofs.Utf8Laws.{utf8_sound}
use Rattle.tag.specs.declared.property.TagSpan.{TagSpan}
use Rattle.tag.specs.Tag.{property_span, span_bytes, tag_property}
use Rattle.tag.specs.Proved.{SpanWithin}
use Rattle.tag.proofs.TagLaws.{property_within}
use Rattle.tag.proofs.property.find_tag_span.Goals as goal

inside : {s : List ℕ} {i : ℕ} {p : TagSpan} → Utf8 s → Boundary s i → p ≡ property_span s i → SpanWithin s p
inside u b is = rw is (property_within u b)

pub slice_bounds-result-count : goal.slice_bounds-result-count
slice_bounds-result-count c = let order = (inside (utf8_sound _ c.args.node.text.utf8) c.args.node.boundary c.find_property-found.ensures).order in omega arith

pub slice_bounds-result-start : goal.slice_bounds-result-start
slice_bounds-result-start c = slice_bounds-result-count c

pub slice_bounds-result-end : goal.slice_bounds-result-end
slice_bounds-result-end c =
    let within = inside (utf8_sound _ c.args.node.text.utf8) c.args.node.boundary c.find_property-found.ensures in
    let order = within.order in
    let end = within.end in
    omega arith

pub returns : goal.returns
unfolding tag_property span_bytes
returns c = ap (span_bytes c.args.node.text.bytes.now) c.find_property-found.ensures
