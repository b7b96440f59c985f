-- `event_scalar` meets its contract: the value is admitted; start, tag and resolution are those of the definitions.
use Rattle.std.proofs.Common.{refl, ◌∙◌}
use Rattle.utf8.proofs.Utf8Laws.{utf8_complete}
use Rattle.text.specs.Admission.{text_limit}
use Rattle.spans.specs.Scalar.{event_node}
use Rattle.spans.proofs.SpanLaws.{part_few}
use Rattle.spans.proofs.scalar.event_scalar.Goals as goal

pub invariant_of-value : goal.invariant_of-value
invariant_of-value c =
    let fits = c.requires.event_fits in
    record {
      within = rw c.bytes_in.ensures (part_few c.args.events.now c.args.e.value text_limit fits.few);
      utf8 = rw c.bytes_in.ensures (utf8_complete fits.value.utf8);
    }

pub returns-clause-value : goal.returns-clause-value
unfolding event_node
returns-clause-value c =
    let start = c.scalar_start-start.ensures in
    c.walk_scalar.ensures.value
    ∙ rw (c.resolve-resolved.ensures, c.tag_info-tag.ensures, c.suffix_of.ensures, start.same_text, start.value, c.bytes_in.ensures) refl
