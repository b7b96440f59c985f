-- `walk_scalar` meets its contract: the span ends within the text, so its numbers fit; and the walk is that of the scalar's list.
use Rattle.std.proofs.Common.{◌≡◌, ℕ, ◌+◌, ◌≤◌, List, length, refl, sym, ap, ◌∙◌, subst, arith}
use Rattle.provenance.specs.Start.{scalar_list}
use Rattle.measure.specs.declared.length.Measure.{Measure}
use Rattle.schema.specs.declared.plain.Resolved.{Resolved}
use Rattle.provenance.specs.Layout.{answer_of}
use Rattle.provenance.specs.declared.walk.Walked.{Walked}
use Rattle.records.specs.declared.record.TagInfo.{TagInfo}
use Rattle.records.specs.declared.record.Node.{Node}
use Rattle.spans.specs.Scalar.{mark_of, ScalarAt, scalar_from, span_measure, scalar_over, list_at}
use Rattle.spans.specs.Fits.{scalar_entry}
use Rattle.spans.proofs.SpanLaws.{span_within}
use Rattle.spans.proofs.scalar.walk_scalar.Goals as goal
use Rattle.spans.proofs.scalar.walk_scalar.Goals.{After-scalar_len-span}

-- the scalar was measured
module _ (c : After-scalar_len-span) where
  abbrev text_now : List ℕ
  text_now = c.args.start.text.bytes.now

  abbrev scalar_now : ScalarAt
  scalar_now = let a = c.args in scalar_from a.start.at (mark_of a.m) a.value.bytes.now a.place

  measure_is : c.scalar_len-span.result ≡ span_measure text_now scalar_now
  measure_is = rw (c.rest_from-rest.ensures, c.utf8-2.ensures, c.utf8-2-2.ensures) at c.scalar_len-span.ensures

  ends_within : scalar_now.start + c.scalar_len-span.result.len ≤ length text_now
  ends_within =
      let w = span_within text_now scalar_now c.args.start.boundary.within in
      subst (λ (k : Measure). scalar_now.start + k.len ≤ length text_now) (sym measure_is) w

  list_is :
      list_at text_now scalar_now
      ≡ scalar_list text_now scalar_now.start c.scalar_len-span.result.len scalar_now.value scalar_now.style scalar_now.column
  list_is = ap (λ (k : Measure). scalar_list text_now scalar_now.start k.len scalar_now.value scalar_now.style scalar_now.column) (sym measure_is)

pub scalar_node-node-requires : goal.scalar_node-node-requires
scalar_node-node-requires c =
    let w = ends_within (goal.at.scalar_node-node-requires c).After-scalar_len-span in
    let l = c.args.start.text.within in
    (omega arith, c.args.value.within)

pub scalar_provenance-walked-requires-clause-inside : goal.scalar_provenance-walked-requires-clause-inside
scalar_provenance-walked-requires-clause-inside c =
    ends_within (goal.at.scalar_provenance-walked-requires-clause-inside c).After-scalar_len-span

-- record and walk are those of the definitions
entry_is : (most : ℕ) (text : List ℕ) (x : ScalarAt) (tag : TagInfo) (r : Resolved) (k : Measure) (y : Node) (w : Walked)
    → k ≡ span_measure text x → y ≡ scalar_over x.start k x.place (length x.value) tag r
    → w ≡ answer_of most (list_at text x)
    → record { node = y; walked = w } ≡ scalar_entry most text x tag r
entry_is most text x tag r k y w ek ey ew = rw (ey, ew, ek) refl

pub returns-clause-value : goal.returns-clause-value
returns-clause-value c =
    let a = c.args in
    let w = c.scalar_provenance-walked in
    let at = (goal.at.returns-clause-value c).After-scalar_len-span in
    entry_is _ a.start.text.bytes.now (scalar_now at) a.tag a.resolved c.scalar_len-span.result _ w.result (measure_is at)
    c.scalar_node-node.ensures (w.ensures.value ∙ ap (answer_of _) (sym (list_is at)))

pub returns-clause-pieces_after : goal.returns-clause-pieces_after
returns-clause-pieces_after c =
    rw (list_is (goal.at.returns-clause-pieces_after c).After-scalar_len-span) c.scalar_provenance-walked.ensures.pieces_after
