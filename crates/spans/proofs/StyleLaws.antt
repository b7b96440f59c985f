-- A scalar by any number for its style: a number that no style has goes as the style by which `style_of` takes it.
use Rattle.std.specs.Prelude.{◌≡◌, refl, ℕ, Bool, List, drop, length, Option}
use Rattle.std.proofs.Common.{ap, ◌∙◌, arith}
use Rattle.std.proofs.lemmas.Bool.{ne_eqb}
use Rattle.style.specs.Style.{style_number, style_of}
use Rattle.style.specs.StyleLaws.{as_style}
use Rattle.schema.specs.declared.plain.Resolved.{Resolved}
use Rattle.schema.specs.TagLaws as schema
use Rattle.measure.specs.Styles as measure
use Rattle.provenance.specs.NumberLaws as provenance
use Rattle.provenance.specs.Start.{scalar_list}
use Rattle.provenance.specs.Reading.{Piece}
use Rattle.measure.specs.declared.length.Measure.{Measure}
use Rattle.records.specs.declared.record.TagInfo.{TagInfo}
use Rattle.event.specs.declared.tag.YamlTag.{YamlTag}
use Rattle.records.specs.declared.record.Node.{Node}
use Rattle.provenance.specs.Layout.{answer_of}
use Rattle.provenance.specs.declared.walk.Walked.{Walked}
use Rattle.spans.specs.declared.scalar.ScalarEntry.{ScalarEntry}
use Rattle.spans.specs.Scalar.{ScalarAt, scalar_start, span_measure, span_len, list_at, scalar_over, scalar_node, resolved_by}
use Rattle.spans.specs.Fits.{scalar_entry}

-- the scalar with its style's number in the place of any
abbrev pub as_read : ScalarAt → ScalarAt
as_read x =
    record {
      start = x.start;
      column = x.column;
      style = style_number (style_of x.style);
      empty_span = x.empty_span;
      value = x.value;
      place = x.place;
    }

-- where it starts
pub any_number_starts : (text : List ℕ) (i : ℕ) (value : List ℕ) (n : ℕ) (awaited : Bool)
    → scalar_start text i value n awaited ≡ scalar_start text i value (style_number (style_of n)) awaited
unfolding scalar_start
any_number_starts text i value n awaited =
    as_style (λ k. scalar_start text i value k awaited) (λ k h. rw (ne_eqb k 0 (λ e. absurd (omega arith))) refl) n

-- what it is
pub any_number_resolves : (events value : List ℕ) (n : ℕ) (tag : Option YamlTag)
    → resolved_by events value n tag ≡ resolved_by events value (style_number (style_of n)) tag
unfolding resolved_by
any_number_resolves events value n tag = schema.any_number value n _

-- how long it is
pub any_number_spans : (text : List ℕ) (x : ScalarAt) → span_measure text x ≡ span_measure text (as_read x)
any_number_spans text x = measure.any_number (drop x.start text) x.value x.style x.empty_span x.column

listed : (text : List ℕ) (start len : ℕ) (value : List ℕ) (n column : ℕ)
    → scalar_list text start len value n column ≡ scalar_list text start len value (style_number (style_of n)) column
unfolding scalar_list
listed text start len value n column =
    rw (provenance.any_number n column, provenance.any_number_starts text start len value n) refl

-- its pieces
pub any_number_lists : (text : List ℕ) (x : ScalarAt) → list_at text x ≡ list_at text (as_read x)
any_number_lists text x =
    ap (λ (m : Measure). scalar_list text x.start m.len x.value x.style x.column) (any_number_spans text x)
    ∙ listed text x.start (span_len text (as_read x)) x.value x.style x.column

abbrev entry : Node → Walked → ScalarEntry
entry node walked = record { node = node; walked = walked }

-- its record and what its walk answers
pub any_number : (most : ℕ) (text : List ℕ) (x : ScalarAt) (tag : TagInfo) (r : Resolved)
    → scalar_entry most text x tag r ≡ scalar_entry most text (as_read x) tag r
any_number most text x tag r =
    ap (λ (m : Measure). entry (scalar_over x.start m x.place (length x.value) tag r) (answer_of most (list_at text x))) (any_number_spans text x)
    ∙ ap (λ (l : Option (List Piece)). entry (scalar_node text (as_read x) tag r) (answer_of most l)) (any_number_lists text x)
