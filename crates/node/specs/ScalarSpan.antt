-- A scalar's span by the accessors: of every scalar event of a document that is built, where it lies and whether it was measured (S1, S4; 02, (b), (c),
-- (g)). Proved as `span_read` and `flag_read` (proofs/ScalarSpanLaws.antt); of all other records `flags` of ReadBack.antt says what the flag tells.
use Rattle.std.specs.Prelude.{◌≡◌, ℕ, Bool, List, ◌∷◌, ◌++◌, Option, Some}
use Rattle.provenance.specs.Reading.{Piece}
use Rattle.event.specs.Encode.{Tag, YamlEvent}
use Rattle.spans.specs.Scalar.{Mark}
use Rattle.records.specs.Layout.{laid_nodes}
use Rattle.records.specs.declared.record.Node.{Node}
use Rattle.parser.specs.EventRun.{completed_by, awaited_by}
use Rattle.parser.specs.Demand.{scalar_of, ListsBuilt, SpanSays, FlagSays}
use Rattle.node.specs.Source.{span_at, is_measured_at}

-- of each scalar event the accessor answers what is said of the event. lists: what is shown of a document that is built; the record of the scalar
-- event after the events `before` is number `completed_by before`
abbrev pub OfEachScalar : {A : Type 0} → (List ℕ → ℕ → Option A) → (List ℕ → Bool → Mark → List ℕ → A → Type 0) → Type 0
OfEachScalar {A} accessor Says =
    (text events : List ℕ) (size pieces_size : ℕ) (xs : List Node) (ps : List Piece) (lists : ListsBuilt text events size pieces_size xs ps)
    (before after : List YamlEvent) (m : Mark) (tag : Tag) (value : List ℕ) → lists.list ≡ before ++ (scalar_of m tag value ∷ after) →
    (a : A) × (accessor (laid_nodes size xs) (completed_by before) ≡ Some a)
    × Says text (awaited_by before) m value a

-- where it lies
abbrev pub EveryScalarSpan : Type 0
EveryScalarSpan = OfEachScalar span_at SpanSays

-- whether it was measured: document 02's sentence
abbrev pub EveryScalarFlag : Type 0
EveryScalarFlag = OfEachScalar is_measured_at FlagSays
