-- A scalar's span by the accessors: its record is the one at its number, so they tell what it says.
use mathlib.Core.Path.{◌≡◌, refl, ap, ◌∙◌}
use mathlib.Core.List.{List, [], ◌∷◌}
use Prim.Native.Nat.{ℕ, zero, suc}
use native.Mathlib.Omega.{arith}
use borrow.Author.Tests.{le-leb}
use lib.ListN.{drop}
use Rattle.std.specs.Prelude.{true, Option, Some, slice_get, option_map}
use Rattle.schema.specs.Record.{kind_number}
use Rattle.event.specs.Encode.{Tag, YamlEvent}
use Rattle.records.specs.Layout.{laid_nodes}
use Rattle.records.specs.declared.record.Node.{Node}
use Rattle.spans.specs.Scalar.{Mark}
use Rattle.parser.specs.Demand.{resolved_as, ScalarListed}
use Rattle.parser.specs.EventRun.{completed_by}
use Rattle.node.specs.Chain.{◌>>=◌}
use Rattle.node.specs.Record.{is_kind, existing, record_at}
use Rattle.node.specs.RecordLaws.{record_laid}
use Rattle.node.specs.Source.{span_at, is_measured_at}
use Rattle.node.specs.ScalarSpan.{EveryScalarSpan, EveryScalarFlag}
use Rattle.node.proofs.GrowthLaws.{kind_bounds}

member_after : (xs : List Node) (n : ℕ) (x : Node) (later : List Node) → drop n xs ≡ x ∷ later → slice_get xs n ≡ Some x
member_after [] zero x later e = cc
member_after [] (suc n) x later e = cc
member_after (y ∷ xs) zero x later e = let h : y ≡ x = cc in ap Some h
member_after (y ∷ xs) (suc n) x later e = member_after xs n x later e

module _ {text events : List ℕ} {room piece_room : ℕ} {before : List YamlEvent} {m : Mark} {tag : Tag} {value : List ℕ} {xs : List Node} {p : List ℕ}
    (size : ℕ) (l : ScalarListed text events room piece_room before m tag value xs p) where
  kind_known : is_kind l.node.kind ≡ true
  kind_known =
      let k = kind_number (resolved_as tag value m.style) in
      let bounds = kind_bounds (resolved_as tag value m.style) in
      rw (l.entry.kind, le-leb 1 k bounds.0, le-leb k 8 (omega arith)) refl

  read_record_is : record_at (laid_nodes size xs) (completed_by before) ≡ Some l.node
  unfolding existing
  read_record_is =
      record_laid size xs (completed_by before)
      ∙ ap (λ (o : Option Node). o >>= existing) (member_after xs (completed_by before) l.node l.later l.place)
      ∙ rw kind_known refl

pub span_read : EveryScalarSpan
unfolding span_at
span_read text events size pieces_size xs ps lists before after m tag value split =
    let l = lists.each before after m tag value split in
    (l.node.extent, ap (option_map (λ (y : Node). y.extent)) (read_record_is size l), l.entry.span)

pub flag_read : EveryScalarFlag
unfolding is_measured_at
flag_read text events size pieces_size xs ps lists before after m tag value split =
    let l = lists.each before after m tag value split in
    (l.node.measured, ap (option_map (λ (y : Node). y.measured)) (read_record_is size l), l.entry.measured)
