-- Open collections, and the record of one that ends (E2, N2, S2, S3).
use Rattle.std.specs.Prelude.{ℕ, ◌+◌, ◌-◌, ◌/◌, ◌%◌, Bool, true, false, ◌&&◌, not, cond, List, [], ◌∷◌, eqb, get_or, Some, unwrap_or}
use Rattle.std.specs.Option.{option_or}
use Rattle.schema.specs.Record.{two_numbers}
use Rattle.records.specs.Record.{absent, extent, no_list}
use Rattle.spans.specs.Scalar.{step_past, tag_info}
use Rattle.records.specs.declared.record.Node.{Node}
use Rattle.spans.specs.declared.open.Collection.{Collection}
use Rattle.spans.specs.declared.open.Collection.TheVariants.{Sequence, Mapping}
use Rattle.spans.specs.declared.open.Open.{Open}

abbrev pub is_mapping : Collection → Bool
is_mapping Sequence = false
is_mapping Mapping = true

-- ---- children

-- the innermost open collection has a child more, which starts at byte i; an array's items and a hash's keys and values alike (N2)
abbrev pub with_child : ℕ → List Open → List Open
with_child i [] = []
with_child i (o ∷ os) = record o { children = o.children + 1; first = option_or o.first (Some i) } ∷ os

-- whether an end of this kind ends the collection: it is of that kind, and no key is without its value (R4)
unfoldable pub closes : Collection → Open → Bool
closes Sequence o = not (is_mapping o.collection)
closes Mapping o = is_mapping o.collection && eqb (o.children % 2) 0

-- ---- span

-- the marks that a flow collection stands between
abbrev pub open_brace : ℕ
open_brace = 0x7b

abbrev pub close_brace : ℕ
close_brace = 0x7d

abbrev pub close_bracket : ℕ
close_bracket = 0x5d

abbrev pub closing_mark : Collection → ℕ
closing_mark Sequence = close_bracket
closing_mark Mapping = close_brace

-- where the end's marker stands at byte i: plus 1 on the closing bracket (S2)
unfoldable pub collection_end : List ℕ → Collection → ℕ → ℕ
collection_end text collection i = step_past text (closing_mark collection) i

-- a mapping not standing on `{` starts at its first key, if it has one (S3)
unfoldable pub collection_start : List ℕ → Open → ℕ
collection_start text o =
    cond (is_mapping o.collection && not (eqb (get_or text o.start 0) open_brace)) (unwrap_or o.first o.start) o.start

-- ---- record

-- the kinds of a sequence and a mapping
abbrev pub array : ℕ
array = 7

abbrev pub hash : ℕ
hash = 8

abbrev pub collection_kind : Collection → ℕ
collection_kind Sequence = array
collection_kind Mapping = hash

-- children of an array, pairs of a hash
unfoldable pub members : Open → ℕ
members o = cond (is_mapping o.collection) (o.children / 2) o.children

-- the record of a collection that starts at byte s and ends at byte e, after n nodes; a negative length is 0 (S3), and its span counts as
-- measured (02, (c)); no parent yet
unfoldable pub collection_over : List ℕ → Open → ℕ → ℕ → ℕ → Node
collection_over text o s e n =
    record {
      kind = collection_kind o.collection;
      extent = extent s (s + (e - s));
      tag = tag_info text s o.suffix;
      subtree = n - o.before + 1;
      list = no_list;
      payload = two_numbers (members o) 0;
      parent = absent;
      measured = 1;
    }

-- of one whose end's marker stands at byte i
unfoldable pub collection_node : List ℕ → Open → ℕ → ℕ → Node
collection_node text o i n = collection_over text o (collection_start text o) (collection_end text o.collection i) n
