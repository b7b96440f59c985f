-- A node's record: fourteen numbers (E2; the last two 02, (c)). Of all definitions only those of this file know in which order they stand:
-- `node_numbers`, `node_of`, its inverse (`read_laid`), and `at_parent`; of the laws `RecordLaws`, `parent_laid` and `parent_counts`. Everything
-- else goes by the names of the fields and by these laws.
use Rattle.std.specs.Prelude.{ℕ, List, [], ◌∷◌, get_or}
use Rattle.schema.specs.Record.{two_numbers}
use Rattle.records.specs.declared.record.Extent.{Extent}
use Rattle.records.specs.declared.record.TagInfo.{TagInfo}
use Rattle.records.specs.declared.record.PieceList.{PieceList}
use Rattle.records.specs.declared.record.Node.{Node}

-- what stands where there is none: of a tag in all four of its numbers, of a piece list in its first, of a parent in its one
abbrev pub absent : ℕ
absent = 0xffff_ffff

-- how many numbers a record has
abbrev pub record_width : ℕ
record_width = 14

unfoldable pub node_numbers : Node → List ℕ
node_numbers x =
    x.kind
    ∷ x.extent.start ∷ x.extent.end
    ∷ x.tag.start ∷ x.tag.end ∷ x.tag.suffix ∷ x.tag.len
    ∷ x.subtree
    ∷ x.list.first ∷ x.list.count
    ∷ x.payload.first ∷ x.payload.second
    ∷ x.parent
    ∷ x.measured
    ∷ []

abbrev pub extent : ℕ → ℕ → Extent
extent a e = record { start = a; end = e }

-- the node whose numbers come first
unfoldable pub node_of : List ℕ → Node
node_of l =
    record {
      kind = get_or l 0 0;
      extent = extent (get_or l 1 0) (get_or l 2 0);
      tag = record { start = get_or l 3 0; end = get_or l 4 0; suffix = get_or l 5 0; len = get_or l 6 0 };
      subtree = get_or l 7 0;
      list = record { first = get_or l 8 0; count = get_or l 9 0 };
      payload = two_numbers (get_or l 10 0) (get_or l 11 0);
      parent = get_or l 12 0;
      measured = get_or l 13 0;
    }

-- where the parent stands, the one number that is written after its record
abbrev pub at_parent : ℕ
at_parent = 12

abbrev pub no_tag : TagInfo
no_tag = record { start = absent; end = absent; suffix = absent; len = absent }

-- no list, as a collection, an alias and a scalar whose walk fails have it (N1)
abbrev pub no_list : PieceList
no_list = record { first = absent; count = 0 }

abbrev pub piece_list : ℕ → ℕ → PieceList
piece_list i n = record { first = i; count = n }

abbrev pub with_list : Node → ℕ → ℕ → Node
with_list x i n = record x { list = piece_list i n }

abbrev pub with_parent : Node → ℕ → Node
with_parent x p = record x { parent = p }

-- an alias at byte i: a null of length 0 with no list (N1), its span counted as measured (02, (c)); no parent yet
abbrev pub alias_node : ℕ → Node
alias_node i =
    record {
      kind = 1;
      extent = extent i i;
      tag = no_tag;
      subtree = 1;
      list = no_list;
      payload = two_numbers 0 0;
      parent = absent;
      measured = 1;
    }

-- what a refused call on one scalar hands back (RS, RZ)
abbrev pub zero_node : Node
zero_node =
    record {
      kind = 0;
      extent = extent 0 0;
      tag = record { start = 0; end = 0; suffix = 0; len = 0 };
      subtree = 0;
      list = piece_list 0 0;
      payload = two_numbers 0 0;
      parent = 0;
      measured = 0;
    }
