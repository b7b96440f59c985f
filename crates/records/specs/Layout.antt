-- Where nodes and pieces stand in the two buffers (E2, E3, E4): one after the other from the front, and zeros past them.
use Rattle.std.specs.Prelude.{ℕ, ◌+◌, ◌*◌, ◌/◌, min, List, set, drop}
use Rattle.std.proofs.lemmas.List.Edits.{sets}
use Rattle.records.specs.Record.{record_width, node_numbers, node_of, at_parent}
use Rattle.provenance.specs.Layout.{laid_by, piece_width}
use Rattle.records.specs.declared.record.Node.{Node}

abbrev pub laid_nodes : ℕ → List Node → List ℕ
laid_nodes = laid_by record_width node_numbers

-- a buffer after the record of x, number n, was put in it
unfoldable pub stored : List ℕ → ℕ → Node → List ℕ
stored b n x = sets b (record_width * n) (node_numbers x)

-- a buffer after p was put in it as the parent of record n
unfoldable pub parent_stored : List ℕ → ℕ → ℕ → List ℕ
parent_stored b n p = set b (record_width * n + at_parent) p

-- the node whose record is number n
abbrev pub node_at : List ℕ → ℕ → Node
node_at b n = node_of (drop (record_width * n) b)

-- ---- what fits

-- whole records in a buffer of `size` numbers (R7)
abbrev pub record_room : ℕ → ℕ
record_room size = size / record_width

-- more pieces than this are refused, however long the buffer is (R8)
abbrev pub piece_limit : ℕ
piece_limit = 4_294_967_294

-- so many numbers of their buffer are used
abbrev pub pieces_limit : ℕ
pieces_limit = piece_width * piece_limit

abbrev pub piece_room : ℕ → ℕ
piece_room size = min (size / piece_width) piece_limit
