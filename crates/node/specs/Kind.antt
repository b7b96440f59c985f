-- Kinds and counts (N3). A missing record answers none, to a test of its kind too.
use Rattle.std.specs.Prelude.{ℕ, ◌*◌, Bool, cond, if◌then◌else◌, List, ltb, eqb, Option, Some, None, option_map}
use Rattle.records.specs.declared.record.Node.{Node}
use Rattle.node.specs.Chain.{◌>>=◌}
use Rattle.node.specs.Record.{record_at}

-- ---- of a node

abbrev pub is_scalar : Node → Bool
is_scalar x = ltb x.kind 7

abbrev pub is_array : Node → Bool
is_array x = eqb x.kind 7

abbrev pub is_hash : Node → Bool
is_hash x = eqb x.kind 8

-- the items of an array, the pairs of a hash, as the record says
abbrev pub len : Node → ℕ
len x = cond (is_scalar x) 0 x.payload.first

-- its children: items, or keys and values
abbrev pub children : Node → ℕ
children x = cond (is_scalar x) 0 (cond (is_hash x) (2 * x.payload.first) x.payload.first)

-- ---- of a record

unfoldable pub is_scalar_at : List ℕ → ℕ → Option Bool
is_scalar_at b n = option_map is_scalar (record_at b n)

unfoldable pub is_array_at : List ℕ → ℕ → Option Bool
is_array_at b n = option_map is_array (record_at b n)

unfoldable pub is_hash_at : List ℕ → ℕ → Option Bool
is_hash_at b n = option_map is_hash (record_at b n)

-- the items or pairs of a collection of this kind
abbrev pub members_at : List ℕ → ℕ → ℕ → Option ℕ
members_at b n kind = do
  x ← record_at b n
  if eqb x.kind kind then Some x.payload.first else None

unfoldable pub len_at : List ℕ → ℕ → Option ℕ
len_at b n = option_map len (record_at b n)

unfoldable pub is_empty_at : List ℕ → ℕ → Option Bool
is_empty_at b n = option_map (λ (k : ℕ). eqb k 0) (len_at b n)
