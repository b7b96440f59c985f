-- The pairs of a hash (N2, N3): its children are keys and values in turn, so pair i of k ends with the child 2 · (k − 1 − i) before the last.
-- The entry's span runs from the key's start to the value's end, both as found.
use Rattle.std.specs.Prelude.{ℕ, ◌-◌, ◌*◌, ◌&&◌, if◌then◌else◌, List, ltb, Option, Some, None}
use Rattle.records.specs.Record.{extent}
use Rattle.records.specs.declared.record.Node.{Node}
use Rattle.node.specs.Chain.{◌>>=◌}
use Rattle.node.specs.Record.{record_at}
use Rattle.node.specs.Kind.{is_hash}
use Rattle.node.specs.Child.{child_before, child_from_last}
use Rattle.node.specs.declared.entry.YamlHashEntry.{YamlHashEntry}

-- the pair of the records k and v, which are x and y
abbrev pub entry : ℕ → Node → ℕ → Node → YamlHashEntry
entry k x v y =
    record {
      key = k;
      value = v;
      key_span = x.extent;
      value_span = y.extent;
      entry_span = extent x.extent.start y.extent.end;
    }

-- the pair whose value is record v
unfoldable pub pair_ending : List ℕ → ℕ → Option YamlHashEntry
pair_ending b v = do
  y ← record_at b v
  k ← child_before b v
  x ← record_at b k
  Some (entry k x v y)

unfoldable pub hash_entry : List ℕ → ℕ → ℕ → Option YamlHashEntry
hash_entry b n i = do
  x ← record_at b n
  if is_hash x && ltb i x.payload.first then child_from_last b n (2 * (x.payload.first - 1 - i)) >>= pair_ending b else None
