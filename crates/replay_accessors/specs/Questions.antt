-- All that is asked about one record, in the oracle's order: itself, its children, keys. Each answer is matched with what follows in the list.
use Rattle.std.specs.Prelude.{ℕ, zero, suc, ◌+◌, ◌-◌, ◌*◌, ◌/◌, false, if◌then◌else◌, min, List, ◌++◌, ltb, length, None, unwrap_or}
use Rattle.node.specs.Record.{record_at}
use Rattle.node.specs.Kind.{is_scalar_at, is_array_at, is_hash_at, len_at, is_empty_at}
use Rattle.node.specs.Source.{span_at, is_measured_at, tag_of, piece_list_at}
use Rattle.node.specs.Child.{last_child, array_item, parent_at}
use Rattle.node.specs.Entry.{hash_entry}
use Rattle.node.specs.Search.{hash_value}
use Rattle.replay.specs.Case.{number, part_of}
use Rattle.replay_accessors.specs.Matched.{Matched, match_all, flag_numbers, count_numbers, span_numbers, tag_numbers, piece_numbers, record_numbers, match_place, match_entry}

-- what kind of node the record is
abbrev pub kind_numbers : List ℕ → ℕ → List ℕ
kind_numbers records n =
    flag_numbers (is_scalar_at records n) ++ (flag_numbers (is_array_at records n) ++ (flag_numbers (is_hash_at records n) ++ (count_numbers (len_at records n) ++ flag_numbers (is_empty_at records n))))

-- where the node stands
abbrev pub source_numbers : List ℕ → ℕ → List ℕ
source_numbers records n = span_numbers (span_at records n) ++ (tag_numbers (tag_of records n) ++ piece_numbers (piece_list_at records n))

-- its last child, and what it says of its parent and of its span
abbrev pub about_family : List ℕ → ℕ → Matched → Matched
about_family records n m =
    match_all (match_place m (last_child records n)) (count_numbers (parent_at records n) ++ count_numbers (is_measured_at records n))

abbrev pub about_itself : List ℕ → ℕ → Matched → Matched
about_itself records n m =
    about_family records n (match_all m (record_numbers (record_at records n) ++ (kind_numbers records n ++ source_numbers records n)))

-- the item and the pair at an index
abbrev pub at_index : List ℕ → ℕ → ℕ → Matched → Matched
at_index records n i m = match_entry (match_place m (array_item records n i)) (hash_entry records n i)

-- those at the last k of `count` indices, from the last one down
unfoldable pub from_last : List ℕ → ℕ → ℕ → Matched → ℕ → Matched
from_last records n count m zero = m
from_last records n count m (suc k) = at_index records n (count - suc k) (from_last records n count m k)

-- the index past the last one, then at most `limit` of the others
abbrev pub down_from : List ℕ → ℕ → ℕ → ℕ → Matched → Matched
down_from records n count limit m = from_last records n count (at_index records n count m) (min count limit)

abbrev pub about_children : List ℕ → ℕ → ℕ → Matched → Matched
about_children records n limit m = down_from records n (unwrap_or (len_at records n) 0) limit m

-- the value of the key whose place and length stand at a place of `keys`
unfoldable pub about_key : List ℕ → List ℕ → ℕ → List ℕ → ℕ → Matched → Matched
about_key records events n keys at m =
    if ltb at (length keys) then match_place m (hash_value records events n (part_of events (number keys at) (number keys (at + 4)))) else None

-- the values of the first k keys
unfoldable pub first_keys : List ℕ → List ℕ → ℕ → List ℕ → Matched → ℕ → Matched
first_keys records events n keys m zero = m
first_keys records events n keys m (suc k) = about_key records events n keys (k * 8) (first_keys records events n keys m k)

-- a key is told in eight bytes
abbrev pub about_keys : List ℕ → List ℕ → ℕ → List ℕ → Matched → Matched
about_keys records events n keys m = first_keys records events n keys m ((length keys + 7) / 8)

-- a record that is no hash is asked for the first key alone
abbrev pub about_hash : List ℕ → List ℕ → ℕ → List ℕ → Matched → Matched
about_hash records events n keys m =
    if unwrap_or (is_hash_at records n) false then about_keys records events n keys m else about_key records events n keys 0 m

unfoldable pub about_record : List ℕ → List ℕ → ℕ → ℕ → List ℕ → Matched → Matched
about_record records events n limit keys m = about_hash records events n keys (about_children records n limit (about_itself records n m))
