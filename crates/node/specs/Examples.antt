-- Worked cases of the definitions, by computation, over records that are written out.
use Rattle.std.specs.Prelude.{◌≡◌, refl, List, [], ◌∷◌, ◌++◌, ℕ, take, Some, None}
use Rattle.schema.specs.Record.{two_numbers}
use Rattle.records.specs.Record.{node_numbers, node_of, extent, absent, no_tag, no_list}
use Rattle.records.specs.declared.record.Node.{Node}
use Rattle.records.specs.declared.record.TagInfo.{TagInfo}
use Rattle.node.specs.Record.{existing, record_at}
use Rattle.node.specs.Kind.{len_at}
use Rattle.node.specs.Source.{is_absent, tag_of, is_measured_at}
use Rattle.node.specs.Child.{place_at, record_before, last_child, child_before, steps_back, child_from_last, array_item, parent_at}
use Rattle.node.specs.Entry.{pair_ending, hash_entry}
use Rattle.node.specs.Search.{string_is, key_is, search_back, hash_value}
use Rattle.records.specs.Forest.{nil, snoc}
use Rattle.node.specs.Growth.{Effect, scalar, alias, array, hash, opening, closing, leaf, growth, shapes}

-- a record of this kind, span, subtree count, payload and parent, with no tag and no list
abbrev child : ℕ → ℕ → ℕ → ℕ → ℕ → ℕ → ℕ → List ℕ
child kind a e count p q parent =
    node_numbers
    (record {
      kind = kind;
      extent = extent a e;
      tag = no_tag;
      subtree = count;
      list = no_list;
      payload = two_numbers p q;
      parent = parent;
      measured = 1;
    })

-- and with no parent
abbrev row : ℕ → ℕ → ℕ → ℕ → ℕ → ℕ → List ℕ
row kind a e count p q = child kind a e count p q absent

-- `k: [x, y]`, `k: z`, as one hash: both keys are the byte 107 of the event bytes
abbrev events : List ℕ
events = 107 ∷ 120 ∷ 121 ∷ 122 ∷ []

abbrev buffer : List ℕ
buffer =
    child 5 0 1 1 0 1 6 ++ child 5 4 5 1 1 1 3 ++ child 5 7 8 1 2 1 3 ++ child 7 3 9 3 2 0 6
    ++ child 5 10 11 1 0 1 6 ++ child 5 13 14 1 3 1 6 ++ row 8 0 14 7 2 0

abbrev tag_with : ℕ → ℕ → ℕ → ℕ → TagInfo
tag_with a e s n = record { start = a; end = e; suffix = s; len = n }

-- a null with this tag and flag
abbrev null_with_flag : TagInfo → ℕ → List ℕ
null_with_flag t measured =
    node_numbers
    (record {
      kind = 1;
      extent = extent 0 0;
      tag = t;
      subtree = 1;
      list = no_list;
      payload = two_numbers 0 0;
      parent = absent;
      measured = measured;
    })

abbrev null_with : TagInfo → List ℕ
null_with t = null_with_flag t 0

-- of `[a, {b: *c}]`
abbrev small_tree : List Effect
small_tree = opening ∷ leaf scalar ∷ opening ∷ leaf scalar ∷ leaf alias ∷ closing hash ∷ closing array ∷ []

pub record Cases : Type 0 where
  -- the root of seven nodes; its last child; the children before
  pub root : record_before buffer 7 ≡ Some 6
  pub last : last_child buffer 6 ≡ Some 5
  pub before_key : child_before buffer 4 ≡ Some 3
  pub before_array : child_before buffer 3 ≡ Some 0
  pub before_none : child_before buffer 0 ≡ None
  -- items and pairs by index; a hash has no items, an array no pairs
  pub item_0 : array_item buffer 3 0 ≡ Some 1
  pub item_1 : array_item buffer 3 1 ≡ Some 2
  pub no_item_2 : array_item buffer 3 2 ≡ None
  pub no_item_of_hash : array_item buffer 6 0 ≡ None
  pub no_pair_of_array : hash_entry buffer 3 0 ≡ None
  -- the first pair: key 0, value 3, the entry from the key's start to the value's end
  pub first-pair :
      hash_entry buffer 6 0
      ≡ Some (record { key = 0; value = 3; key_span = extent 0 1; value_span = extent 3 9; entry_span = extent 0 9 })
  -- of equal keys the first; an absent key; a key outside the event bytes
  pub first_value : hash_value buffer events 6 (107 ∷ []) ≡ Some 3
  pub no_key : hash_value buffer events 6 (120 ∷ []) ≡ None
  pub key_outside : hash_value buffer [] 6 (107 ∷ []) ≡ None
  -- from the last child back to the first and no further; a scalar has no children, nor has a missing record
  pub from_last_is : child_from_last buffer 3 1 ≡ Some 1
  pub no_further : child_from_last buffer 3 2 ≡ None
  pub keys_too : child_from_last buffer 6 3 ≡ Some 0
  pub of_a_scalar : child_from_last buffer 2 0 ≡ None
  pub of_none : child_from_last (row 1 0 0 1 0 0 ++ row 9 0 0 2 1 0) 1 0 ≡ None
  -- records that are cut off, or of kind 0 or 9, are missing; a count of 0 is not followed, nor one that leads below record 0
  pub cut_off : place_at (take 97 buffer) 6 ≡ None
  pub kind_0 : place_at (row 0 0 0 1 0 0) 0 ≡ None
  pub kind_9 : place_at (row 9 0 0 1 0 0) 0 ≡ None
  pub count_0 : child_before (row 1 0 0 1 0 0 ++ row 1 0 0 0 0 0) 1 ≡ None
  pub count_2 : child_before (row 1 0 0 1 0 0 ++ row 1 0 0 2 0 0) 1 ≡ None
  -- the parent and the flag as the record says; the root's parent is the number that stands for none; a missing record says nothing
  pub up : parent_at buffer 1 ≡ Some 3
  pub further_up : parent_at buffer 3 ≡ Some 6
  pub top : parent_at buffer 6 ≡ Some absent
  -- which may be its own number, or any
  pub own_parent : parent_at (child 1 0 0 1 0 0 0) 0 ≡ Some 0
  pub no_parent : parent_at (row 9 0 0 1 0 0) 0 ≡ None
  pub flag : is_measured_at buffer 6 ≡ Some 1
  pub no_flag : is_measured_at (null_with no_tag) 0 ≡ Some 0
  pub other_flag : is_measured_at (null_with_flag no_tag 2) 0 ≡ Some 2
  pub flag_of_none : is_measured_at buffer 7 ≡ None
  -- no tag only where all four of its numbers say so
  pub no_tag_is : tag_of (null_with no_tag) 0 ≡ None
  pub tag_of_length : tag_of (null_with (tag_with absent absent absent 0)) 0 ≡ Some (tag_with absent absent absent 0)
  pub tag_of_no_start : tag_of (null_with (tag_with absent 2 3 1)) 0 ≡ Some (tag_with absent 2 3 1)
  -- five nodes, in the order of their completion; the root is the last
  pub small-tree :
      (a b c d e : Node) →
      growth small_tree (a ∷ b ∷ c ∷ d ∷ e ∷ []) (nil ∷ []) ≡ snoc nil e (snoc (snoc nil a nil) d (snoc (snoc nil b nil) c nil)) ∷ []
  pub small_shapes : shapes small_tree ≡ scalar ∷ scalar ∷ alias ∷ hash ∷ array ∷ []

pub cases : Cases
unfolding record_before last_child len_at child_before place_at record_at existing node_of node_numbers array_item hash_entry child_from_last steps_back pair_ending
    hash_value search_back key_is string_is tag_of is_absent parent_at is_measured_at growth
cases =
    record {
      root = refl;
      last = refl;
      before_key = refl;
      before_array = refl;
      before_none = refl;
      item_0 = refl;
      item_1 = refl;
      no_item_2 = refl;
      no_item_of_hash = refl;
      no_pair_of_array = refl;
      first-pair = refl;
      first_value = refl;
      no_key = refl;
      key_outside = refl;
      from_last_is = refl;
      no_further = refl;
      keys_too = refl;
      of_a_scalar = refl;
      of_none = refl;
      cut_off = refl;
      kind_0 = refl;
      kind_9 = refl;
      count_0 = refl;
      count_2 = refl;
      up = refl;
      further_up = refl;
      top = refl;
      own_parent = refl;
      no_parent = refl;
      flag = refl;
      no_flag = refl;
      other_flag = refl;
      flag_of_none = refl;
      no_tag_is = refl;
      tag_of_length = refl;
      tag_of_no_start = refl;
      small-tree = λ a b c d e. refl;
      small_shapes = refl;
    }
