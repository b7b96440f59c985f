-- Answers of the accessors told through how many items or pairs there are.
use mathlib.Core.Path.{◌≡◌, refl}
use mathlib.Core.Bool.{Bool, true, false, ◌&&◌}
use mathlib.Core.List.{List}
use Rattle.std.specs.Prelude.{None, Option, Some, if◌then◌else◌}
use Prim.Native.Nat.{ℕ, ◌-◌, ◌*◌}
use lib.Dec.{ltb, eqb}
use Rattle.records.specs.declared.record.Node.{Node}
use Rattle.node.specs.Chain.{◌>>=◌}
use Rattle.node.specs.Record.{record_at}
use Rattle.node.specs.Child.{record_before, child_from_last, array_item}
use Rattle.node.specs.Entry.{pair_ending, hash_entry}
use Rattle.node.specs.Search.{search_back, hash_value}

abbrev pub members_of : ℕ → Option Node → Option ℕ
members_of kind o = (o >>= (λ (x : Node). if eqb x.kind kind then Some x.payload.first else None))

module _ {A : Type 0} (kind : ℕ) (t : ℕ → Bool) (g : ℕ → Option A) where
  by_members :
      (o : Option Node) →
      (o >>= (λ (x : Node). if eqb x.kind kind && t x.payload.first then g x.payload.first else None))
      ≡ (members_of kind o >>= (λ (m : ℕ). if t m then g m else None))
  by_members None = refl
  by_members (Some x) = by (eqb x.kind kind) x.payload.first
    where
      by : (s : Bool) (m : ℕ) → (if s && t m then g m else None) ≡ ((if s then Some m else None) >>= (λ (m : ℕ). if t m then g m else None))
      by true m = refl
      by false m = refl

module _ (b : List ℕ) (n : ℕ) where
  pub item_members : (i : ℕ) → array_item b n i ≡ (members_of 7 (record_at b n) >>= (λ (m : ℕ). if ltb i m then child_from_last b n (m - 1 - i) else None))
  unfolding array_item
  item_members i = by_members 7 (ltb i) (λ (m : ℕ). child_from_last b n (m - 1 - i)) (record_at b n)

  pub entry-members :
      (i : ℕ) →
      hash_entry b n i ≡ (members_of 8 (record_at b n) >>= (λ (m : ℕ). if ltb i m then (child_from_last b n (2 * (m - 1 - i))) >>= pair_ending b else None))
  unfolding hash_entry
  entry-members i = by_members 8 (ltb i) (λ (m : ℕ). (child_from_last b n (2 * (m - 1 - i))) >>= pair_ending b) (record_at b n)

  pub value-members :
      (events key : List ℕ) →
      hash_value b events n key
      ≡ (members_of 8 (record_at b n) >>= (λ (m : ℕ). if ltb 0 m then record_before b n >>= (λ (v : ℕ). search_back b events key (m - 1) v None) else None))
  unfolding hash_value
  value-members events key =
      by_members 8 (ltb 0) (λ (m : ℕ). record_before b n >>= (λ (v : ℕ). search_back b events key (m - 1) v None)) (record_at b n)
