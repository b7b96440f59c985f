-- The record numbers that the accessors answer are at most the number that they are asked about, so they fit 32 bits as it does.
use mathlib.Core.Path.{◌≡◌, sym, subst}
use Prim.Native.Nat.{ℕ, zero, suc, ◌-◌, ◌*◌, ◌≤◌}
use mathlib.Core.Bool.{Bool, true, false, ◌&&◌, cond}
use mathlib.Core.List.{List}
use Rattle.std.specs.Prelude.{Option, None, Some, if◌then◌else◌}
use native.Mathlib.Omega.{arith}
use lib.Dec.{ltb, leb}
use Rattle.records.specs.declared.record.Node.{Node}
use Rattle.node.specs.Chain.{◌>>=◌}
use Rattle.node.specs.Record.{record_at}
use Rattle.node.specs.Kind.{len_at, is_array, is_hash, children}
use Rattle.node.specs.Child.{place_at, record_before, last_child, less_count, child_before, steps_back, child_from_last, array_item}
use Rattle.node.specs.Entry.{entry, pair_ending, hash_entry}
use Rattle.node.specs.Search.{key_is, earlier, search_back, hash_value}
use Rattle.node.specs.declared.entry.YamlHashEntry.{YamlHashEntry}
use Rattle.quarto_yaml.specs.None.{largest}
use Rattle.quarto_yaml.specs.Fit.{Each, AtMost}

-- ---- answers that may be missing

module _ {A B : Type 0} (P : A → Type 0) (Q : B → Type 0) (f : A → Option B) where
  -- a step after an answer of which P is known
  each_then : (o : Option A) → Each P o → ((a : A) → P a → Each Q (f a)) → Each Q (o >>= f)
  each_then None h g = tt
  each_then (Some a) h g = g a h

module _ {A B : Type 0} (Q : B → Type 0) (f : A → Option B) where
  -- a step after any answer
  each_after : (o : Option A) → ((a : A) → Each Q (f a)) → Each Q (o >>= f)
  each_after None g = tt
  each_after (Some a) g = g a

module _ {A : Type 0} (P : A → Type 0) where
  each_when : (t : Bool) (o : Option A) → Each P o → Each P (if t then o else None)
  each_when true o h = h
  each_when false o h = tt

  each_cond : (t : Bool) (o u : Option A) → Each P o → Each P u → Each P (cond t o u)
  each_cond true o u h i = h
  each_cond false o u h i = i

abbrev Upto : ℕ → ℕ → Type 0
Upto m n = n ≤ m

abbrev PairUpto : ℕ → YamlHashEntry → Type 0
PairUpto m e = (e.key ≤ m) × (e.value ≤ m)

-- the records of a pair, if there is one, are at most m
abbrev RecordsAtMost : ℕ → Option YamlHashEntry → Type 0
RecordsAtMost m = Each (PairUpto m)

wider : (m n : ℕ) (o : Option ℕ) → m ≤ n → AtMost m o → AtMost n o
wider m n None l h = tt
wider m n (Some a) l h = omega arith

-- ---- the accessors

module _ (b : List ℕ) where
  place_at_most : (n m : ℕ) → n ≤ m → AtMost m (place_at b n)
  unfolding place_at
  place_at_most n m l = each_after (Upto m) (λ (x : Node). Some n) (record_at b n) (λ x. l)

  pub before_at_most : (n : ℕ) → AtMost n (record_before b n)
  unfolding record_before
  before_at_most n = each_when (Upto n) (ltb 0 n) (place_at b (n - 1)) (place_at_most (n - 1) n (omega arith))

  pub last_at_most : (n : ℕ) → AtMost n (last_child b n)
  unfolding last_child
  last_at_most n =
      each_after (Upto n) (λ (k : ℕ). if ltb 0 k then record_before b n else None) (len_at b n)
      (λ k. each_when (Upto n) (ltb 0 k) (record_before b n) (before_at_most n))

  less_at_most : (c s : ℕ) → AtMost c (less_count b c s)
  less_at_most c s = each_when (Upto c) (ltb 0 s && leb s c) (place_at b (c - s)) (place_at_most (c - s) c (omega arith))

  pub child_before_at_most : (c : ℕ) → AtMost c (child_before b c)
  unfolding child_before
  child_before_at_most c = each_after (Upto c) (λ (x : Node). less_count b c x.subtree) (record_at b c) (λ x. less_at_most c x.subtree)

  steps_at_most : (k c m : ℕ) → c ≤ m → AtMost m (steps_back b k c)
  unfolding steps_back
  steps_at_most zero c m l = l
  steps_at_most (suc k) c m l =
      each_then (Upto c) (Upto m) (steps_back b k) (child_before b c) (child_before_at_most c) (λ u h. steps_at_most k u m (omega arith))

  from_last_at_most : (n k : ℕ) → AtMost n (child_from_last b n k)
  unfolding child_from_last
  from_last_at_most n k =
      let back = (record_before b n >>= (steps_back b k)) in
      let h : AtMost n back = each_then (Upto n) (Upto n) (steps_back b k) (record_before b n) (before_at_most n) (λ c l. steps_at_most k c n l) in
      each_after (Upto n) (λ (x : Node). if ltb k (children x) then back else None) (record_at b n) (λ x. each_when (Upto n) (ltb k (children x)) back h)

  -- item i of an array of k
  abbrev item_of : ℕ → ℕ → Bool → ℕ → Option ℕ
  item_of n i t k = (if t && ltb i k then child_from_last b n (k - 1 - i) else None)

  pub item_at_most : (n i : ℕ) → AtMost n (array_item b n i)
  unfolding array_item
  item_at_most n i =
      each_after (Upto n) (λ (x : Node). item_of n i (is_array x) x.payload.first) (record_at b n)
      (λ x. let k = x.payload.first in each_when (Upto n) (is_array x && ltb i k) (child_from_last b n (k - 1 - i)) (from_last_at_most n (k - 1 - i)))

  -- the pair of a value v, which is y, and the key k
  abbrev pair_of : ℕ → Node → ℕ → Option YamlHashEntry
  pair_of v y k = (record_at b k >>= (λ (x : Node). Some (entry k x v y)))

  pair_at_most : (v m : ℕ) → v ≤ m → RecordsAtMost m (pair_ending b v)
  unfolding pair_ending
  pair_at_most v m l =
      each_after (PairUpto m) (λ (y : Node). child_before b v >>= (pair_of v y)) (record_at b v)
      (λ y. each_then (Upto v) (PairUpto m) (pair_of v y) (child_before b v) (child_before_at_most v)
      (λ k h. each_after (PairUpto m) (λ (x : Node). Some (entry k x v y)) (record_at b k) (λ x. (omega arith, l))))

  -- the pair that ends with the child k before the last
  pair_from_last : (n k : ℕ) → RecordsAtMost n (child_from_last b n k >>= (pair_ending b))
  pair_from_last n k = each_then (Upto n) (PairUpto n) (pair_ending b) (child_from_last b n k) (from_last_at_most n k) (λ v h. pair_at_most v n h)

  abbrev entry_of : ℕ → ℕ → Bool → ℕ → Option YamlHashEntry
  entry_of n i t k = (if t && ltb i k then (child_from_last b n (2 * (k - 1 - i))) >>= (pair_ending b) else None)

  entry_at_most : (n i : ℕ) → RecordsAtMost n (hash_entry b n i)
  unfolding hash_entry
  entry_at_most n i =
      each_after (PairUpto n) (λ (x : Node). entry_of n i (is_hash x) x.payload.first) (record_at b n)
      (λ x.
      let k = x.payload.first in
      each_when (PairUpto n) (is_hash x && ltb i k) ((child_from_last b n (2 * (k - 1 - i))) >>= (pair_ending b)) (pair_from_last n (2 * (k - 1 - i))))

  module _ (events key : List ℕ) (m : ℕ) where
    earlier_at_most : (k v : ℕ) (later : Option ℕ) → v ≤ m → AtMost m later → AtMost m (earlier b events key k v later)
    earlier_at_most k v later l h = each_cond (Upto m) (key_is b events key k) (Some v) later l h

    -- the p pairs before the pair of k and v
    abbrev before : ℕ → ℕ → Option ℕ → ℕ → Option ℕ
    before p v later k = (child_before b k >>= (λ (u : ℕ). search_back b events key p u (earlier b events key k v later)))

    search_at_most : (p v : ℕ) (later : Option ℕ) → v ≤ m → AtMost m later → AtMost m (search_back b events key p v later)
    unfolding search_back
    search_at_most zero v later l h =
        each_after (Upto m) (λ (e : YamlHashEntry). earlier b events key e.key v later) (pair_ending b v) (λ e. earlier_at_most e.key v later l h)
    search_at_most (suc p) v later l h =
        each_then (PairUpto m) (Upto m) (λ (e : YamlHashEntry). before p v later e.key) (pair_ending b v) (pair_at_most v m l)
        (λ e g.
        let rest = earlier b events key e.key v later in
        each_then (Upto e.key) (Upto m) (λ (u : ℕ). search_back b events key p u rest) (child_before b e.key) (child_before_at_most e.key)
        (λ u i. search_at_most p u rest (omega arith) (earlier_at_most e.key v later l h)))

  -- over the pairs of a hash of k
  from_last_value : (events key : List ℕ) (n k : ℕ) → AtMost n (record_before b n >>= (λ (v : ℕ). search_back b events key (k - 1) v None))
  from_last_value events key n k =
      each_then (Upto n) (Upto n) (λ (v : ℕ). search_back b events key (k - 1) v None) (record_before b n) (before_at_most n)
      (λ v h. search_at_most events key n (k - 1) v None h tt)

  abbrev value_of : List ℕ → List ℕ → ℕ → Bool → ℕ → Option ℕ
  value_of events key n t k = (if t && ltb 0 k then record_before b n >>= (λ (v : ℕ). search_back b events key (k - 1) v None) else None)

  pub value_at_most : (events key : List ℕ) (n : ℕ) → AtMost n (hash_value b events n key)
  unfolding hash_value
  value_at_most events key n =
      each_after (Upto n) (λ (x : Node). value_of events key n (is_hash x) x.payload.first) (record_at b n)
      (λ x.
      let k = x.payload.first in
      each_when (Upto n) (is_hash x && ltb 0 k) (record_before b n >>= (λ (v : ℕ). search_back b events key (k - 1) v None))
      (from_last_value events key n k))

-- ---- 32 bits

pub fits : {o p : Option ℕ} (n : ℕ) → n ≤ largest → o ≡ p → AtMost n p → AtMost largest o
fits {o} {p} n l e h = subst (λ (x : Option ℕ). AtMost largest x) (sym e) (wider n largest p l h)

-- the records of a pair that is found
pub entry_fits : (b : List ℕ) (n i : ℕ) {x : YamlHashEntry} → n ≤ largest → Some x ≡ hash_entry b n i → PairUpto largest x
entry_fits b n i l e = let h = subst (λ (o : Option YamlHashEntry). RecordsAtMost n o) (sym e) (entry_at_most b n i) in (omega arith, omega arith)
