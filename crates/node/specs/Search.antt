-- Values by key (N2, N3): of the pairs of a hash, the first whose key is a string with those bytes. All pairs are gone through, from the last
-- to the first; the one met last is the first. That this is `first_with` of the pairs says the theorem on trees (`values`, ReadBack.antt).
--
-- What document 01 leaves open: a key whose payload points outside the event bytes has no bytes, so it matches none. Where a pair of the hash is
-- missing there is no answer, whichever other pairs match.
use Rattle.std.specs.Prelude.{ℕ, zero, suc, ◌+◌, ◌-◌, Bool, false, ◌&&◌, cond, if◌then◌else◌, List, [], ◌∷◌, ltb, leb, eqb, length, take, drop, bytes_eq, Option, Some, None}
use Rattle.records.specs.declared.record.Node.{Node}
use Rattle.node.specs.Chain.{◌>>=◌}
use Rattle.node.specs.Record.{record_at}
use Rattle.node.specs.Kind.{is_hash}
use Rattle.node.specs.Child.{record_before, child_before}
use Rattle.node.specs.Entry.{pair_ending}
use Rattle.node.specs.declared.entry.YamlHashEntry.{YamlHashEntry}

-- whether a node is a string with the bytes of `key`; 5 is the kind of strings
unfoldable pub string_is : List ℕ → List ℕ → Node → Bool
string_is events key x =
    eqb x.kind 5
    && (leb (x.payload.first + x.payload.second) (length events)
    && bytes_eq (take x.payload.second (drop x.payload.first events)) key)

abbrev pub holds : {A : Type 0} → Option A → (A → Bool) → Bool
holds None f = false
holds (Some a) f = f a

unfoldable pub key_is : List ℕ → List ℕ → List ℕ → ℕ → Bool
key_is b events key k = holds (record_at b k) (string_is events key)

-- the answer with the pair of k and v, before `later`, that of the pairs after it
abbrev pub earlier : List ℕ → List ℕ → List ℕ → ℕ → ℕ → Option ℕ → Option ℕ
earlier b events key k v later = cond (key_is b events key k) (Some v) later

-- over the pair whose value is v and the p pairs before it
unfoldable pub search_back : List ℕ → List ℕ → List ℕ → ℕ → ℕ → Option ℕ → Option ℕ
search_back b events key zero v later = do
  e ← pair_ending b v
  earlier b events key e.key v later
search_back b events key (suc p) v later = do
  e ← pair_ending b v
  u ← child_before b e.key
  search_back b events key p u (earlier b events key e.key v later)

-- the value of the first of some pairs whose key is so, else `later`
abbrev pub first_with : (ℕ → Bool) → List YamlHashEntry → Option ℕ → Option ℕ
first_with is [] later = later
first_with is (e ∷ es) later = cond (is e.key) (Some e.value) (first_with is es later)

unfoldable pub hash_value : List ℕ → List ℕ → ℕ → List ℕ → Option ℕ
hash_value b events n key = do
  x ← record_at b n
  if is_hash x && ltb 0 x.payload.first then record_before b n >>= (λ (v : ℕ). search_back b events key (x.payload.first - 1) v None) else None
