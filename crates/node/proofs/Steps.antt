-- One step back over children, and over pairs.
use Rattle.std.proofs.Common.{◌≡◌, ℕ, zero, suc, ◌-◌, ◌<◌, List, Option, None, Some, arith}
use Rattle.node.specs.Child.{child_before, steps_back}
use Rattle.node.specs.Entry.{pair_ending}
use Rattle.node.specs.Search.{earlier, search_back}
use Rattle.node.specs.declared.entry.YamlHashEntry.{YamlHashEntry}

less_one : (k : ℕ) → suc k - 1 ≡ k
less_one k = omega arith

module _ (b : List ℕ) where
  pub step_none : (k c : ℕ) → 0 < k → child_before b c ≡ None → steps_back b k c ≡ None
  unfolding steps_back
  step_none zero c h e = absurd (omega arith)
  step_none (suc k) c h e = rw e

  pub step_on : (k c p : ℕ) → 0 < k → child_before b c ≡ Some p → steps_back b k c ≡ steps_back b (k - 1) p
  unfolding steps_back
  step_on zero c p h e = absurd (omega arith)
  step_on (suc k) c p h e = rw (e, less_one k)

  pub step_done : (k c : ℕ) → k ≡ 0 → steps_back b k c ≡ Some c
  unfolding steps_back
  step_done k c e = rw e

  module _ (events key : List ℕ) where
    -- what k pairs back from the one whose value is v give, `later` if there are none
    abbrev pub rest : ℕ → ℕ → Option ℕ → Option ℕ
    rest zero v later = later
    rest (suc p) v later = search_back b events key p v later

    pub pair_none : (k v : ℕ) (l : Option ℕ) → 0 < k → pair_ending b v ≡ None → rest k v l ≡ None
    unfolding search_back
    pair_none zero v l h e = absurd (omega arith)
    pair_none (suc zero) v l h e = rw e
    pair_none (suc (suc k)) v l h e = rw e

    pub pairs_none : (k v : ℕ) (l : Option ℕ) (y : YamlHashEntry) → 1 < k → pair_ending b v ≡ Some y → child_before b y.key ≡ None → rest k v l ≡ None
    unfolding search_back
    pairs_none zero v l y h e n = absurd (omega arith)
    pairs_none (suc zero) v l y h e n = absurd (omega arith)
    pairs_none (suc (suc k)) v l y h e n = rw (e, n)

    pub pairs_on :
        (k v u : ℕ) (l m : Option ℕ) (y : YamlHashEntry) →
        1 < k → pair_ending b v ≡ Some y → child_before b y.key ≡ Some u → earlier b events key y.key v l ≡ m →
        rest k v l ≡ rest (k - 1) u m
    unfolding search_back
    pairs_on zero v u l m y h e n q = absurd (omega arith)
    pairs_on (suc zero) v u l m y h e n q = absurd (omega arith)
    pairs_on (suc (suc k)) v u l m y h e n q = rw (e, n, less_one (suc k), q)

    pub pairs_done :
        (k v : ℕ) (l m : Option ℕ) (y : YamlHashEntry) → k ≡ 1 → pair_ending b v ≡ Some y → earlier b events key y.key v l ≡ m → rest k v l ≡ m
    unfolding search_back
    pairs_done k v l m y z e q = rw (z, e, q)
