-- The search from the last pair back finds the first pair with the key, where the children of a hash are laid out (N2).
use mathlib.Core.Path.{◌≡◌, refl, sym, ap, ◌∙◌}
use mathlib.Core.Bool.{Bool, cond}
use mathlib.Core.List.{List, [], ◌∷◌, ◌++◌}
use Rattle.std.specs.Prelude.{None, Option, Some, if◌then◌else◌}
use Prim.Native.Nat.{ℕ, zero, suc, ◌+◌, ◌-◌, ◌*◌, ◌<◌}
use native.Mathlib.Decide.{dec_lt}
use native.Mathlib.Omega.{arith}
use borrow.Author.Tests.{lt-ltb, le-ltb}
use lib.Dec.{ltb}
use lib.ListN.{length}
use Rattle.records.specs.declared.record.Node.{Node}
use Rattle.node.specs.Chain.{◌>>=◌}
use Rattle.node.specs.Child.{record_before, child_before}
use Rattle.node.specs.Entry.{entry, pair_ending}
use Rattle.node.specs.Search.{key_is, earlier, search_back, first_with, hash_value}
use Rattle.node.specs.declared.entry.YamlHashEntry.{YamlHashEntry}
use Rattle.records.specs.Forest.{Forest, nil, snoc, post_order, nodes_in, last_root, trees}
use Rattle.node.specs.Forest.{pairs_of}
use Rattle.node.specs.Built.{Tree, SoundForest}
use Rattle.node.proofs.ForestLaws.{laid, laid_front, root_before, root-pair, last-root, members-said}
use Rattle.node.proofs.Answers.{value-members}

-- a last pair is looked at after all others
first-last :
    (is : ℕ → Bool) (es : List YamlHashEntry) (e : YamlHashEntry) (later : Option ℕ) →
    first_with is (es ++ (e ∷ [])) later ≡ first_with is es (cond (is e.key) (Some e.value) later)
first-last is [] e later = refl
first-last is (d ∷ es) e later = ap (cond (is d.key) (Some d.value)) (first-last is es e later)

module _ (size : ℕ) (pre : List Node) (events key : List ℕ) where
  searched :
      (b : List ℕ) (m : ℕ) (f : Forest) (suf : List Node) (later : Option ℕ) → b ≡ laid size pre f suf → trees f ≡ 2 * suc m → SoundForest f →
      search_back b events key m (last_root (length pre) f) later ≡ first_with (key_is b events key) (pairs_of (length pre) f) later
  unfolding search_back SoundForest
  searched b zero nil suf later l t c = absurd (omega arith)
  searched b zero (snoc nil x kids) suf later l t c = absurd (omega arith)
  searched b zero (snoc (snoc nil y others) x kids) suf later l t c =
      let k = last_root (length pre) (snoc nil y others) in
      let v = last_root (length pre) (snoc (snoc nil y others) x kids) in
      let q : pair_ending b v ≡ Some (entry k y v x) = rw l (root-pair size pre suf nil y others x kids c) in
      ap (λ (o : Option YamlHashEntry). o >>= (λ (e : YamlHashEntry). earlier b events key e.key (last_root (length pre) (snoc (snoc nil y others) x kids)) later)) q
  searched b zero (snoc (snoc (snoc g z zs) y others) x kids) suf later l t c = absurd (omega arith)
  searched b (suc m) nil suf later l t c = absurd (omega arith)
  searched b (suc m) (snoc nil x kids) suf later l t c = absurd (omega arith)
  searched b (suc m) (snoc (snoc nil y others) x kids) suf later l t c = absurd (omega arith)
  searched b (suc m) (snoc (snoc (snoc g z zs) y others) x kids) suf later l t c =
      let p = length pre in
      let f = snoc g z zs in
      let v = last_root p (snoc (snoc f y others) x kids) in
      let k = last_root p (snoc f y others) in
      let l1 = l ∙ laid_front size pre (snoc f y others) x kids suf in
      let l2 = l1 ∙ laid_front size pre f y others ((post_order kids ++ (x ∷ [])) ++ suf) in
      let q : pair_ending b v ≡ Some (entry k y v x) = rw l (root-pair size pre suf f y others x kids c) in
      let u : child_before b k ≡ Some (last_root p f) = rw l1 (root_before size pre ((post_order kids ++ (x ∷ [])) ++ suf) g z zs y others c.0) in
      ap (λ (o : Option YamlHashEntry). o >>= (λ (e : YamlHashEntry). child_before b e.key >>= (λ (w : ℕ). search_back b events key m w (earlier b events key e.key v later)))) q
      ∙ ap (λ (o : Option ℕ). o >>= (λ (w : ℕ). search_back b events key m w (earlier b events key k v later))) u
      ∙ searched b m f ((post_order others ++ (y ∷ [])) ++ ((post_order kids ++ (x ∷ [])) ++ suf)) (earlier b events key k v later) l2 (omega arith) c.0.0
      ∙ sym (first-last (key_is b events key) (pairs_of p f) (entry k y v x) later)

  -- the value of a key in a hash is that of the first of its pairs whose key is a string with those bytes
  pub values :
      (suf : List Node) (f : Forest) (x : Node) → SoundForest f → Tree x f → x.kind ≡ 8 →
      hash_value (laid size pre f (x ∷ suf)) events (length pre + nodes_in f) key
      ≡ first_with (key_is (laid size pre f (x ∷ suf)) events key) (pairs_of (length pre) f) None
  values suf f x c t eight =
      rw (value-members _ _ _ _, members-said size pre suf f x 8 t eight) (by x.payload.first (t.hash eight) (dec_lt 0 x.payload.first))
    where
      b : List ℕ
      b = laid size pre f (x ∷ suf)

      none_at_all : (g : Forest) → trees g ≡ 0 → None ≡ first_with (key_is b events key) (pairs_of (length pre) g) None
      none_at_all nil e = refl
      none_at_all (snoc g y others) e = absurd (omega arith)

      by :
          (m : ℕ) → 2 * m ≡ trees f → Dec (0 < m) →
          (if ltb 0 m then record_before b (length pre + nodes_in f) >>= (λ (v : ℕ). search_back b events key (m - 1) v None) else None)
          ≡ first_with (key_is b events key) (pairs_of (length pre) f) None
      by m e (yes h) =
          let k : trees f ≡ 2 * suc (m - 1) = omega arith in
          rw (lt-ltb 0 m h, last-root size pre (x ∷ suf) f (omega arith) c) (searched b (m - 1) f (x ∷ suf) None refl k c)
      by m e (no h) = rw (le-ltb 0 m (omega arith)) (none_at_all f (omega arith))
