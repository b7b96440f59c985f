-- Whether a node is awaited as a mapping's value: the machine's state tells what the events tell that led to it (`awaited_is`). The k-th of the
-- open collections is the one that is met looking back over the starts of k others.
use Rattle.std.specs.Prelude.{Bool, true, false, cond, ◌&&◌, eqb, ◌%◌, Option, Some, None, Ok}
use mathlib.Core.Path.{◌≡◌, refl, sym, ap, ◌∙◌, subst}
use mathlib.Core.List.{List, [], ◌∷◌, reverse_aux}
use Prim.Native.Nat.{ℕ, zero, suc, ◌+◌}
use native.Mathlib.Omega.{arith}
use lib.Dec.{ltb}
use lib.ListN.{length}
use Rattle.provenance.specs.Reading.{Piece}
use Rattle.event.specs.Encode.{Tag, YamlEvent, sequence_start, sequence_end, mapping_start, mapping_end, scalar, alias, encode_event}
use Rattle.event.specs.Meaning.{placed}
use Rattle.event.specs.declared.tag.YamlTag.{YamlTag}
use Rattle.records.specs.declared.record.Node.{Node}
use Rattle.spans.specs.Collection.{is_mapping, with_child, closes}
use Rattle.spans.specs.declared.open.Collection.{Collection}
use Rattle.spans.specs.declared.open.Collection.TheVariants.{Sequence, Mapping}
use Rattle.spans.specs.declared.open.Open.{Open}
use Rattle.parser.specs.Machine.{State, empty, Next, go, stop, opening, completed, on_start, ended, on_end, on_alias, keeping, awaits_value, scalar_kept, on_scalar, on_read}
use Rattle.parser.specs.EventRun.{one_more, awaited_back, awaited_by, go_on, reached}
use Rattle.parser.proofs.RunLaws.{stop_not_go}
use Rattle.parser.proofs.EventRun.{go_is}
use Rattle.parser.proofs.Growths.{gate, past_root, past_depth, past_room}

-- the k-th open collection is a mapping with an odd number of children, n more counted
tells : List Open → ℕ → ℕ → Bool
tells [] k n = false
tells (o ∷ os) zero n = is_mapping o.collection && eqb ((o.children + n) % 2) 1
tells (o ∷ os) (suc k) n = tells os k n

-- the events `passed`, the last first, led to these open collections
abbrev Told : List YamlEvent → List Open → Type 0
Told passed os = (k n : ℕ) → awaited_back passed k n ≡ tells os k n

told_child : (i : ℕ) (os : List Open) (k n : ℕ) → tells os k (one_more k n) ≡ tells (with_child i os) k n
unfolding tells
told_child i [] k n = refl
told_child i (o ∷ os) zero n = let e : o.children + (n + 1) ≡ (o.children + 1) + n = omega arith in ap (λ (m : ℕ). is_mapping o.collection && eqb (m % 2) 1) e
told_child i (o ∷ os) (suc k) n = refl

-- a node is complete that has no events inside
told_leaf : (passed : List YamlEvent) (os : List Open) (i : ℕ) → Told passed os → (k n : ℕ) → awaited_back passed k (one_more k n) ≡ tells (with_child i os) k n
told_leaf passed os i t k n = t k (one_more k n) ∙ told_child i os k n

-- the innermost collection has ended
told_ended : (passed : List YamlEvent) (o : Open) (os : List Open) (i : ℕ) → Told passed (o ∷ os) → (k n : ℕ) → awaited_back passed (suc k) (one_more k n) ≡ tells (with_child i os) k n
unfolding tells
told_ended passed o os i t k n = t (suc k) (one_more k n) ∙ told_child i os k n

-- a collection is open that has no children yet
told_sequence : (passed : List YamlEvent) (os : List Open) (index : ℕ) (tag : Tag) (i : ℕ) (t : Option YamlTag) (n : ℕ) → Told passed os
    → Told (sequence_start index tag ∷ passed) (opening Sequence i t n ∷ os)
unfolding tells awaited_back
told_sequence passed os index tag i t m told zero n = refl
told_sequence passed os index tag i t m told (suc k) n = told k n

told_mapping : (passed : List YamlEvent) (os : List Open) (index : ℕ) (tag : Tag) (i : ℕ) (t : Option YamlTag) (n : ℕ) → Told passed os
    → Told (mapping_start index tag ∷ passed) (opening Mapping i t n ∷ os)
unfolding tells awaited_back
told_mapping passed os index tag i t m told zero n = let e : n ≡ 0 + n = omega arith in ap (λ (k : ℕ). eqb (k % 2) 1) e
told_mapping passed os index tag i t m told (suc k) n = told k n

-- ---- a step: where it leads on, the open collections are those that the events tell

module _ (text events : List ℕ) (room most : ℕ) (passed : List YamlEvent) (st st' : State) (told : Told passed st.opens) where
  opens_of : (P : List Open → Type 0) (s : State) → go s ≡ go st' → P s.opens → P st'.opens
  opens_of P s e p = subst (λ (u : State). P u.opens) (go_is s st' e) p

  end_told : (x : YamlEvent) → ((k n : ℕ) → awaited_back (x ∷ passed) k n ≡ awaited_back passed (suc k) (one_more k n))
      → (collection : Collection) (index : ℕ) (os : List Open) → Told passed os → on_end text room collection index os st ≡ go st' → Told (x ∷ passed) st'.opens
  unfolding ended completed
  end_told x is collection index [] t e = absurd (stop_not_go 4 st' e)
  end_told x is collection index (o ∷ os) t e = by (closes collection o) e
    where
      by : (b : Bool) → cond b (ended text room index o os st) (stop 4) ≡ go st' → Told (x ∷ passed) st'.opens
      by true f = opens_of (Told (x ∷ passed)) _ (past_room room st _ st' f).1 (λ k n. is k n ∙ told_ended passed o os _ t k n)
      by false f = absurd (stop_not_go 4 st' f)

  kept_told : (x : YamlEvent) → ((k n : ℕ) → awaited_back (x ∷ passed) k n ≡ awaited_back passed k (one_more k n))
      → (node : Node) (l : Option (List Piece)) → keeping most node l st ≡ go st' → Told (x ∷ passed) st'.opens
  unfolding keeping completed
  kept_told x is node None e = opens_of (Told (x ∷ passed)) _ e (λ k n. is k n ∙ told_leaf passed st.opens _ told k n)
  kept_told x is node (Some ps) e =
      opens_of (Told (x ∷ passed)) _ (gate (ltb most (length st.pieces + length ps)) 8 _ st' e).1 (λ k n. is k n ∙ told_leaf passed st.opens _ told k n)

  step_told : (i : ℕ) (x : YamlEvent) → on_read text events room most (Ok (placed i x)) st ≡ go st' → Told (x ∷ passed) st'.opens
  unfolding placed on_start on_alias on_scalar scalar_kept completed awaited_back
  step_told i (sequence_start index tag) e =
      opens_of (Told (sequence_start index tag ∷ passed)) _ (past_depth st _ st' (past_root st _ st' e).1) (told_sequence passed st.opens index tag _ _ _ told)
  step_told i (mapping_start index tag) e =
      opens_of (Told (mapping_start index tag ∷ passed)) _ (past_depth st _ st' (past_root st _ st' e).1) (told_mapping passed st.opens index tag _ _ _ told)
  step_told i (sequence_end index) e = end_told (sequence_end index) (λ k n. refl) Sequence index st.opens told e
  step_told i (mapping_end index) e = end_told (mapping_end index) (λ k n. refl) Mapping index st.opens told e
  step_told i (scalar index column style empty_span tag value) e =
      kept_told (scalar index column style empty_span tag value) (λ k n. refl) _ _ (past_room room st _ st' (past_root st _ st' e).1).1
  step_told i (alias index) e =
      opens_of (Told (alias index ∷ passed)) _ (past_room room st _ st' (past_root st _ st' e).1).1 (told_leaf passed st.opens _ told)

-- ---- the events before a node

module _ (text events : List ℕ) (room most : ℕ) where
  reached_told : (i : ℕ) (es passed : List YamlEvent) (st st' : State) → Told passed st.opens → reached text events room most i es st ≡ go st'
      → Told (reverse_aux es passed) st'.opens
  unfolding reached
  reached_told i [] passed st st' t e = subst (λ (s : State). Told passed s.opens) (go_is st st' e) t
  reached_told i (x ∷ es) passed st st' t e =
      by (on_read text events room most (Ok (placed i x)) st) refl e (λ s u h. reached_told (i + length (encode_event x)) es (x ∷ passed) s st' u h)
    where
      by : (n : Next) → on_read text events room most (Ok (placed i x)) st ≡ n → go_on n (λ (s : State). reached text events room most (i + length (encode_event x)) es s) ≡ go st'
          → ((s : State) → Told (x ∷ passed) s.opens → reached text events room most (i + length (encode_event x)) es s ≡ go st' → Told (reverse_aux es (x ∷ passed)) st'.opens)
          → Told (reverse_aux es (x ∷ passed)) st'.opens
      by (stop m) is f rest = absurd (stop_not_go m st' f)
      by (go s) is f rest = rest s (step_told text events room most passed st s t i x is) f

  tells_awaits : (os : List Open) → tells os 0 0 ≡ awaits_value os
  unfolding tells
  tells_awaits [] = refl
  tells_awaits (o ∷ os) = let e : o.children + 0 ≡ o.children = omega arith in ap (λ (m : ℕ). is_mapping o.collection && eqb (m % 2) 1) e

  -- the state tells what the events tell
  pub awaited_is : (es : List YamlEvent) (st : State) → reached text events room most 0 es empty ≡ go st → awaits_value st.opens ≡ awaited_by es
  unfolding tells awaited_back
  awaited_is es st e = sym (reached_told 0 es [] empty st (λ k n. refl) e 0 0 ∙ tells_awaits st.opens)
