-- The cursor by single steps: there is a way from any place to any other, and every way has as many steps as they are apart. And a marker
-- that moves by one.
use Rattle.std.specs.Prelude.{◌≡◌, refl, List, [], ◌∷◌, ◌++◌, ℕ, zero, suc, ◌+◌, ◌-◌, ◌≤◌, ◌<◌, min, cond, Bool, true, false, ltb, map, length, take, drop, get_or}
use Rattle.std.proofs.Common.{sym, ◌∙◌, ap, subst, arith, add-one, take-suc, take-append-drop, drop-cons, append-nil}
use Rattle.utf8.specs.Utf8.{ScalarValue, ScalarValues, Utf8, encode, encode_all}
use Rattle.utf8.specs.Characters.{codes}
use Rattle.utf8.specs.Tests.{by_order}
use Rattle.utf8.proofs.Utf8Laws.{codes_are, codes_scalars, scalars_back, encode_all_append, encode_some}
use Rattle.text.specs.Offset.{byte_offset, cursor_at}
use Rattle.text.specs.declared.offset.Cursor.{Cursor}
use Rattle.text.proofs.OffsetLaws.{index_front, offset_next, offset_past, offset_past_text}
use Rattle.travel.specs.Travel.{clamped, distance, distances}
use Rattle.travel.specs.Steps.{start, Between, Step, on, back, Straight, Travels, steps}
use Rattle.travel.specs.Proved.{MovesByOne, EveryMarker}
use Rattle.travel.proofs.TravelLaws.{cursor_chars}

-- ---- how many steps a way has

straight_steps : (s : List ℕ) (t c : Cursor) (ds : List Cursor) → Straight s t c ds → length ds ≡ distance c.chars t.chars
unfolding Straight
straight_steps s t c [] e = rw e (omega arith)
straight_steps s t c (d ∷ ds) h = let rest = straight_steps s t d ds h.1 in go h.0 rest
  where
    go : Step s t c d → length ds ≡ distance d.chars t.chars → length (d ∷ ds) ≡ distance c.chars t.chars
    go (on x ahead b) rest = let e = b.chars in omega arith
    go (back x behind b) rest = let e = b.chars in omega arith

pub travels_steps : (s : List ℕ) (c : Cursor) (ms : List ℕ) (ways : List (List Cursor)) → Travels s c ms ways
    → steps ways ≡ distances c.chars (map (clamped (length (codes s))) ms)
unfolding Travels steps distances
travels_steps s c [] [] h = refl
travels_steps s c [] (ds ∷ ways) h = absurd h
travels_steps s c (m ∷ ms) [] h = absurd h
travels_steps s c (m ∷ ms) (ds ∷ ways) h =
    let passed = cursor_chars s m in
    let e : (cursor_at s m).chars ≡ clamped (length (codes s)) m = omega arith in
    let first = straight_steps s (cursor_at s m) c ds h.0 in
    let rest = travels_steps s (cursor_at s m) ms ways h.1 in
    subst (λ (k : ℕ). length ds + steps ways ≡ distance c.chars k + distances k (map (clamped (length (codes s))) ms)) e (omega arith)

-- ---- a way from one place to another

module _ {s : List ℕ} (u : Utf8 s) where
  scalar_at : (k : ℕ) → k < length (codes s) → ScalarValue (get_or (codes s) k 0)
  scalar_at k h =
      let all : ScalarValues (take k (codes s) ++ drop k (codes s)) = rw (take-append-drop k (codes s)) (codes_scalars u) in
      let back : ScalarValues (get_or (codes s) k 0 ∷ drop (suc k) (codes s)) = subst ScalarValues (drop-cons (codes s) k 0 h) (scalars_back (take k (codes s)) (drop k (codes s)) all) in
      back.0

  -- the places of two indices, one apart
  between : (k : ℕ) → k < length (codes s) → Between s (get_or (codes s) k 0) (cursor_at s k) (cursor_at s (suc k))
  unfolding cursor_at encode_all
  between k h =
      let x = get_or (codes s) k 0 in
      record {
        scalar = scalar_at k h;
        chars = omega arith;
        offset = offset_next s k h;
        bytes =
            index_front u (suc k) ∙ ap encode_all (take-suc (codes s) k 0 h) ∙ encode_all_append (take k (codes s)) (x ∷ [])
            ∙ ap (λ (l : List ℕ). encode_all (take k (codes s)) ++ l) (append-nil (encode x)) ∙ ap (λ (l : List ℕ). l ++ encode x) (sym (index_front u k));
      }

  abbrev Way : ℕ → ℕ → Type 0
  Way k t = (ds : List Cursor) × Straight s (cursor_at s t) (cursor_at s k) ds

  ahead : (n k t : ℕ) → k + n ≡ t → t ≤ length (codes s) → Way k t
  unfolding Straight
  ahead zero k t e l = let same : k ≡ t = omega arith in ([], ap (cursor_at s) same)
  ahead (suc n) k t e l =
      let rest = ahead n (suc k) t (omega arith) l in
      let ck = cursor_chars s k in
      let ct = cursor_chars s t in
      (cursor_at s (suc k) ∷ rest.0, (on (get_or (codes s) k 0) (omega arith) (between k (omega arith)), rest.1))

  behind : (n k t : ℕ) → t + n ≡ k → k ≤ length (codes s) → Way k t
  unfolding Straight
  behind zero k t e l = let same : k ≡ t = omega arith in ([], ap (cursor_at s) same)
  behind (suc n) zero t e l = absurd (omega arith)
  behind (suc n) (suc k) t e l =
      let rest = behind n k t (omega arith) (omega arith) in
      let ck = cursor_chars s (suc k) in
      let ct = cursor_chars s t in
      (cursor_at s k ∷ rest.0, (back (get_or (codes s) k 0) (omega arith) (between k (omega arith)), rest.1))

  -- an index past the text stands where its end does
  clamp : (m : ℕ) → cursor_at s (clamped (length (codes s)) m) ≡ cursor_at s m
  unfolding cursor_at
  clamp m = by_order m (length (codes s)) (λ h. let e : min (length (codes s)) m ≡ m = omega arith in rw e refl) (λ h.
      let e : min (length (codes s)) m ≡ length (codes s) = omega arith in
      let f : min m (length (codes s)) ≡ length (codes s) = omega arith in
      let g : min (length (codes s)) (length (codes s)) ≡ length (codes s) = omega arith in
      rw (e, f, g, offset_past s m (length (codes s)) h (omega arith)) refl)

  straight_way : (k m : ℕ) → Way k m
  straight_way k m =
      let n = length (codes s) in
      let a = clamped n k in
      let b = clamped n m in
      subst (λ (t : Cursor). (ds : List Cursor) × Straight s t (cursor_at s k) ds) (clamp m)
      (subst (λ (c : Cursor). (ds : List Cursor) × Straight s (cursor_at s b) c ds) (clamp k)
      (by_order a b (λ h. ahead (b - a) a b (omega arith) (omega arith)) (λ h. behind (a - b) a b (omega arith) (omega arith))))

  pub travels_way : (k : ℕ) (ms : List ℕ) → (ways : List (List Cursor)) × Travels s (cursor_at s k) ms ways
  unfolding Travels
  travels_way k [] = ([], tt)
  travels_way k (m ∷ ms) =
      let first = straight_way k m in
      let rest = travels_way m ms in
      (first.0 ∷ rest.0, (first.1, rest.1))

pub start_is : (s : List ℕ) → cursor_at s 0 ≡ start
unfolding cursor_at byte_offset encode_all
start_is s = let e : min 0 (length (codes s)) ≡ 0 = omega arith in rw e refl

-- ---- a marker that moves by one

few : (x : Bool) (l r : List ℕ) → length l ≤ 4 → length r ≤ 4 → length (cond x l r) ≤ 4
few true l r a b = a
few false l r a b = b

encode_few : (c : ℕ) → length (encode c) ≤ 4
unfolding encode
encode_few c = few (ltb c 0x80) _ _ (omega arith) (few (ltb c 0x800) _ _ (omega arith) (few (ltb c 0x1_0000) _ _ (omega arith) (omega arith)))

pub moves_by_one : EveryMarker
moves_by_one s u k = by_order k (length (codes s)) inside outside
  where
    inside : k < length (codes s) → MovesByOne s k
    inside h =
        let next : byte_offset s (k + 1) ≡ byte_offset s k + length (encode (get_or (codes s) k 0)) = rw (add-one k) (offset_next s k h) in
        let few = encode_few (get_or (codes s) k 0) in
        let some = encode_some (get_or (codes s) k 0) (scalar_at u k h) in
        record { most = omega arith; least = λ l. omega arith; at_end = λ l. absurd (omega arith) }

    outside : length (codes s) ≤ k → MovesByOne s k
    outside h =
        let e = ap length (codes_are u) in
        let here = offset_past_text u k (omega arith) in
        let next = offset_past_text u (k + 1) (omega arith) in
        record { most = omega arith; least = λ l. absurd (omega arith); at_end = λ l. (here, next) }
