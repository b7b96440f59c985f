-- Characters counted by the bytes they begin with.
use mathlib.Core.Path.{◌≡◌, refl, sym, ◌∙◌, ap}
use mathlib.Core.Bool.{Bool, true, false, not}
use mathlib.Core.List.{List, [], ◌∷◌, ◌++◌}
use Prim.Native.Nat.{ℕ, zero, suc, ◌+◌, ◌≤◌, ◌<◌}
use native.Mathlib.Nat.{suc-add, zero-add, add-zero}
use native.Mathlib.Numerals.{add-one}
use native.Mathlib.Decide.{dec_lt}
use native.Mathlib.Omega.{arith}
use lib.ListN.{length, take, drop, get_or, length-append, length-take, take-append-drop, get_or-eq_default}
use lib.Seq.{take-suc, take-nil, take-append_seam}
use Rattle.utf8.specs.Class.{is_continuation, counts}
use Rattle.utf8.specs.Utf8.{ScalarValues, Utf8, encode, encode_all}
use Rattle.utf8.specs.Characters.{codes}
use Rattle.utf8.specs.Boundary.{Boundary}
use Rattle.utf8.proofs.Bytes.{Continue, encoding}
use Rattle.text.specs.Offset.{byte_offset, Stands}
use Rattle.text.specs.Starts.{begun, starts}
use Rattle.utf8.proofs.Utf8Laws.{place_at_lem, place_front, codes-encode_all, codes_scalars, encode_all_append, scalars_front}
use Rattle.text.proofs.OffsetLaws.{index_front}
use Rattle.utf8.specs.Tests.{clash}

starts_append : (a b : List ℕ) → starts (a ++ b) ≡ starts a + starts b
unfolding starts
starts_append [] b = omega arith
starts_append (x ∷ a) b = let e = starts_append a b in omega arith

begun_most : (b : ℕ) → begun b ≤ 1
begun_most b = go (not (is_continuation b))
  where
    go : (t : Bool) → counts t 1 ≤ 1
    go true = omega arith
    go false = omega arith

pub starts_most : (s : List ℕ) → starts s ≤ length s
unfolding starts
starts_most [] = omega arith
starts_most (b ∷ s) = let h = starts_most s in let k = begun_most b in omega arith

-- one byte more
pub starts_next : (s : List ℕ) (i : ℕ) → i < length s → starts (take (i + 1) s) ≡ starts (take i s) + begun (get_or s i 0)
unfolding starts
starts_next s i h =
    let e = starts_append (take i s) (get_or s i 0 ∷ []) in
    let f = ap starts (ap (λ (k : ℕ). take k s) (add-one i) ∙ take-suc s i 0 h) in
    omega arith

-- a byte that continues a character
pub goes_on : (s : List ℕ) (i : ℕ) → i ≤ length s → is_continuation (get_or s i 0) ≡ true → (i < length s) × (starts (take (i + 1) s) ≡ starts (take i s))
goes_on s i h e = go (dec_lt i (length s))
  where
    go : Dec (i < length s) → (i < length s) × (starts (take (i + 1) s) ≡ starts (take i s))
    go (yes l) = (l, (let n = starts_next s i l in let z : begun (get_or s i 0) ≡ 0 = rw e in omega arith))
    go (no l) = absurd (clash (sym (rw (get_or-eq_default s 0 {n = i} (omega arith)) at e)))

-- as do n bytes
pub all_go_on : (s : List ℕ) (i n : ℕ) → i + n ≤ length s → ((k : ℕ) → k < n → is_continuation (get_or s (i + k) 0) ≡ true) → starts (take (i + n) s) ≡ starts (take i s)
all_go_on s i zero h all = ap (λ (k : ℕ). starts (take k s)) (add-zero i)
all_go_on s i (suc n) h all =
    let e : i + suc n ≡ i + n + 1 = omega arith in
    ap (λ (k : ℕ). starts (take k s)) e ∙ (goes_on s (i + n) (omega arith) (all n (omega arith))).1 ∙ all_go_on s i n (omega arith) (λ k l. all k (omega arith))

-- n bytes more
pub starts_part : (s : List ℕ) (i n : ℕ) → starts (take (i + n) s) ≡ starts (take i s) + starts (take n (drop i s))
unfolding starts
starts_part s zero n = rw (zero-add n) (omega arith)
starts_part [] (suc i) n = rw (take-nil (suc i + n), take-nil n)
starts_part (b ∷ s) (suc i) n = let e = starts_part s i n in rw (suc-add i n) (omega arith)

-- ---- of a text

continue_none : (s : List ℕ) → Continue s → starts s ≡ 0
unfolding starts
continue_none [] k = refl
continue_none (b ∷ s) k = let e = continue_none s k.1 in rw k.0 (omega arith)

starts-encode_all : (cs : List ℕ) → ScalarValues cs → starts (encode_all cs) ≡ length cs
unfolding starts encode_all
starts-encode_all [] v = refl
starts-encode_all (c ∷ cs) v =
    let e = encoding c [] v.0 in
    let a = starts_append (encode c) (encode_all cs) in
    let b = starts-encode_all cs v.1 in
    let m = continue_none e.more e.continues in
    let f : starts (encode c) ≡ 1 = ap starts e.is ∙ rw e.begins (omega arith) in
    omega arith

-- a cursor has passed as many characters as begin before it
pub stands_starts : {s : List ℕ} {k i : ℕ} → Utf8 s → Stands s k i → starts (take i s) ≡ k
stands_starts {s} {k} {i} u h =
    let m = h.counted in
    let l = length-take k (codes s) in
    let e : starts (take i s) ≡ length (take k (codes s)) = rw (h.placed, index_front u k) (starts-encode_all (take k (codes s)) (scalars_front (take k (codes s)) (drop k (codes s)) (rw (take-append-drop k (codes s)) (codes_scalars u)))) in
    omega arith

-- between two characters a cursor stands
pub starts_stands : {s : List ℕ} {i : ℕ} → Utf8 s → Boundary s i → Stands s (starts (take i s)) i
unfolding byte_offset
starts_stands {s} {i} u b =
    let p = place_at_lem u b in
    let xs = p.before in
    let e : starts (take i s) ≡ length xs = ap starts (place_front p) ∙ starts-encode_all xs (scalars_front xs p.after p.scalars) in
    let f : codes s ≡ xs ++ p.after = ap codes (p.text ∙ sym (encode_all_append xs p.after)) ∙ codes-encode_all (xs ++ p.after) p.scalars in
    let n = ap length f ∙ length-append xs p.after in
    record { counted = omega arith; placed = rw (e, f, take-append_seam xs p.after) p.offset }
