-- Entries laid out one after the other, for any entry and width.
use Rattle.std.specs.Prelude.{◌≡◌, refl, ℕ, zero, suc, ◌+◌, ◌-◌, ◌*◌, ◌≤◌, take, drop}
use Rattle.std.proofs.Math.Path.{sym, ap, ap₂}
use Rattle.std.proofs.Common.{◌∙◌, length-append}
use mathlib.Core.List.{List, [], ◌∷◌, ◌++◌, append_assoc, append-nil}
use native.Mathlib.Nat.{mul-suc, mul-zero, mul-add}
use native.Mathlib.Omega.{arith}
use Rattle.std.proofs.Math.ListN.{length, replicate, length-replicate}
use lib.Seq.{sets, sets-eq, take_at, drop_at}
use Rattle.records.specs.Record.{record_width, node_numbers}
use Rattle.records.specs.RecordLaws.{node_wide}
use Rattle.records.specs.Layout.{laid_nodes, stored}
use Rattle.provenance.specs.Layout.{flat, laid_by}
use Rattle.records.specs.declared.record.Node.{Node}

pub drop-replicate : (n m a : ℕ) → drop n (replicate m a) ≡ replicate (m - n) a
drop-replicate zero m a = let e : m - 0 ≡ m = omega arith in rw e
drop-replicate (suc n) zero a = let e : 0 - suc n ≡ 0 = omega arith in rw e
drop-replicate (suc n) (suc m) a = let e : suc m - suc n ≡ m - n = omega arith in rw e (drop-replicate n m a)

pub take-replicate : (n m a : ℕ) → n ≤ m → take n (replicate m a) ≡ replicate n a
take-replicate zero m a h = refl
take-replicate (suc n) zero a h = absurd (omega arith)
take-replicate (suc n) (suc m) a h = ap (λ (l : List ℕ). a ∷ l) (take-replicate n m a (omega arith))

module _ {A : Type 0} (w : ℕ) (f : A → List ℕ) (wide : (x : A) → length (f x) ≡ w) where
  pub flat-length : (xs : List A) → length (flat f xs) ≡ w * length xs
  flat-length [] = sym (mul-zero w)
  flat-length (x ∷ xs) = let h : length (flat f xs) ≡ w * length xs = flat-length xs in let k : length (f x) ≡ w = wide x in simp (length-append, mul-suc) (omega arith)

  pub flat_append : (xs ys : List A) → flat f (xs ++ ys) ≡ flat f xs ++ flat f ys
  flat_append [] ys = refl
  flat_append (x ∷ xs) ys = ap (λ (l : List ℕ). f x ++ l) (flat_append xs ys) ∙ sym (append_assoc (f x) (flat f xs) (flat f ys))

  times : (xs ys : List A) → w * length (xs ++ ys) ≡ w * length xs + w * length ys
  times xs ys = simp (length-append, mul-add)

  pub laid_none : (cap : ℕ) → laid_by w f cap [] ≡ replicate cap 0
  unfolding laid_by
  laid_none cap = let e : cap - w * 0 ≡ cap = simp mul-zero (omega arith) in rw e

  pub laid_fits : (cap : ℕ) (xs : List A) (b : List ℕ) → b ≡ laid_by w f cap xs → length b ≡ cap → w * length xs ≤ cap
  unfolding laid_by
  laid_fits cap xs b e l =
      let q : length b ≡ w * length xs + (cap - w * length xs) = ap length e ∙ simp (length-append, length-replicate, flat-length) in
      omega arith

  module _ (cap : ℕ) (xs : List A) (n : ℕ) (is-n : n ≡ w * length xs) where
    -- the free part is zero
    pub laid_free : drop n (laid_by w f cap xs) ≡ replicate (cap - n) 0
    unfolding laid_by
    laid_free = rw is-n (drop_at (flat f xs) (replicate (cap - w * length xs) 0) (w * length xs) (flat-length xs))

    laid_used : take n (laid_by w f cap xs) ≡ flat f xs
    unfolding laid_by
    laid_used = rw is-n (take_at (flat f xs) (replicate (cap - w * length xs) 0) (w * length xs) (flat-length xs))

    -- a part that was lent from the first free number, filled from its own 0
    pub laid_on : (ys : List A) → take n (laid_by w f cap xs) ++ laid_by w f (cap - n) ys ≡ laid_by w f cap (xs ++ ys)
    unfolding laid_by
    laid_on ys =
        let j : cap - n - w * length ys ≡ cap - w * length (xs ++ ys) = let k = times xs ys in omega arith in
        ap (λ (l : List ℕ). l ++ (flat f ys ++ replicate (cap - n - w * length ys) 0)) laid_used
        ∙ sym (append_assoc (flat f xs) (flat f ys) (replicate (cap - n - w * length ys) 0))
        ∙ ap₂ (λ (l : List ℕ) (m : ℕ). l ++ replicate m 0) (sym (flat_append xs ys)) j

    laid_length : n ≤ cap → length (laid_by w f cap xs) ≡ cap
    unfolding laid_by
    laid_length h = simp (length-append, length-replicate, flat-length) (omega arith)

    one : (x : A) → f x ++ replicate (cap - n - length (f x)) 0 ≡ laid_by w f (cap - n) (x ∷ [])
    unfolding laid_by
    one x =
        let k : length (f x) ≡ w = wide x in
        let j : w * 1 ≡ w = native.Mathlib.Nat.mul-one w in
        let m : cap - n - length (f x) ≡ cap - n - w * 1 = omega arith in
        ap₂ (λ (l : List ℕ) (m : ℕ). l ++ replicate m 0) (sym (append-nil (f x))) m

    -- one entry more, written at the first free number
    pub laid_more : (x : A) → n + w ≤ cap → sets (laid_by w f cap xs) n (f x) ≡ laid_by w f cap (xs ++ (x ∷ []))
    laid_more x h =
        let k : length (f x) ≡ w = wide x in
        let l : length (laid_by w f cap xs) ≡ cap = laid_length (omega arith) in
        sets-eq (f x) (laid_by w f cap xs) n (omega arith)
        ∙ append_assoc (take n (laid_by w f cap xs)) (f x) (drop (n + length (f x)) (laid_by w f cap xs))
        ∙ ap (λ (r : List ℕ). take n (laid_by w f cap xs) ++ (f x ++ r)) (sym (lib.Seq.drop-drop (length (f x)) n (laid_by w f cap xs)) ∙ ap (drop (length (f x))) laid_free ∙ drop-replicate (length (f x)) (cap - n) 0)
        ∙ ap (λ (r : List ℕ). take n (laid_by w f cap xs) ++ r) (one x)
        ∙ laid_on (x ∷ [])

-- ---- records

pub nodes_none : (size : ℕ) → laid_nodes size [] ≡ replicate size 0
nodes_none size = laid_none record_width node_numbers node_wide size

-- the record of the next node, stored
pub nodes_more : (size : ℕ) (xs : List Node) (n : ℕ) (x : Node) → n ≡ length xs → record_width * n + record_width ≤ size → stored (laid_nodes size xs) n x ≡ laid_nodes size (xs ++ (x ∷ []))
unfolding stored
nodes_more size xs n x e h = laid_more record_width node_numbers node_wide size xs (record_width * n) (ap (λ (m : ℕ). record_width * m) e) x h
