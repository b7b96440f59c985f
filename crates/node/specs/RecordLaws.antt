-- Reading records is the inverse of laying them out (E2, N3).
use Rattle.std.specs.Prelude.{◌≡◌, refl, Bool, true, false, if◌then◌else◌, List, [], ◌∷◌, ◌++◌, ℕ, zero, suc, ◌+◌, ◌-◌, ◌*◌, ◌/◌, length, drop, replicate, ltb, Option, None, slice_get}
use Rattle.std.proofs.Common.{ap, ◌∙◌, append_assoc, arith, lt-ltb, length-append}
use Rattle.std.proofs.Math.Dec.{leb-suc-suc}
use Rattle.std.proofs.Math.Seq.{drop-append-add}
use Rattle.records.specs.Record.{record_width, node_numbers}
use Rattle.records.specs.RecordLaws.{node_wide, read_laid, read_zeros}
use Rattle.records.specs.Layout.{laid_nodes, node_at}
use Rattle.provenance.specs.Layout.{flat, laid_by}
use Rattle.records.specs.declared.record.Node.{Node}
use Rattle.node.specs.Chain.{◌>>=◌}
use Rattle.node.specs.Record.{existing, record_at}

-- ---- one record on

ltb-suc : (a b : ℕ) → ltb (suc a) (suc b) ≡ ltb a b
ltb-suc a b = leb-suc-suc (suc a) b

room_next : (m : ℕ) → (record_width + m) / record_width ≡ suc (m / record_width)
room_next m = omega arith

pub record_next : (r rest : List ℕ) (n : ℕ) → length r ≡ record_width → record_at (r ++ rest) (suc n) ≡ record_at rest n
unfolding record_at
record_next r rest n e =
    let l : length (r ++ rest) / record_width ≡ suc (length rest / record_width) = rw (length-append, e) (room_next (length rest)) in
    let k : record_width * suc n ≡ length r + record_width * n = omega arith in
    let d : drop (record_width * suc n) (r ++ rest) ≡ drop (record_width * n) rest = rw k (drop-append-add r rest (record_width * n)) in
    rw (l, d) (ap (λ (t : Bool). if t then existing (node_at rest n) else None) (ltb-suc n (length rest / record_width)))

first_whole : (r rest : List ℕ) → length r ≡ record_width → ltb 0 (length (r ++ rest) / record_width) ≡ true
first_whole r rest e = let l : length (r ++ rest) ≡ record_width + length rest = rw (length-append, e) in lt-ltb 0 (length (r ++ rest) / record_width) (omega arith)

-- the first record is the first node, if its kind is one
pub record_first : (x : Node) (rest : List ℕ) → record_at (node_numbers x ++ rest) 0 ≡ existing x
unfolding record_at
record_first x rest = rw (first_whole (node_numbers x) rest (node_wide x), read_laid x rest)

-- zeros are no record
pub record_zero : (m n : ℕ) → record_at (replicate m 0) n ≡ None
unfolding record_at existing
record_zero m n = rw (read_zeros m (record_width * n)) (never (ltb n (length (replicate m 0) / record_width)))
  where
    never : (t : Bool) → ◌≡◌ {A = Option Node} (if t then None else None) None
    never true = refl
    never false = refl

-- ---- every record

-- record n of nodes laid out is the n-th node, if its kind is one; past them there is none
pub record_laid : (size : ℕ) (xs : List Node) (n : ℕ) → record_at (laid_nodes size xs) n ≡ (slice_get xs n >>= existing)
unfolding laid_by
record_laid size [] n = record_zero (size - record_width * 0) n
record_laid size (x ∷ xs) zero = rw append_assoc (record_first x (flat node_numbers xs ++ replicate (size - record_width * length (x ∷ xs)) 0))
record_laid size (x ∷ xs) (suc n) =
    let k : size - record_width * length (x ∷ xs) ≡ (size - record_width) - record_width * length xs = omega arith in
    rw (append_assoc, k) (record_next (node_numbers x) (flat node_numbers xs ++ replicate ((size - record_width) - record_width * length xs) 0) n (node_wide x) ∙ record_laid (size - record_width) xs n)
