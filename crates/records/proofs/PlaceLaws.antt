-- One record of many: it is read where it is laid, and a parent that is put there is that of the node.
use Rattle.std.specs.Prelude.{◌≡◌, ℕ, suc, ◌+◌, ◌-◌, ◌*◌, take, set}
use Rattle.std.proofs.Math.Path.{sym, ap}
use Rattle.std.proofs.Common.{◌∙◌, length-append}
use mathlib.Core.List.{List, ◌∷◌, ◌++◌, append_assoc}
use Rattle.std.proofs.Math.ListN.{length, replicate}
use lib.Seq.{drop_at, set_at}
use Rattle.records.specs.Record.{record_width, node_numbers, with_parent, at_parent}
use Rattle.records.specs.RecordLaws.{node_wide, read_laid}
use Rattle.records.specs.Layout.{laid_nodes, parent_stored, node_at}
use Rattle.records.specs.LayoutLaws.{flat_append, flat-length}
use Rattle.provenance.specs.Layout.{flat, laid_by}
use Rattle.records.specs.declared.record.Node.{Node}

-- what stands before a record's numbers, and from them on
laid_at : (size : ℕ) (xs : List Node) (x : Node) (ys : List Node)
    → laid_nodes size (xs ++ (x ∷ ys)) ≡ flat node_numbers xs ++ (node_numbers x ++ (flat node_numbers ys ++ replicate (size - record_width * (length xs + suc (length ys))) 0))
unfolding laid_by
laid_at size xs x ys =
    rw (flat_append record_width node_numbers node_wide xs (x ∷ ys), length-append xs (x ∷ ys))
    (append_assoc (flat node_numbers xs) (node_numbers x ++ flat node_numbers ys) _
    ∙ ap (λ (l : List ℕ). flat node_numbers xs ++ l) (append_assoc (node_numbers x) (flat node_numbers ys) _))

pub node_laid : (size : ℕ) (xs : List Node) (x : Node) (ys : List Node) → node_at (laid_nodes size (xs ++ (x ∷ ys))) (length xs) ≡ x
node_laid size xs x ys =
    let rest = flat node_numbers ys ++ replicate (size - record_width * (length xs + suc (length ys))) 0 in
    let front = flat-length record_width node_numbers node_wide xs in
    rw (laid_at size xs x ys, drop_at (flat node_numbers xs) (node_numbers x ++ rest) (record_width * length xs) front) (read_laid x rest)

-- the numbers before the parent
before_parent : Node → List ℕ
before_parent x = take at_parent (node_numbers x)

-- a record whose parent is put is that of the node with this parent
pub parent_laid : (size : ℕ) (xs : List Node) (x : Node) (ys : List Node) (p : ℕ)
    → parent_stored (laid_nodes size (xs ++ (x ∷ ys))) (length xs) p ≡ laid_nodes size (xs ++ (with_parent x p ∷ ys))
unfolding parent_stored before_parent node_numbers
parent_laid size xs x ys p =
    let rest = flat node_numbers ys ++ replicate (size - record_width * (length xs + suc (length ys))) 0 in
    let l : length (flat node_numbers xs ++ before_parent x) ≡ record_width * length xs + at_parent =
    rw length-append (ap (λ (n : ℕ). n + at_parent) (flat-length record_width node_numbers node_wide xs)) in
    ap (λ (b : List ℕ). set b (record_width * length xs + at_parent) p)
    (laid_at size xs x ys ∙ sym (append_assoc (flat node_numbers xs) (before_parent x) (x.parent ∷ x.measured ∷ rest)))
    ∙ set_at (flat node_numbers xs ++ before_parent x) x.parent (x.measured ∷ rest) p (record_width * length xs + at_parent) l
    ∙ append_assoc (flat node_numbers xs) (before_parent x) (p ∷ x.measured ∷ rest)
    ∙ sym (laid_at size xs (with_parent x p) ys)
