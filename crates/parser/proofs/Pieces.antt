-- Pieces in their buffer: the free part is zero, and is lent to a walk, which lays its own pieces out from its entry 0; the whole is then
-- the pieces so far and the walk's.
use mathlib.Core.Path.{◌≡◌, refl, sym, ap, ap₂, ◌∙◌}
use mathlib.Core.Bool.{Bool, true, false, cond}
use mathlib.Core.List.{List, [], ◌++◌, append-nil, append_assoc}
use Rattle.std.specs.Prelude.{Option, Some, None}
use Prim.Native.Nat.{ℕ, ◌+◌, ◌-◌, ◌*◌, ◌≤◌, ◌<◌}
use native.Mathlib.Omega.{arith}
use borrow.Author.Tests.{leb-false}
use borrow.Rule.Slice.PartMut.{put_mid, Post-is}
use lib.Dec.{leb}
use lib.ListN.{length, replicate, take, drop, length-append, length-drop, length-replicate, take-append-drop, replicate-append-replicate}
use lib.Seq.{take_all, drop-length, length-take-le}
use Rattle.provenance.specs.Reading.{Piece}
use Rattle.provenance.specs.Layout.{room, zeros, flat, piece_numbers, laid_pieces, answer_of, buffer_of, laid_by}
use Rattle.provenance.specs.declared.walk.Walked.{Walked}
use Rattle.provenance.specs.declared.walk.Walked.TheVariants.{Listed, NoRoom, NoList}
use Rattle.parser.specs.Held.{PiecesHeld}
use Rattle.records.specs.LayoutLaws.{laid_none, laid_fits, laid_free, laid_on, drop-replicate}

piece_wide : (p : Piece) → length (piece_numbers p) ≡ 4
piece_wide p = refl

pub filled_none : (size : ℕ) → laid_pieces size [] ≡ replicate size 0
filled_none size = laid_none 4 piece_numbers piece_wide size

pub filled_fits : (size : ℕ) (ps : List Piece) (p : List ℕ) → p ≡ laid_pieces size ps → length p ≡ size → 4 * length ps ≤ size
filled_fits size ps p e l = laid_fits 4 piece_numbers piece_wide size ps p e l

-- the same pieces in a longer buffer
pub filled_longer : (n size : ℕ) (ps : List Piece) (q p : List ℕ) → q ≡ laid_pieces n ps → length q ≡ n → n ≤ size → p ≡ replicate size 0 → q ++ drop n p ≡ laid_pieces size ps
unfolding laid_by
filled_longer n size ps q p e l h z =
    let f : 4 * length ps ≤ n = filled_fits n ps q e l in
    let k : n - 4 * length ps + (size - n) ≡ size - 4 * length ps = omega arith in
    ap₂ ◌++◌ e (ap (drop n) z ∙ drop-replicate n size 0)
    ∙ append_assoc (flat piece_numbers ps) (replicate (n - 4 * length ps) 0) (replicate (size - n) 0)
    ∙ ap (λ (l : List ℕ). flat piece_numbers ps ++ l) (replicate-append-replicate (n - 4 * length ps) (size - n) 0 ∙ ap (λ (m : ℕ). replicate m 0) k)

-- ---- a walk's answer, by the list it has

-- a walk over a lent part of so many numbers, all zero before
abbrev pub Walks : ℕ → Option (List Piece) → Walked → List ℕ → Type 0
Walks size None (Listed n) p = ⊥
Walks size None NoRoom p = ⊥
Walks size None NoList p = p ≡ zeros size
Walks size (Some ps) (Listed n) p = (n ≡ length ps) × (p ≡ laid_pieces size ps)
Walks size (Some ps) NoRoom p = (room size < length ps) × (p ≡ zeros size)
Walks size (Some ps) NoList p = ⊥

pub walks_of : (size : ℕ) (o : Option (List Piece)) (r : Walked) (p : List ℕ) → r ≡ answer_of (room size) o → p ≡ buffer_of size o → Walks size o r p
unfolding answer_of buffer_of
walks_of size None r p e f = rw e f
walks_of size (Some ps) r p e f = go (leb (length ps) (room size)) refl e f
  where
    go : (t : Bool) → leb (length ps) (room size) ≡ t → r ≡ cond t (Listed (length ps)) NoRoom → p ≡ cond t (laid_pieces size ps) (zeros size) → Walks size (Some ps) r p
    go true h e f = rw e (refl, f)
    go false h e f = rw e (leb-false (length ps) (room size) h, f)

-- ---- a tail that is lent, and comes back

tail_is : (a : ℕ) (xs : List ℕ) → take (length xs - a) (drop a xs) ≡ drop a xs
tail_is a xs = take_all (length xs - a) (drop a xs) (simp length-drop (omega arith))

pub put_tail : (a : ℕ) (xs ys : List ℕ) → a ≤ length xs → put_mid a (length xs - a) xs ys ≡ take a xs ++ ys
put_tail a xs ys h = ap (λ (l : List ℕ). take a xs ++ (ys ++ l)) (Post-is a (length xs) xs h ∙ drop-length xs) ∙ ap (λ (l : List ℕ). take a xs ++ l) (append-nil ys)

module _ {size n : ℕ} {ps : List Piece} {p : List ℕ} (h : PiecesHeld size ps n p) where
  taken : 4 * n ≡ 4 * length ps
  taken = let e = h.pieces_are in omega arith

  tail_zero : drop (4 * n) p ≡ replicate (size - 4 * n) 0
  tail_zero = ap (drop (4 * n)) h.pieces_hold ∙ laid_free 4 piece_numbers piece_wide size ps (4 * n) taken

  -- the free part
  abbrev pub free : List ℕ
  free = take (length p - 4 * n) (drop (4 * n) p)

  pub free_len : length free ≡ size - 4 * n
  free_len = ap length (tail_is (4 * n) p ∙ tail_zero) ∙ length-replicate (size - 4 * n) 0

  pub free_zero : free ≡ replicate (length free) 0
  free_zero = tail_is (4 * n) p ∙ tail_zero ∙ ap (λ (m : ℕ). replicate m 0) (sym free_len)

  -- come back as it was lent
  pub back_zero : (ys : List ℕ) → ys ≡ replicate (size - 4 * n) 0 → take (4 * n) p ++ ys ≡ p
  back_zero ys is = ap (λ (l : List ℕ). take (4 * n) p ++ l) (is ∙ sym tail_zero) ∙ take-append-drop (4 * n) p

  -- with the walk's pieces in it
  pub back_with : (qs : List Piece) (ys : List ℕ) → ys ≡ laid_pieces (size - 4 * n) qs → length ys ≡ size - 4 * n
      → PiecesHeld size (ps ++ qs) (n + length qs) (take (4 * n) p ++ ys)
  back_with qs ys is len =
      let fits : 4 * length qs ≤ size - 4 * n = filled_fits (size - 4 * n) qs ys is len in
      let front : length (take (4 * n) p) ≡ 4 * n = length-take-le (4 * n) p (omega (arith, h.pieces_fit, h.pieces_size_is)) in
      record {
        pieces_size_is = length-append (take (4 * n) p) ys ∙ omega (arith, front, len, h.pieces_fit);
        pieces_are = length-append ps qs ∙ ap (λ (m : ℕ). m + length qs) h.pieces_are;
        pieces_hold = ap₂ (λ (l r : List ℕ). take (4 * n) l ++ r) h.pieces_hold is ∙ laid_on 4 piece_numbers piece_wide size ps (4 * n) taken qs;
        pieces_fit = omega (arith, h.pieces_fit);
        pieces_few = h.pieces_few;
      }
