-- `put_piece` meets its contract: four stores, where there is room.
use Rattle.std.proofs.Common.{◌≡◌, ◌<◌, ℕ, suc, ◌+◌, ◌*◌, List, [], ◌∷◌, set, length, arith, lt-ltb}
use Rattle.std.proofs.lemmas.List.Edits.{sets}
use Rattle.provenance.specs.Layout.{room}
use Rattle.provenance.specs.Writing.{put_piece}
use Rattle.provenance.proofs.write.put_piece.Goals as goal

four_stores : (l : List ℕ) (i k a e c : ℕ) → set (set (set (set l i k) (i + 1) a) (i + 2) e) (i + 3) c ≡ sets l i (k ∷ a ∷ e ∷ c ∷ [])
four_stores l i k a e c =
    let one : i + 1 ≡ suc i = omega arith in
    let two : i + 2 ≡ suc (suc i) = omega arith in
    let three : i + 3 ≡ suc (suc (suc i)) = omega arith in
    rw (one, two, three)

pub returns-then-n-room : goal.returns-then-n-room
unfolding put_piece
returns-then-n-room c =
    let a = c.args in
    let h : a.n < room (length a.pieces.now) = omega arith in
    rw (lt-ltb _ _ h) (four_stores a.pieces.now (4 * a.n) a.piece.kind a.piece.start a.piece.end a.piece.content)
