-- Pieces written into a buffer one after the other (E3). The walk writes as it reads: the verbatim bytes that it has passed since the
-- last replacement are one piece, which is written when a replacement or the value's end comes. Past the room nothing is written.
use Rattle.std.specs.Prelude.{cond, ℕ, ◌+◌, ◌-◌, ◌*◌, List, ◌++◌, ltb, length, drop}
use Rattle.std.proofs.lemmas.List.Edits.{sets}
use Rattle.provenance.specs.Reading.{Piece, piece, verbatim, replacement}
use Rattle.provenance.specs.Layout.{piece_width, piece_numbers, room, zeros}

-- piece number n, where there is room for it
unfoldable pub put_piece : List ℕ → ℕ → Piece → List ℕ
put_piece buf n p = cond (ltb n (room (length buf))) (sets buf (piece_width * n) (piece_numbers p)) buf

-- the verbatim bytes from..s of the source, if there are any
unfoldable pub put_open : List ℕ → ℕ → ℕ → ℕ → ℕ → List ℕ
put_open buf n base from s = cond (ltb from s) (put_piece buf n (piece verbatim (base + from) (base + s) (s - from))) buf

-- how many pieces there are then
abbrev pub count_open : ℕ → ℕ → ℕ → ℕ
count_open n from s = cond (ltb from s) (n + 1) n

-- and after them a replacement of a source bytes and b content bytes
unfoldable pub put_replacement : List ℕ → ℕ → ℕ → ℕ → ℕ → ℕ → ℕ → List ℕ
put_replacement buf n base from s a b =
    put_piece (put_open buf n base from s) (count_open n from s) (piece replacement (base + s) (base + s + a) b)

-- the first numbers of a buffer cleared
abbrev pub cleared_to : ℕ → List ℕ → List ℕ
cleared_to n buf = zeros n ++ drop n buf

-- how many numbers n pieces took
unfoldable pub written_len : ℕ → ℕ → ℕ
written_len n size = cond (ltb n (room size)) (piece_width * n) (piece_width * room size)
