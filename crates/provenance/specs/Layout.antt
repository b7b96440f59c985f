-- What a walk answers, and every number of the buffer that it was lent (S13, E3, E4). The buffer is lent zero and has `size` numbers;
-- its room is whole pieces of four. A list that fits stands from entry 0, and zeros follow it. Without a list, and without room for
-- all of it, the buffer is all zero.
use Rattle.std.specs.Prelude.{cond, ℕ, ◌-◌, ◌*◌, ◌/◌, List, [], ◌∷◌, ◌++◌, leb, length, replicate, None, Option, Some}
use Rattle.provenance.specs.declared.walk.Walked.{Walked}
use Rattle.provenance.specs.declared.walk.Walked.TheVariants.{Listed, NoRoom, NoList}
use Rattle.provenance.specs.declared.step.Step.{Step}
use Rattle.provenance.specs.Reading.{Piece, pieces_of}

abbrev pub zeros : ℕ → List ℕ
zeros n = replicate n 0

-- the numbers of every entry, in order
abbrev pub flat : {A : Type 0} → (A → List ℕ) → List A → List ℕ
flat f [] = []
flat f (x ∷ xs) = f x ++ flat f xs

-- entries of w numbers from the front of a buffer of `size` numbers, and zeros past them
unfoldable pub laid_by : {A : Type 0} → ℕ → (A → List ℕ) → ℕ → List A → List ℕ
laid_by w f size xs = flat f xs ++ zeros (size - w * length xs)

-- the four numbers of a piece
abbrev pub piece_width : ℕ
piece_width = 4

abbrev pub piece_numbers : Piece → List ℕ
piece_numbers p = p.kind ∷ p.start ∷ p.end ∷ p.content ∷ []

abbrev pub laid_pieces : ℕ → List Piece → List ℕ
laid_pieces = laid_by piece_width piece_numbers

-- how many pieces a buffer has room for
abbrev pub room : ℕ → ℕ
room size = size / piece_width

-- document 01's number for each answer of a walk
abbrev pub walked_number : Walked → ℕ
walked_number (Listed n) = 0
walked_number NoRoom = 8
walked_number NoList = 0

-- a piece list, or that there is none, as the walk answers it where so many pieces are let in
unfoldable pub answer_of : ℕ → Option (List Piece) → Walked
answer_of most None = NoList
answer_of most (Some ps) = cond (leb (length ps) most) (Listed (length ps)) NoRoom

-- the pieces that are left
unfoldable pub left_of : ℕ → Option (List Piece) → List Piece
left_of most None = []
left_of most (Some ps) = cond (leb (length ps) most) ps []

unfoldable pub buffer_of : ℕ → Option (List Piece) → List ℕ
buffer_of size None = zeros size
buffer_of size (Some ps) = cond (leb (length ps) (room size)) (laid_pieces size ps) (zeros size)

-- the pieces of a reading, if there is one
unfoldable pub pieces_if : ℕ → Option (List Step) → Option (List Piece)
pieces_if base None = None
pieces_if base (Some ts) = Some (pieces_of base ts)
