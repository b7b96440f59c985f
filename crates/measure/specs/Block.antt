-- The block measure (P5, S7), by lines of characters, which end at newlines and at nothing else. The block goes on until a line, not
-- the first and not blank, has fewer bytes of leading white space than the column. What a line says is how far the block
-- reaches from its start: 0 bytes where it and all later ones are blank.
use Rattle.std.specs.Prelude.{ℕ, zero, suc, ◌+◌, Bool, true, not, ◌&&◌, cond, List, [], ◌∷◌, eqb, ltb, length}
use Rattle.utf8.specs.Utf8.{encode}
use Rattle.utf8.specs.Characters.{codes}
use Rattle.utf8.specs.WhiteSpace.{is_white_space}
use Rattle.measure.specs.Run.{bytes_of, white_space_run}
use Rattle.utf8.specs.Ascii.{newline}

-- a character before the first of some lines
abbrev pub onto_first : ℕ → List (List ℕ) → List (List ℕ)
onto_first c [] = (c ∷ []) ∷ []
onto_first c (l ∷ ls) = (c ∷ l) ∷ ls

-- the lines, without their newlines (S7)
unfoldable pub lines : List ℕ → List (List ℕ)
lines [] = [] ∷ []
lines (c ∷ cs) = cond (eqb c newline) ([] ∷ lines cs) (onto_first c (lines cs))

-- nothing but white space, by code points (W1)
unfoldable pub is_blank : List ℕ → Bool
is_blank [] = true
is_blank (c ∷ cs) = is_white_space c && is_blank cs

-- the bytes of a line up to its last character that is no white space; 0 of a blank line
unfoldable pub trimmed_len : List ℕ → ℕ
trimmed_len [] = 0
trimmed_len (c ∷ cs) = cond (is_blank (c ∷ cs)) 0 (length (encode c) + trimmed_len cs)

-- whether a line that is not the first ends the block: it is not blank and not indented up to the column (S7)
unfoldable pub ends_block : ℕ → List ℕ → Bool
ends_block column l = not (is_blank l) && ltb (bytes_of (white_space_run l)) column

-- past a line and its newline, where what follows reaches n bytes; to the line's own end where it reaches none
abbrev pub past_line : List ℕ → ℕ → ℕ
past_line l zero = trimmed_len l
past_line l (suc n) = bytes_of l + 1 + suc n

-- of lines after the first
unfoldable pub later_reach : ℕ → List (List ℕ) → ℕ
later_reach column [] = 0
later_reach column (l ∷ ls) = cond (ends_block column l) 0 (past_line l (later_reach column ls))

-- of all lines: the first is not held against the column
unfoldable pub block_reach : ℕ → List (List ℕ) → ℕ
block_reach column [] = 0
block_reach column (l ∷ ls) = past_line l (later_reach column ls)

-- the length of a block scalar (P5)
unfoldable pub block_len : List ℕ → ℕ → ℕ
block_len rest column = block_reach column (lines (codes rest))
