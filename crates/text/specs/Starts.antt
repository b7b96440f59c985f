-- The characters that begin among some bytes: as many as there are bytes that continue none. Where a text is cut between two characters,
-- that is how many it has; a cut within one counts it. The marker cursor passes over a text by this; that it
-- then stands is proved in proofs/Starts.antt.
use Rattle.std.specs.Prelude.{ℕ, ◌+◌, not, List, [], ◌∷◌}
use Rattle.utf8.specs.Class.{is_continuation, counts}

-- one if a character begins with b
abbrev pub begun : ℕ → ℕ
begun b = counts (not (is_continuation b)) 1

unfoldable pub starts : List ℕ → ℕ
starts [] = 0
starts (b ∷ s) = begun b + starts s
