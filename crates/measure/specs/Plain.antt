-- The plain measure (P3, S5; 02, (b)). The value's characters are matched in turn with those of the rest. What a match says is how far the
-- span reaches from here: 0 bytes where no later character is equal, so that the span ends after the last equal one.
use Rattle.std.specs.Prelude.{ℕ, zero, suc, ◌+◌, Bool, false, ◌&&◌, ◌||◌, cond, List, [], ◌∷◌, eqb, length, drop}
use Rattle.utf8.specs.Utf8.{encode}
use Rattle.utf8.specs.Characters.{codes}
use Rattle.measure.specs.Run.{bytes_of, white_space_run, after_run, holds_newline}
use Rattle.utf8.specs.Ascii.{newline, blank}
use Rattle.measure.specs.Length.{measured, assumed}
use Rattle.measure.specs.declared.length.Measure.{Measure}

-- a character that a folded line break can become: a blank or a newline (S5)
unfoldable pub is_fold : ℕ → Bool
is_fold c = eqb c blank || eqb c newline

pub data Reach : Type 0 where
  -- the value does not line up with the rest
  unmatched : Reach
  -- it does, and the last equal character ends so many bytes from here
  reaches : ℕ → Reach

-- past an equal character of n bytes
abbrev pub past_equal : ℕ → Reach → Reach
past_equal n unmatched = unmatched
past_equal n (reaches m) = reaches (n + m)

-- past a run of n bytes, which is left out where nothing equal follows
abbrev pub past_run : ℕ → Reach → Reach
past_run n unmatched = unmatched
past_run n (reaches zero) = reaches 0
past_run n (reaches (suc m)) = reaches (n + suc m)

-- whether the characters begin with c
unfoldable pub begins_with : ℕ → List ℕ → Bool
begins_with c [] = false
begins_with c (d ∷ ds) = eqb c d

-- whether the character c of the value takes the white-space run that the rest begins with: only if that holds a newline (S5)
unfoldable pub takes_run : ℕ → List ℕ → Bool
takes_run c rest = is_fold c && holds_newline (white_space_run rest)

-- of the value's characters and the rest's: a character takes a run, or is equal, or nothing matches (S5)
unfoldable pub plain_reach : List ℕ → List ℕ → Reach
plain_reach [] rest = reaches 0
plain_reach (c ∷ cs) rest =
    cond (takes_run c rest) (past_run (bytes_of (white_space_run rest)) (plain_reach cs (after_run rest)))
    (cond (begins_with c rest) (past_equal (length (encode c)) (plain_reach cs (drop 1 rest)))
    unmatched)

-- how far it reaches, which is measured; or else n, which is assumed (02, (b))
abbrev pub measured_or : ℕ → Reach → Measure
measured_or n unmatched = assumed n
measured_or n (reaches m) = measured m

-- a plain scalar: the value's length where the two do not line up (P3)
unfoldable pub plain_measure : List ℕ → List ℕ → Measure
plain_measure rest value = measured_or (length value) (plain_reach (codes value) (codes rest))

abbrev pub plain_len : List ℕ → List ℕ → ℕ
plain_len rest value = (plain_measure rest value).len
