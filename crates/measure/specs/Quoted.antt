-- The quoted measure (P4, S6; 02, (b)), by bytes: from the opening mark to the closing one. The value's length stands in where either is
-- missing (S8). A backslash may be the text's last byte; then nothing is left to close the scalar.
use Rattle.std.specs.Prelude.{ℕ, ◌+◌, Bool, ◌&&◌, ◌||◌, cond, List, [], ◌∷◌, eqb, length, Option, Some, None}
use Rattle.utf8.specs.Ascii.{single_quote, double_quote, backslash}
use Rattle.measure.specs.Length.{measured, assumed}
use Rattle.measure.specs.declared.length.Measure.{Measure}

-- found n bytes further on
abbrev pub further : ℕ → Option ℕ → Option ℕ
further n (Some m) = Some (n + m)
further n None = None

-- two bytes that are passed together: in double quotes a backslash and any byte, in single ones `''` (S6)
unfoldable pub passed_together : ℕ → ℕ → ℕ → Bool
passed_together quote a b =
    (eqb quote double_quote && eqb a backslash) || (eqb quote single_quote && (eqb a quote && eqb b quote))

-- the bytes from inside a quoted scalar through its closing mark (S6)
unfoldable pub to_closing : ℕ → List ℕ → Option ℕ
to_closing quote [] = None
to_closing quote (a ∷ []) = cond (eqb a quote) (Some 1) None
to_closing quote (a ∷ b ∷ s) =
    cond (passed_together quote a b) (further 2 (to_closing quote s))
    (cond (eqb a quote) (Some 1) (further 1 (to_closing quote (b ∷ s))))

-- the length of a quoted scalar, from its opening mark through its closing one (P4)
unfoldable pub quoted_len : List ℕ → ℕ → Option ℕ
quoted_len [] quote = None
quoted_len (a ∷ s) quote = cond (eqb a quote) (further 1 (to_closing quote s)) None

-- found, which is measured; or else n, which is assumed (02, (b))
abbrev pub found_or : ℕ → Option ℕ → Measure
found_or n (Some m) = measured m
found_or n None = assumed n

-- a quoted scalar: the value's length where a mark is missing (S8)
unfoldable pub quoted_measure : List ℕ → List ℕ → ℕ → Measure
quoted_measure rest value quote = found_or (length value) (quoted_len rest quote)

abbrev pub quoted_or_value_len : List ℕ → List ℕ → ℕ → ℕ
quoted_or_value_len rest value quote = (quoted_measure rest value quote).len
