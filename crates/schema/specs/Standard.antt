-- The core schema as the standard has it (P2; YAML 1.2.2, 10.3.2), with integers of any size: nothing here knows of 64 bits.
-- `table` is the standard's table, row by row and in its order: an expression, and what a scalar resolves to that it matches.
-- The first row that matches decides, and a scalar that no row matches is a string. That by `Matches`, both ways, and where the
-- order of the rows tells, is `StandardSchema` (specs/Statements.antt).
use Rattle.std.specs.Prelude.{ℕ, Bool, cond, List, [], ◌∷◌, ℤ}
use Rattle.schema.specs.Regex.{Regex}
use Rattle.schema.specs.Matcher.{accepts}
use Rattle.schema.specs.Rows.{null_word, nothing, boolean, true_word, decimal, octal, hexadecimal, number, infinity, not_a_number}
use Rattle.schema.specs.Integer.{Base, ten, eight, sixteen, integer_in}

-- what a row resolves to, by the name of its tag; an integer with its base
pub data Kind : Type 0 where
  null : Kind
  bool : Kind
  int : Base → Kind
  float : Kind

pub record Row : Type 0 where
  pub expression : Regex
  pub kind : Kind

abbrev pub row : Regex → Kind → Row
row r k = record { expression = r; kind = k }

unfoldable pub table : List Row
table =
    row null_word null
    ∷ row nothing null
    ∷ row boolean bool
    ∷ row decimal (int ten)
    ∷ row octal (int eight)
    ∷ row hexadecimal (int sixteen)
    ∷ row number float
    ∷ row infinity float
    ∷ row not_a_number float
    ∷ []

-- what a scalar means by the standard; a real and a string stand in the scalar's own bytes
pub data Meaning : Type 0 where
  null_value : Meaning
  truth : Bool → Meaning
  integer : Base → ℤ → Meaning
  real : Meaning
  string : Meaning

-- what a row of a kind reads in a scalar that it matches
abbrev pub reads : Kind → List ℕ → Meaning
reads null s = null_value
reads bool s = truth (accepts true_word s)
reads (int base) s = integer base (integer_in base s)
reads float s = real

unfoldable pub first_match : List Row → List ℕ → Meaning
first_match [] s = string
first_match (r ∷ rs) s = cond (accepts r.expression s) (reads r.kind s) (first_match rs s)

abbrev pub standard : List ℕ → Meaning
standard s = first_match table s
