-- The core schema of document 01 (P2): what the standard reads, but for two exceptions, both of range: a decimal integer
-- beyond 64 signed bits is a real, one in base 8 or 16 a string. They are `beyond` and stand nowhere else: `CoreSchema`
-- (specs/Statements.antt).
use Rattle.std.specs.Prelude.{ℕ, List, ℤ, Option, Some, None}
use Rattle.schema.specs.Integer.{Base, ten, eight, sixteen, held}
use Rattle.schema.specs.Standard.{Meaning, null_value, truth, integer, real, string, standard}
unfoldable pub use Rattle.schema.specs.Standard.{table, first_match}
use Rattle.schema.specs.declared.plain.Resolved.{Resolved}
use Rattle.schema.specs.declared.plain.Resolved.TheVariants.{Null, Boolean, Integer, Real, Str}

-- the integer, or something else where there is none
abbrev pub integer_or : Option ℤ → Resolved → Resolved
integer_or (Some z) other = Integer z
integer_or None other = other

-- what an integer of a base is that 64 signed bits do not hold
abbrev pub beyond : Base → Resolved
beyond ten = Real
beyond eight = Str
beyond sixteen = Str

abbrev pub limited : Meaning → Resolved
limited null_value = Null
limited (truth b) = Boolean b
limited (integer base z) = integer_or (held z) (beyond base)
limited real = Real
limited string = Str

unfoldable pub core_schema : List ℕ → Resolved
core_schema s = limited (standard s)
