-- A scalar by the table's rows of one kind, as a standard tag asks for it (S10): `!!int` by the integer rows, `!!float` by
-- the real rows, one of which matches a digit run too. That it does not matter in which order those rows stand is
-- `AnyOrder` (specs/Statements.antt).
use Rattle.std.specs.Prelude.{ℕ, Bool, true, false, cond, List, [], ◌∷◌, ℤ, Option, None}
use Prim.Native.String.{String}
use Rattle.utf8.specs.Ascii.{bytes, same_bytes}
use Rattle.schema.specs.Integer.{held}
use Rattle.schema.specs.Standard.{Kind, null, bool, int, float, Row, table, Meaning, null_value, truth, integer, real, string, first_match}

abbrev pub tag_name : Kind → String
tag_name null = "null"
tag_name bool = "bool"
tag_name (int base) = "int"
tag_name float = "float"

abbrev pub has_name : List ℕ → Kind → Bool
has_name name k = same_bytes (bytes (tag_name k)) name

-- the rows of some kinds, in their order
abbrev pub rows_of : (Kind → Bool) → List Row → List Row
rows_of p [] = []
rows_of p (r ∷ rs) = cond (p r.kind) (r ∷ rows_of p rs) (rows_of p rs)

-- what the rows of a tag read in a scalar; a string where none of them matches
unfoldable pub read_as : List ℕ → List ℕ → Meaning
read_as name s = first_match (rows_of (has_name name) table) s

-- the integer of a meaning, where it is one that 64 signed bits hold
abbrev pub integer_read : Meaning → Option ℤ
integer_read null_value = None
integer_read (truth b) = None
integer_read (integer base z) = held z
integer_read real = None
integer_read string = None

abbrev pub is_real : Meaning → Bool
is_real null_value = false
is_real (truth b) = false
is_real (integer base z) = false
is_real real = true
is_real string = false

-- the integer of a scalar that an integer row matches
unfoldable pub core_integer : List ℕ → Option ℤ
core_integer s = integer_read (read_as (bytes "int") s)

-- whether a real row matches a scalar; one matches a digit run
unfoldable pub core_real : List ℕ → Bool
core_real s = is_real (read_as (bytes "float") s)
