-- The form of a scalar: which kind of row of the standard's table is the first to match it (P2), and what the code reads off
-- it. The forms are the code's, an enum; `Float` stands for the table's last three rows.
use Rattle.std.specs.Prelude.{ℕ, Bool, true, false, cond, List, eqb, ℤ, Option, None}
use Rattle.schema.specs.Integer.{ten, eight, sixteen, integer_in, held}
use Rattle.schema.specs.Standard.{Meaning, null_value, truth, integer, real, string, standard}
use Rattle.schema.specs.CoreSchema.{beyond}
use Rattle.schema.specs.Record.{number_of, kind_of}
use Rattle.schema.specs.declared.form.Form.{Form}
use Rattle.schema.specs.declared.form.Form.TheVariants.{Null, True, False, Decimal, Octal, Hexadecimal, Float, Other}
use Rattle.schema.specs.declared.record.Kind.{Kind}
use Rattle.schema.specs.declared.plain.Resolved.{Resolved}
use Rattle.schema.specs.declared.plain.Resolved.TheVariants.{Null as NoValue, Boolean, Real, Str, BadValue}

-- the form of a scalar that means this
abbrev pub form_for : Meaning → Form
form_for null_value = Null
form_for (truth b) = cond b True False
form_for (integer ten z) = Decimal
form_for (integer eight z) = Octal
form_for (integer sixteen z) = Hexadecimal
form_for real = Float
form_for string = Other

unfoldable pub form_of : List ℕ → Form
form_of s = form_for (standard s)

-- the integer of a scalar whose form is known
abbrev pub integer_of : Form → List ℕ → Option ℤ
integer_of Null s = None
integer_of True s = None
integer_of False s = None
integer_of Decimal s = held (integer_in ten s)
integer_of Octal s = held (integer_in eight s)
integer_of Hexadecimal s = held (integer_in sixteen s)
integer_of Float s = None
integer_of Other s = None

-- what a scalar of this form is that has no integer, or one that 64 signed bits do not hold
abbrev pub no_integer : Form → Resolved
no_integer Null = NoValue
no_integer True = Boolean true
no_integer False = Boolean false
no_integer Decimal = beyond ten
no_integer Octal = beyond eight
no_integer Hexadecimal = beyond sixteen
no_integer Float = Real
no_integer Other = Str

-- whether a real row matches a scalar of this form
abbrev pub real_form : Form → Bool
real_form Null = false
real_form True = false
real_form False = false
real_form Decimal = true
real_form Octal = false
real_form Hexadecimal = false
real_form Float = true
real_form Other = false

-- what the schema reads, where it is of the kind
abbrev pub of_kind : Resolved → Kind → Resolved
of_kind r kind = cond (eqb (number_of (kind_of r)) (number_of kind)) r BadValue
