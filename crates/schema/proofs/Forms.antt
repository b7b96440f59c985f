-- The definitions by the form of a scalar: each equals what it reads off the form. What the first row of a list reads is what
-- its form says (`by_form`), whatever the rows; and the form by the rows of one kind is told by the form by all of them, which
-- is one computed test over the automaton's states for each kind.
use mathlib.Core.Path.{◌≡◌, refl, sym, ◌∙◌, ap}
use mathlib.Core.Bool.{Bool, true, false, cond}
use mathlib.Core.List.{List, [], ◌∷◌}
use Prim.Native.Nat.{ℕ}
use Rattle.std.specs.Prelude.{ℤ, Option, Some, None}
use lib.Dec.{eqb}
use Rattle.utf8.specs.Ascii.{bytes, Bytes, same_bytes}
use Rattle.schema.specs.Matcher.{nullable, derivative, accepts}
use Rattle.schema.specs.Rows.{true_word, decimal, octal, hexadecimal, number, infinity, not_a_number}
use Rattle.schema.specs.Integer.{ten, eight, sixteen, integer_in, held}
use Rattle.schema.specs.Standard.{Kind, null, bool, int, float, Row, table, Meaning, null_value, truth, integer, real, string, reads, first_match, standard}
use Rattle.schema.specs.CoreSchema.{integer_or, beyond, limited, core_schema}
use Rattle.schema.specs.Form.{form_for, form_of, integer_of, no_integer, real_form, of_kind}
use Rattle.schema.specs.Automaton.{texts, flags}
use Rattle.schema.specs.Kinds.{has_name, rows_of, read_as, integer_read, is_real, core_integer, core_real}
use Rattle.schema.specs.Tag.{fitted, tagged_as}
use Rattle.schema.specs.declared.form.Form.{Form}
use Rattle.schema.specs.declared.form.Form.TheVariants.{Null, True, False, Decimal, Octal, Hexadecimal, Float, Other}
use Rattle.schema.specs.Record.{number_of}
use Rattle.schema.specs.declared.record.Kind.{Kind as RecordKind}
use Rattle.schema.specs.declared.record.Kind.TheVariants as kind
use Rattle.schema.specs.declared.plain.Resolved.{Resolved}
use Rattle.schema.specs.declared.plain.Resolved.TheVariants.{Real, BadValue}
use Rattle.schema.proofs.Flags.{form_by, form_at, form_by_lem, form_is, InStates, by_states, same_form, same_form_lem}

-- ---- what a scalar means whose form is known
abbrev pub meaning_of : Form → List ℕ → Meaning
meaning_of Null s = null_value
meaning_of True s = truth true
meaning_of False s = truth false
meaning_of Decimal s = integer ten (integer_in ten s)
meaning_of Octal s = integer eight (integer_in eight s)
meaning_of Hexadecimal s = integer sixteen (integer_in sixteen s)
meaning_of Float s = real
meaning_of Other s = string

truth_form : (b : Bool) (s : List ℕ) → truth b ≡ meaning_of (form_for (truth b)) s
truth_form true s = refl
truth_form false s = refl

pub kind_by_form : (k : Kind) (s : List ℕ) → reads k s ≡ meaning_of (form_for (reads k s)) s
kind_by_form null s = refl
kind_by_form bool s = truth_form (accepts true_word s) s
kind_by_form (int ten) s = refl
kind_by_form (int eight) s = refl
kind_by_form (int sixteen) s = refl
kind_by_form float s = refl

either_form : (b : Bool) (m n : Meaning) (s : List ℕ) → m ≡ meaning_of (form_for m) s → n ≡ meaning_of (form_for n) s
    → cond b m n ≡ meaning_of (form_for (cond b m n)) s
either_form true m n s e f = e
either_form false m n s e f = f

pub by_form : (rs : List Row) (s : List ℕ) → first_match rs s ≡ meaning_of (form_for (first_match rs s)) s
unfolding first_match
by_form [] s = refl
by_form (r ∷ rs) s = either_form (accepts r.expression s) (reads r.kind s) (first_match rs s) s (kind_by_form r.kind s) (by_form rs s)

-- ---- by all rows
pub standard_by_form : (s : List ℕ) → standard s ≡ meaning_of (form_of s) s
unfolding form_of
standard_by_form s = by_form table s

abbrev read_plain : Form → List ℕ → Resolved
read_plain f s = integer_or (integer_of f s) (no_integer f)

plain_read : (f : Form) (s : List ℕ) → limited (meaning_of f s) ≡ read_plain f s
plain_read Null s = refl
plain_read True s = refl
plain_read False s = refl
plain_read Decimal s = refl
plain_read Octal s = refl
plain_read Hexadecimal s = refl
plain_read Float s = refl
plain_read Other s = refl

pub core_schema_lem : (s : List ℕ) → core_schema s ≡ read_plain (form_of s) s
unfolding core_schema
core_schema_lem s = ap limited (standard_by_form s) ∙ plain_read (form_of s) s

-- ---- by the rows of one kind: the form by them is told by the form by all
abbrev Told : List ℕ → (Form → Form) → Type 0
Told name only = InStates (λ fs. same_form (form_by (has_name name) fs) (only (form_at fs)))

module _ (name : List ℕ) (only : Form → Form) (t : Told name only) (s : List ℕ) (f : Bytes s) where
  only_form : form_by (has_name name) (flags s) ≡ only (form_at (flags s))
  only_form =
      same_form_lem (form_by (has_name name) (flags s)) (only (form_at (flags s)))
      (by_states (λ (fs : List Bool). same_form (form_by (has_name name) fs) (only (form_at fs))) t s f)

  read_as_lem : read_as name s ≡ meaning_of (only (form_of s)) s
  unfolding read_as
  read_as_lem =
      by_form (rows_of (has_name name) table) s
      ∙ ap (λ (g : Form). meaning_of g s) (form_by_lem (has_name name) s ∙ only_form ∙ ap only (sym (form_is s)))

-- the number of a form's kind; a string has none
abbrev kind_of : Form → ℕ
kind_of Null = 1
kind_of True = 2
kind_of False = 2
kind_of Decimal = 3
kind_of Octal = 3
kind_of Hexadecimal = 3
kind_of Float = 4
kind_of Other = 0

-- the form by the rows of one kind; by the real rows that of a digit run is `Float`
abbrev only : ℕ → Form → Form
only kind f = cond (eqb (kind_of f) kind) f Other

-- ---- integers
integers : Told (bytes "int") (only 3)
unfolding form_by table texts derivative nullable same_bytes
integers = refl

integer_read_lem : (f : Form) (s : List ℕ) → integer_read (meaning_of (only 3 f) s) ≡ integer_of f s
integer_read_lem Null s = refl
integer_read_lem True s = refl
integer_read_lem False s = refl
integer_read_lem Decimal s = refl
integer_read_lem Octal s = refl
integer_read_lem Hexadecimal s = refl
integer_read_lem Float s = refl
integer_read_lem Other s = refl

pub core_integer_lem : (s : List ℕ) → Bytes s → core_integer s ≡ integer_of (form_of s) s
unfolding core_integer
core_integer_lem s f = ap integer_read (read_as_lem (bytes "int") (only 3) integers s f) ∙ integer_read_lem (form_of s) s

fitted_integer : (d o x : Bool) (s : List ℕ)
    → let m = cond d (reads (int ten) s) (cond o (reads (int eight) s) (cond x (reads (int sixteen) s) string)) in
    integer_or (integer_read m) BadValue ≡ fitted m
fitted_integer true o x s = refl
fitted_integer false true x s = refl
fitted_integer false false true s = refl
fitted_integer false false false s = refl

pub tagged_int : (s : List ℕ) → integer_or (core_integer s) BadValue ≡ tagged_as (bytes "int") s
unfolding core_integer tagged_as read_as table first_match same_bytes
tagged_int s = fitted_integer (accepts decimal s) (accepts octal s) (accepts hexadecimal s) s

-- ---- reals; a digit run is one
abbrev only_real : Form → Form
only_real f = cond (real_form f) Float Other

reals : Told (bytes "float") only_real
unfolding form_by table texts derivative nullable same_bytes
reals = refl

real_read : (b : Bool) (s : List ℕ) → is_real (meaning_of (cond b Float Other) s) ≡ b
real_read true s = refl
real_read false s = refl

pub core_real_lem : (s : List ℕ) → Bytes s → core_real s ≡ real_form (form_of s)
unfolding core_real
core_real_lem s f = ap is_real (read_as_lem (bytes "float") only_real reals s f) ∙ real_read (real_form (form_of s)) s

fitted-real : (n i a : Bool)
    → let m = cond n real (cond i real (cond a real string)) in
    cond (is_real m) Real BadValue ≡ fitted m
fitted-real true i a = refl
fitted-real false true a = refl
fitted-real false false true = refl
fitted-real false false false = refl

pub tagged_float : (s : List ℕ) → cond (core_real s) Real BadValue ≡ tagged_as (bytes "float") s
unfolding core_real tagged_as read_as table first_match same_bytes
tagged_float s = fitted-real (accepts number s) (accepts infinity s) (accepts not_a_number s)

-- ---- booleans and nulls: what the schema reads, where it is of the kind
no_integer_of_kind : (kind : RecordKind) (other : Resolved) → eqb 3 (number_of kind) ≡ false → of_kind other kind ≡ BadValue → (p : Option ℤ)
    → of_kind (integer_or p other) kind ≡ BadValue
no_integer_of_kind kind other n e (Some z) = rw n
no_integer_of_kind kind other n e None = e

bools : Told (bytes "bool") (only 2)
unfolding form_by table texts derivative nullable same_bytes
bools = refl

bool_of_kind : (f : Form) (s : List ℕ) → of_kind (limited (meaning_of f s)) kind.Boolean ≡ fitted (meaning_of (only 2 f) s)
bool_of_kind Null s = refl
bool_of_kind True s = refl
bool_of_kind False s = refl
bool_of_kind Decimal s = no_integer_of_kind kind.Boolean (beyond ten) refl refl (held (integer_in ten s))
bool_of_kind Octal s = no_integer_of_kind kind.Boolean (beyond eight) refl refl (held (integer_in eight s))
bool_of_kind Hexadecimal s = no_integer_of_kind kind.Boolean (beyond sixteen) refl refl (held (integer_in sixteen s))
bool_of_kind Float s = refl
bool_of_kind Other s = refl

nulls : Told (bytes "null") (only 1)
unfolding form_by table texts derivative nullable same_bytes
nulls = refl

null_of_kind : (f : Form) (s : List ℕ) → of_kind (limited (meaning_of f s)) kind.Null ≡ fitted (meaning_of (only 1 f) s)
null_of_kind Null s = refl
null_of_kind True s = refl
null_of_kind False s = refl
null_of_kind Decimal s = no_integer_of_kind kind.Null (beyond ten) refl refl (held (integer_in ten s))
null_of_kind Octal s = no_integer_of_kind kind.Null (beyond eight) refl refl (held (integer_in eight s))
null_of_kind Hexadecimal s = no_integer_of_kind kind.Null (beyond sixteen) refl refl (held (integer_in sixteen s))
null_of_kind Float s = refl
null_of_kind Other s = refl

module _ (s : List ℕ) (f : Bytes s) where
  by_kind : (name : List ℕ) (kind : RecordKind) → Told name (only (number_of kind))
      → ((f : Form) → of_kind (limited (meaning_of f s)) kind ≡ fitted (meaning_of (only (number_of kind) f) s)) → of_kind (core_schema s) kind ≡ tagged_as name s
  unfolding core_schema tagged_as
  by_kind name kind t k =
      ap (λ (m : Meaning). of_kind (limited m) kind) (standard_by_form s) ∙ k (form_of s) ∙ ap fitted (sym (read_as_lem name (only (number_of kind)) t s f))

  pub tagged_bool : of_kind (core_schema s) kind.Boolean ≡ tagged_as (bytes "bool") s
  tagged_bool = by_kind (bytes "bool") kind.Boolean bools (λ g. bool_of_kind g s)

  pub tagged_null : of_kind (core_schema s) kind.Null ≡ tagged_as (bytes "null") s
  tagged_null = by_kind (bytes "null") kind.Null nulls (λ g. null_of_kind g s)
