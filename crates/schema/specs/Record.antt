-- The numbers that a record holds of a scalar: its kind and its two payload numbers (E2).
use Rattle.std.specs.Prelude.{ℕ, suc, ◌-◌, ◌/◌, ◌%◌, ◌^◌, Bool, true, false, cond, eqb, ℤ, pos, negsuc, Option, Some, None}
use Rattle.schema.specs.declared.record.Kind.{Kind}
use Rattle.schema.specs.declared.record.Kind.TheVariants as kind
use Rattle.schema.specs.declared.plain.Resolved.{Resolved}
use Rattle.schema.specs.declared.plain.Resolved.TheVariants.{Null, Boolean, Integer, Real, Str, BadValue}
use Rattle.schema.specs.declared.record.Payload.{Payload}

-- the numbers of a record's kinds
abbrev pub number_of : Kind → ℕ
number_of kind.Null = 1
number_of kind.Boolean = 2
number_of kind.Integer = 3
number_of kind.Real = 4
number_of kind.Str = 5
number_of kind.BadValue = 6
number_of kind.Array = 7
number_of kind.Hash = 8

abbrev pub kind_of : Resolved → Kind
kind_of Null = kind.Null
kind_of (Boolean b) = kind.Boolean
kind_of (Integer z) = kind.Integer
kind_of Real = kind.Real
kind_of Str = kind.Str
kind_of BadValue = kind.BadValue

abbrev pub kind_number : Resolved → ℕ
kind_number r = number_of (kind_of r)

-- the kind of a number, if it has one
abbrev pub kind_numbered : ℕ → Option Kind
kind_numbered n =
    cond (eqb n 1) (Some kind.Null)
    (cond (eqb n 2) (Some kind.Boolean)
    (cond (eqb n 3) (Some kind.Integer)
    (cond (eqb n 4) (Some kind.Real)
    (cond (eqb n 5) (Some kind.Str)
    (cond (eqb n 6) (Some kind.BadValue)
    (cond (eqb n 7) (Some kind.Array)
    (cond (eqb n 8) (Some kind.Hash)
    None)))))))

-- the 64 bits of an integer in two's complement; `negsuc m` is -(m + 1)
abbrev pub twos_complement : ℤ → ℕ
twos_complement (pos m) = m
twos_complement (negsuc m) = 2 ^ 64 - suc m

abbrev pub truth : Bool → ℕ
truth true = 1
truth false = 0

abbrev pub two_numbers : ℕ → ℕ → Payload
two_numbers m n = record { first = m; second = n }

-- 0 or 1 and 0 for a boolean; an integer's high and low 32 bits; the value's place and length for a real and a string
abbrev pub payload_of : Resolved → ℕ → ℕ → Payload
payload_of Null place len = two_numbers 0 0
payload_of (Boolean b) place len = two_numbers (truth b) 0
payload_of (Integer z) place len = two_numbers (twos_complement z / 2 ^ 32) (twos_complement z % 2 ^ 32)
payload_of Real place len = two_numbers place len
payload_of Str place len = two_numbers place len
payload_of BadValue place len = two_numbers 0 0
