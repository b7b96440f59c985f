-- An answer of one number, where the largest 32-bit number stands for none.
use Rattle.std.specs.Prelude.{ℕ, Bool, true, false, Option, Some, None}

abbrev pub largest : ℕ
largest = 0xffff_ffff

abbrev pub or_none : Option ℕ → ℕ
or_none None = largest
or_none (Some n) = n

-- 1 for yes, 0 for no
abbrev pub flag_or_none : Option Bool → ℕ
flag_or_none None = largest
flag_or_none (Some true) = 1
flag_or_none (Some false) = 0
