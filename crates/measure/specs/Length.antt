-- What a measure answers (02, (b)): a length, and whether it was measured, that is found in the text, or assumed, that is taken from the
-- value's length.
use Rattle.std.specs.Prelude.{ℕ, true, false}
use Rattle.measure.specs.declared.length.Measure.{Measure}

abbrev pub measured : ℕ → Measure
measured n = record { len = n; measured = true }

abbrev pub assumed : ℕ → Measure
assumed n = record { len = n; measured = false }
