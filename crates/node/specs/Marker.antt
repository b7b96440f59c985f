-- The place of an error (N4): one character at its marker, or none at the end. It runs from the offset of the marker's index to that of the
-- next; past the text both are the text's length (P1), so no case of its own is needed.
use Rattle.std.specs.Prelude.{ℕ, ◌+◌, Bool, List, [], ◌∷◌, Result, Ok, Err}
use Rattle.text.specs.Offset.{byte_offset}
use Rattle.text.specs.Admission.{admission, error_number}
use Rattle.text.specs.declared.admission.TextError.{TextError}
use Rattle.records.specs.Record.{extent}
use Rattle.records.specs.declared.record.Extent.{Extent}

-- of a text that is admitted; a text that is not is refused so (R1, R2)
abbrev pub scan_error_of : List ℕ → ℕ → Result Bool TextError → Result Extent TextError
scan_error_of text index (Ok ascii) = Ok (extent (byte_offset text index) (byte_offset text (index + 1)))
scan_error_of text index (Err e) = Err e

unfoldable pub scan_error : List ℕ → ℕ → Result Extent TextError
scan_error text index = scan_error_of text index (admission text)

-- as numbers: 0 with the span, or the table's number and place 0
abbrev pub scanned : Result Extent TextError → List ℕ
scanned (Ok e) = 0 ∷ e.start ∷ e.end ∷ []
scanned (Err e) = error_number e ∷ 0 ∷ []
