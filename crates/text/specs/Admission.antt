-- The first two rows of document 01's table, which every public call tests before anything else (R1, R2, RO): all sizes first, then
-- UTF-8. A text that is admitted is said to be ASCII or not, since marker offsets go by that.
use Rattle.std.specs.Prelude.{ℕ, Bool, ◌&&◌, ◌||◌, cond, List, ltb, length, Result, Ok, Err}
use Rattle.utf8.specs.Utf8.{is_ascii}
use Rattle.utf8.specs.Characters.{is_utf8}
use Rattle.text.specs.declared.admission.TextError.{TextError}
use Rattle.text.specs.declared.admission.TextError.TheVariants.{TooLong, NotUtf8}

-- the most bytes of a text, and of the value of a call on one scalar
abbrev pub text_limit : ℕ
text_limit = 1_048_576

abbrev pub is_too_long : List ℕ → Bool
is_too_long s = ltb text_limit (length s)

-- of a text: whether it is ASCII, or why it is not admitted
unfoldable pub admission : List ℕ → Result Bool TextError
admission s = cond (is_too_long s) (Err TooLong) (cond (is_utf8 s) (Ok (is_ascii s)) (Err NotUtf8))

-- of a text and a value: either can be refused, and the sizes of both come before the UTF-8 of either
unfoldable pub admission_of_both : List ℕ → List ℕ → Result Bool TextError
admission_of_both s v =
    cond (is_too_long s || is_too_long v) (Err TooLong) (cond (is_utf8 s && is_utf8 v) (Ok (is_ascii s)) (Err NotUtf8))

-- the table's number for each error
abbrev pub error_number : TextError → ℕ
error_number TooLong = 1
error_number NotUtf8 = 2
