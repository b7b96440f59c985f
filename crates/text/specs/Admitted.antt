-- What an admitted text is: within the limit, and UTF-8. Of an admission it is shown in proofs/AdmissionLaws.antt.
use Rattle.std.specs.Prelude.{List, ℕ, ◌≤◌, length}
use Rattle.utf8.specs.Utf8.{Utf8}
use Rattle.text.specs.Admission.{text_limit}

pub record AdmittedText (s : List ℕ) : Type 0 where
  pub within : length s ≤ text_limit
  pub utf8 : Utf8 s
