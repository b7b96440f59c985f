-- No scalar starts past the text or inside a character (02, (g)): wherever its marker stands, whatever its value and style, awaited as a
-- mapping's value or not. Proved as `no_start_outside` (proofs/SpanLaws.antt).
use Rattle.std.specs.Prelude.{ℕ, Bool, List}
use Rattle.utf8.specs.Utf8.{Utf8}
use Rattle.utf8.specs.Boundary.{Boundary}
use Rattle.spans.specs.Scalar.{Mark, start_at}

abbrev pub NoStartOutside : Type 0
NoStartOutside = (text : List ℕ) → Utf8 text → (awaited : Bool) (m : Mark) (value : List ℕ) → Boundary text (start_at text awaited m value)
