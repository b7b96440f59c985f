-- Where characters begin: a place that is the text's end or holds no continuation byte. The laws stand in `Utf8Laws`.
use Rattle.std.specs.Prelude.{ℕ, ◌≤◌, ◌≡◌, Bool, false, not, ◌&&◌, List, leb, length, get_or}
use Rattle.utf8.specs.Class.{is_continuation}

pub record Boundary (s : List ℕ) (i : ℕ) : Type 0 where
  pub within : i ≤ length s
  pub edge : is_continuation (get_or s i 0) ≡ false

-- the same as a test; past the end it fails
unfoldable pub is_boundary : List ℕ → ℕ → Bool
is_boundary s i = leb i (length s) && not (is_continuation (get_or s i 0))
