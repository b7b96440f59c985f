-- The cursor by single steps (02, (k)): a relation over the cursor by value, and no count. It goes straight from the place of each marker
-- to that of the next, in either direction, and each step takes it over one character.
use Rattle.std.specs.Prelude.{ℕ, ◌+◌, ◌<◌, ◌≡◌, List, [], ◌∷◌, ◌++◌, length, take}
use Rattle.utf8.specs.Utf8.{ScalarValue, encode}
use Rattle.text.specs.Offset.{cursor_at}
use Rattle.text.specs.declared.offset.Cursor.{Cursor}

-- at the text's start
abbrev pub start : Cursor
start = record { chars = 0; offset = 0 }

-- the character x stands between c and d
pub record Between (text : List ℕ) (x : ℕ) (c d : Cursor) : Type 0 where
  pub scalar : ScalarValue x
  pub chars : d.chars ≡ c.chars + 1
  pub offset : d.offset ≡ c.offset + length (encode x)
  pub bytes : take d.offset text ≡ take c.offset text ++ encode x

-- one step from c to d on the way to the cursor t
pub data Step (text : List ℕ) (t c d : Cursor) : Type 0 where
  on : (x : ℕ) → c.chars < t.chars → Between text x c d → Step text t c d
  back : (x : ℕ) → t.chars < c.chars → Between text x d c → Step text t c d

-- straight from c to t, each of ds being the cursor after one step more
unfoldable pub Straight : List ℕ → Cursor → Cursor → List Cursor → Type 0
Straight text t c [] = c ≡ t
Straight text t c (d ∷ ds) = Step text t c d × Straight text t d ds

-- from c to the place of each marker in turn, with the steps to each
unfoldable pub Travels : List ℕ → Cursor → List ℕ → List (List Cursor) → Type 0
Travels text c [] [] = Unit {0}
Travels text c [] (ds ∷ ways) = ⊥
Travels text c (m ∷ ms) [] = ⊥
Travels text c (m ∷ ms) (ds ∷ ways) = Straight text (cursor_at text m) c ds × Travels text (cursor_at text m) ms ways

-- how many steps there are in all
unfoldable pub steps : List (List Cursor) → ℕ
steps [] = 0
steps (ds ∷ ways) = length ds + steps ways
