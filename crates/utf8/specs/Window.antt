-- UTF-8 by windows: what a byte may be after the three before it. The bytes before the first are read as 0. `window::passes_windows` goes by
-- this; that what passes is UTF-8 is proved in proofs/Windows.antt.
use Rattle.std.specs.Prelude.{ℕ, ◌+◌, ◌≤◌, ◌<◌, ◌≡◌, Bool, true, false, ◌||◌, List, ◌∷◌, ◌⊎◌, leb, get_or}

-- a character goes on after p, q and r
abbrev pub awaits : ℕ → ℕ → ℕ → Bool
awaits p q r = leb 0xc0 r || (leb 0xe0 q || leb 0xf0 p)

-- an ASCII byte, or one that a longer character can begin with
abbrev pub BeginsCharacter : ℕ → Type 0
BeginsCharacter b = (b < 0x80) ⊎ ((0xc2 ≤ b) × (b < 0xf5))

-- b after the first byte r of a character: no longer form than needed, no surrogate, nothing past 10FFFF
pub record Follows (r b : ℕ) : Type 0 where
  pub three : r ≡ 0xe0 → 0xa0 ≤ b
  pub whole : r ≡ 0xed → b < 0xa0
  pub four : r ≡ 0xf0 → 0x90 ≤ b
  pub last : r ≡ 0xf4 → b < 0x90

-- b after p, q and r
pub record Fits (p q r b : ℕ) : Type 0 where
  pub starts : awaits p q r ≡ false → BeginsCharacter b
  pub continues : awaits p q r ≡ true → (0x80 ≤ b) × (b < 0xc0)
  pub follows : awaits p q r ≡ true → Follows r b

-- the bytes with three zeros before them, so that the byte at i stands at i + 3
abbrev pub led : List ℕ → List ℕ
led s = 0 ∷ 0 ∷ 0 ∷ s

-- the byte at i after the three before it
abbrev pub FitsAt : List ℕ → ℕ → Type 0
FitsAt s i = Fits (get_or (led s) i 0) (get_or (led s) (i + 1) 0) (get_or (led s) (i + 2) 0) (get_or (led s) (i + 3) 0)

-- the first three bytes
pub record FirstFit (s : List ℕ) : Type 0 where
  pub first : FitsAt s 0
  pub second : FitsAt s 1
  pub third : FitsAt s 2
