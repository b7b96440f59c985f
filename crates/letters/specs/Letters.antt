-- Bytes that are passed over many at a time, by the measures and by the walk. This is no part of what they answer: that a letter is no white
-- space, that it stands for no other character and that no step but the third fits there is shown where it is used.
use Rattle.std.specs.Prelude.{ℕ, ◌+◌, ◌-◌, ◌≤◌, ◌<◌, ◌≡◌, false, ◌⊎◌, List, length, drop, get_or}
use Rattle.utf8.specs.Class.{is_continuation}

-- a byte before c that no white space begins with: not up to the blank, not 80 to C2, not E1, not E2 before 80 and 81, not E3 before 80
pub record WordByte (b c : ℕ) : Type 0 where
  pub above : 32 < b
  pub low : (b < 128) ⊎ (194 < b)
  pub no_e1 : b ≡ 225 → ⊥
  pub no_e2 : (b ≡ 226 → ⊥) ⊎ (129 < c)
  pub no_e3 : (b ≡ 227 → ⊥) ⊎ (c ≡ 128 → ⊥)

-- what may stand after E2: not 81, and 80 only before 8B to A7
abbrev pub AfterE2 : ℕ → ℕ → Type 0
AfterE2 b c = (129 < b) ⊎ ((b ≡ 129 → ⊥) × (138 < c) × (c < 168))

-- a byte before b and c that is a letter: no control byte, quote or backslash, no white space, and a blank only before a word
pub record LetterByte (a b c : ℕ) : Type 0 where
  pub above : 31 < a
  pub no_quote : a ≡ 39 → ⊥
  pub no_backslash : a ≡ 92 → ⊥
  pub no_c2 : a ≡ 194 → ⊥
  pub no_e1 : a ≡ 225 → ⊥
  pub e2 : (a ≡ 226 → ⊥) ⊎ AfterE2 b c
  pub e3 : (a ≡ 227 → ⊥) ⊎ ((b ≡ 128 → ⊥) ⊎ (c ≡ 128 → ⊥))
  pub blank : (a ≡ 32 → ⊥) ⊎ WordByte b c

-- a source byte, the two after it and a value byte
abbrev pub Letter : ℕ → ℕ → ℕ → ℕ → Type 0
Letter a b c d = (a ≡ d) × LetterByte a b c

-- an equal letter at a place of the source and of the value
abbrev pub LetterAt : List ℕ → List ℕ → ℕ → Type 0
LetterAt src val j = Letter (get_or src j 0) (get_or src (j + 1) 0) (get_or src (j + 2) 0) (get_or val j 0)

-- the source and the value go on with n equal letters
pub record LetterRun (src val : List ℕ) (n : ℕ) : Type 0 where
  pub in_source : n ≤ length src
  pub in_value : n ≤ length val
  pub each : (j : ℕ) → j < n → LetterAt src val j

-- and, if there are any, they end between two characters and not with a blank
pub record Letters (src val : List ℕ) (n : ℕ) : Type 0 where
  pub run : LetterRun src val n
  pub whole : 0 < n → is_continuation (get_or src n 0) ≡ false
  pub last : 0 < n → get_or src (n - 1) 0 ≡ 32 → ⊥

-- from the place s of the source and the place v of the value on
pub record LettersFrom (src : List ℕ) (s : ℕ) (val : List ℕ) (v n : ℕ) : Type 0 where
  pub letters : Letters (drop s src) (drop v val) n
  pub in_source : s + n ≤ length src
  pub in_value : v + n ≤ length val
