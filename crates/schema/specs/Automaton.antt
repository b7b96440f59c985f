-- How the code finds a scalar's form: by an automaton over its bytes. A state stands for what the rows of the table still
-- await after some bytes; `texts` has one such text for each state. A step over a byte is then the rows' derivatives, which
-- is what the code's tables are asked to be (`Tables`), and a scalar's form is told by the state in which it ends.
use Rattle.std.specs.Prelude.{ℕ, ◌-◌, ◌≤◌, ◌<◌, ◌≡◌, Bool, ◌||◌, List, [], ◌∷◌, ◌++◌, map, length, get_or}
use Prim.Native.String.{String}
use Rattle.utf8.specs.Class.{inside}
use Rattle.utf8.specs.Ascii.{bytes}
use Rattle.schema.specs.Regex.{Regex}
use Rattle.schema.specs.Matcher.{derivative, accepts}
use Rattle.schema.specs.Rows.{true_word}
use Rattle.schema.specs.Standard.{Row, table}
use Rattle.schema.specs.Form.{form_of}
use Rattle.schema.specs.declared.form.Form.{Form}
use Rattle.schema.specs.declared.form.Form.TheVariants.{Null}

abbrev pub expressions : List Row → List Regex
expressions rs = map (λ r. r.expression) rs

-- the table's expressions in its order, and at last the words that are true, which tell the booleans apart
abbrev pub all_rows : List Regex
all_rows = expressions table ++ (true_word ∷ [])

-- a text that leads to each state; "?" leads to the one that awaits nothing
unfoldable pub texts : List String
texts =
    "+." ∷ "+" ∷ "?" ∷ "" ∷ "0" ∷ "1" ∷ "." ∷ ".0" ∷ "0e" ∷ "0e+" ∷ "0e0" ∷ "0o" ∷ "0o0" ∷ "0x" ∷ "0x0" ∷ ".i" ∷
    ".I" ∷ ".in" ∷ ".IN" ∷ ".inf" ∷ ".n" ∷ ".N" ∷ ".na" ∷ ".NA" ∷ ".nan" ∷ "n" ∷ "N" ∷ "nu" ∷ "NU" ∷ "nul" ∷ "NUL" ∷
    "null" ∷ "t" ∷ "T" ∷ "tr" ∷ "TR" ∷ "tru" ∷ "TRU" ∷ "true" ∷ "f" ∷ "F" ∷ "fa" ∷ "FA" ∷ "fal" ∷ "FAL" ∷ "fals" ∷
    "FALS" ∷ "false" ∷ []

abbrev pub state_count : ℕ
state_count = 48

abbrev pub start_state : ℕ
start_state = 3

abbrev pub dead_state : ℕ
dead_state = 2

-- what some expressions await after some bytes
abbrev pub awaited_after : List Regex → List ℕ → List Regex
awaited_after rs [] = rs
awaited_after rs (b ∷ s) = awaited_after (map (derivative b) rs) s

abbrev pub states : List (List Regex)
states = map (λ w. awaited_after all_rows (bytes w)) texts

unfoldable pub awaits : ℕ → List Regex
awaits q = get_or states q []

-- for each expression whether it accepts the scalar
abbrev pub accepted : List Regex → List ℕ → List Bool
accepted rs s = map (λ r. accepts r s) rs

unfoldable pub flags : List ℕ → List Bool
flags s = accepted all_rows s

-- ---- the tables: a byte's symbol is a letter from '.' on, and a state one from ',' on
abbrev pub symbol_of : List ℕ → ℕ → ℕ
symbol_of symbols b = get_or symbols b 0 - 46

abbrev pub entry_at : List ℕ → List (List ℕ) → ℕ → ℕ → ℕ
entry_at symbols next q b = get_or (get_or next q []) (symbol_of symbols b) 0

-- what the code's tables are asked to be
pub record Tables (symbols : List ℕ) (next : List (List ℕ)) (forms : List Form) : Type 0 where
  pub symbol_count : length symbols ≡ 256
  pub line_count : length next ≡ state_count
  pub form_count : length forms ≡ state_count
  pub symbol_from : (b : ℕ) → b < 256 → 46 ≤ get_or symbols b 0
  pub symbol_low : (b : ℕ) → b < 256 → symbol_of symbols b < 32
  pub entry_from : (q b : ℕ) → q < state_count → b < 256 → 44 ≤ entry_at symbols next q b
  pub state_low : (q b : ℕ) → q < state_count → b < 256 → entry_at symbols next q b - 44 < state_count
  pub derives : (q b : ℕ) → q < state_count → b < 256 → awaits (entry_at symbols next q b - 44) ≡ map (derivative b) (awaits q)
  -- `Null` is what no place of the table would give; each state has a place
  pub form_tells : (q : ℕ) (s : List ℕ) → q < state_count → accepted (awaits q) [] ≡ flags s
      → get_or forms q Null ≡ form_of s

-- a letter that no row begins with: any but f, n and t
unfoldable pub begins_no_row : ℕ → Bool
begins_no_row b =
    inside 97 101 b
    || (inside 103 109 b || (inside 111 115 b || (inside 117 122 b || (inside 65 69 b || (inside 71 77 b || (inside 79 83 b || inside 85 90 b))))))
