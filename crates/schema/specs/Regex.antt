-- Regular expressions over bytes, and which byte lists each of them matches. `Matches` is the meaning that every other
-- definition of the crate is held to: it mentions no scanner, and a reader can check it rule by rule.
use Rattle.std.specs.Prelude.{ℕ, ◌≤◌, List, [], ◌∷◌, ◌++◌}
use Rattle.utf8.specs.Ascii.{bytes}
use Prim.Native.String.{String}

pub data Regex : Type 0 where
  none : Regex
  empty : Regex
  range : ℕ → ℕ → Regex
  seq : Regex → Regex → Regex
  alt : Regex → Regex → Regex
  star : Regex → Regex
  deriving Discrete as Regex-discrete

-- `none` matches nothing, `empty` the list of no bytes, `range lo hi` one byte from lo to hi, both counted in
pub data Matches : Regex → List ℕ → Type 0 where
  m_empty : Matches empty []
  m_range : {lo hi b : ℕ} → lo ≤ b → b ≤ hi → Matches (range lo hi) (b ∷ [])
  m_seq : {r q : Regex} {u v : List ℕ} → Matches r u → Matches q v → Matches (seq r q) (u ++ v)
  m_left : {r q : Regex} {s : List ℕ} → Matches r s → Matches (alt r q) s
  m_right : {r q : Regex} {s : List ℕ} → Matches q s → Matches (alt r q) s
  m_done : {r : Regex} → Matches (star r) []
  m_more : {r : Regex} {u v : List ℕ} → Matches r u → Matches (star r) v → Matches (star r) (u ++ v)

-- r?
abbrev pub opt : Regex → Regex
opt r = alt empty r

-- r+
abbrev pub some : Regex → Regex
some r = seq r (star r)

-- the bytes of a list, in their order
abbrev pub in_order : List ℕ → Regex
in_order [] = empty
in_order (b ∷ s) = seq (range b b) (in_order s)

abbrev pub word : String → Regex
word w = in_order (bytes w)

-- one of some words
abbrev pub any_of : List String → Regex
any_of [] = none
any_of (w ∷ ws) = alt (word w) (any_of ws)
