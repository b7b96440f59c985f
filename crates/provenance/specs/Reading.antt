-- Readings (S12), over any function that gives the step at a source place and a value place. A list of steps is a reading from two
-- places if each is the step that stands where those before it end, and the value place is at or past the value's end after the last.
-- `IsReading` says so; `reading_of` computes the reading, if there is one. Its number of steps is bounded only so that it ends: that it finds
-- exactly the readings, and the equations a reader expects of it, are in `ReadingLaws`. Nothing else looks at the bound.
use Rattle.std.specs.Prelude.{ℕ, zero, suc, ◌+◌, ◌≤◌, ◌<◌, ◌≡◌, Bool, ◌&&◌, cond, Some, None, List, [], ◌∷◌, leb, eqb, length, Option}
use Rattle.provenance.specs.declared.step.Step.{Step}
use Rattle.provenance.specs.declared.step.Step.TheVariants.{Verbatim, Replacement}
use Rattle.provenance.specs.Grammar.{Rules, FittingStep, step_at}

-- what a step takes of the source and of the value
abbrev pub source_len : Step → ℕ
source_len (Verbatim n) = n
source_len (Replacement a b) = a

abbrev pub content_len : Step → ℕ
content_len (Verbatim n) = n
content_len (Replacement a b) = b

-- the steps are a reading of a value of `len` bytes from the source place s and the value place v on
unfoldable pub IsReading : (ℕ → ℕ → FittingStep) → ℕ → ℕ → ℕ → List Step → Type 0
IsReading at len s v [] = len ≤ v
IsReading at len s v (t ∷ ts) = (v < len) × (at s v ≡ Some t) × IsReading at len (s + source_len t) (v + content_len t) ts

-- a reading of a value in its source, by the grammar
abbrev pub Reading : Rules → List ℕ → List ℕ → List Step → Type 0
Reading r src val ts = IsReading (step_at r src val) (length val) 0 0 ts

-- ---- the same as a function

-- where no step fits, nothing is taken
abbrev pub source_by : FittingStep → ℕ
source_by None = 0
source_by (Some t) = source_len t

abbrev pub content_by : FittingStep → ℕ
content_by None = 0
content_by (Some t) = content_len t

abbrev pub step_then : FittingStep → Option (List Step) → Option (List Step)
step_then None rest = None
step_then (Some t) None = None
step_then (Some t) (Some ts) = Some (t ∷ ts)

unfoldable pub read_by : ℕ → (ℕ → ℕ → FittingStep) → ℕ → ℕ → ℕ → Option (List Step)
read_by zero at len s v = cond (leb len v) (Some []) None
read_by (suc most) at len s v =
    cond (leb len v) (Some []) (step_then (at s v) (read_by most at len (s + source_by (at s v)) (v + content_by (at s v))))

unfoldable pub reading_of : Rules → List ℕ → List ℕ → Option (List Step)
reading_of r src val = read_by (length src + length val) (step_at r src val) (length val) 0 0

-- ---- the pieces of a reading: one for each step, neighbouring verbatim ones joined (S12, E3)

pub record Piece : Type 0 where
  pub kind : ℕ
  pub start : ℕ
  pub end : ℕ
  pub content : ℕ

abbrev pub piece : ℕ → ℕ → ℕ → ℕ → Piece
piece k a e c = record { kind = k; start = a; end = e; content = c }

abbrev pub verbatim : ℕ
verbatim = 1

abbrev pub replacement : ℕ
replacement = 2

-- of steps whose first stands at the place s of the text
unfoldable pub step_pieces : ℕ → List Step → List Piece
step_pieces s [] = []
step_pieces s (Verbatim n ∷ ts) = piece verbatim s (s + n) n ∷ step_pieces (s + n) ts
step_pieces s (Replacement a b ∷ ts) = piece replacement s (s + a) b ∷ step_pieces (s + a) ts

abbrev pub both_verbatim : Piece → Piece → Bool
both_verbatim p q = eqb p.kind verbatim && eqb q.kind verbatim

abbrev pub join_on : Piece → List Piece → List Piece
join_on p [] = p ∷ []
join_on p (q ∷ qs) = cond (both_verbatim p q) (piece verbatim p.start q.end (p.content + q.content) ∷ qs) (p ∷ q ∷ qs)

unfoldable pub joined : List Piece → List Piece
joined [] = []
joined (p ∷ ps) = join_on p (joined ps)

-- of a reading whose source begins at the place `base` of the text
unfoldable pub pieces_of : ℕ → List Step → List Piece
pieces_of base ts = joined (step_pieces base ts)
