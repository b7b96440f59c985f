-- Demand 3, as one record with a field for each of its clauses: of a text, the walk's first byte in it, a value, how many pieces are let in
-- (row 8), the walk's answer, and the pieces that it leaves. The rules of the style are a parameter, and so is how far their escapes
-- reach. `DemandLaws` proves it of the walk; of the public calls it is proved in `parser`.
use Prim.{Unit}
use Rattle.std.specs.Prelude.{ℕ, ◌+◌, ◌≤◌, ◌<◌, ◌≡◌, ◌⊎◌, Some, None, List, [], ◌∷◌, length, take, drop}
use Rattle.utf8.specs.Boundary.{Boundary}
use Rattle.provenance.specs.declared.step.Step.{Step}
use Rattle.provenance.specs.declared.walk.Walked.{Walked}
use Rattle.provenance.specs.declared.walk.Walked.TheVariants.{Listed, NoRoom, NoList}
use Rattle.provenance.specs.Escape.{EscapeReach}
use Rattle.provenance.specs.Grammar.{Rules, break_step, escape_step}
use Rattle.provenance.specs.Reading.{Reading, source_len, content_len, Piece, verbatim, pieces_of}
use Rattle.provenance.specs.Layout.{walked_number}

-- accepted: ended with a list, even an empty one, or with 8 (S13)
abbrev pub Accepts : Walked → Type 0
Accepts (Listed n) = Unit {0}
Accepts NoRoom = Unit {0}
Accepts NoList = ⊥

abbrev pub StartsAt : ℕ → List Piece → Type 0
StartsAt first [] = Unit {0}
StartsAt first (p ∷ ps) = p.start ≡ first

-- every piece but the first starts where the one before it ends
unfoldable pub Follow : List Piece → Type 0
Follow [] = Unit {0}
Follow (p ∷ []) = Unit {0}
Follow (p ∷ q ∷ ps) = (q.start ≡ p.end) × Follow (q ∷ ps)

-- no piece ends past the place e
unfoldable pub EndBy : ℕ → List Piece → Type 0
EndBy e [] = Unit {0}
EndBy e (p ∷ ps) = (p.end ≤ e) × EndBy e ps

-- the file bytes of a piece are as many bytes of the value from the content place c on
pub record Copied (text value : List ℕ) (c : ℕ) (p : Piece) : Type 0 where
  pub size : p.start + p.content ≡ p.end
  pub in_text : p.end ≤ length text
  pub in_value : c + p.content ≤ length value
  pub bytes : take p.content (drop p.start text) ≡ take p.content (drop c value)

-- of each verbatim piece; a piece's content place is the sum of the content lengths before it
unfoldable pub AllCopied : List ℕ → List ℕ → ℕ → List Piece → Type 0
AllCopied text value c [] = Unit {0}
AllCopied text value c (p ∷ ps) = (p.kind ≡ verbatim → Copied text value c p) × AllCopied text value (c + p.content) ps

unfoldable pub contents : List Piece → ℕ
contents [] = 0
contents (p ∷ ps) = p.content + contents ps

-- the last of the steps from s and v on is an escape: step 1 does not fit where it stands, and step 2 gives it
unfoldable pub EscapeLast : Rules → List ℕ → List ℕ → ℕ → ℕ → List Step → Type 0
EscapeLast r src val s v [] = ⊥
EscapeLast r src val s v (t ∷ []) = (break_step r (drop s src) (drop v val) ≡ None) × (escape_step r (drop s src) ≡ Some t)
EscapeLast r src val s v (t ∷ u ∷ ts) = EscapeLast r src val (s + source_len t) (v + content_len t) (u ∷ ts)

-- a reading of the value in the file bytes from `first` on, and all that holds of its pieces ps
pub record ReadingPieces (r : Rules) (reach : EscapeReach) (text : List ℕ) (first : ℕ) (value : List ℕ) (ps : List Piece) : Type 0 where
  pub steps : List Step
  pub reading : Reading r (drop first text) value steps
  pub pieces : ps ≡ pieces_of first steps
  -- the first piece starts at the walk's first byte, every other where the one before it ends
  pub first_start : StartsAt first ps
  pub tiling : Follow ps
  -- only an escape that the text's end cuts off passes it, by no more than its table says
  pub ends : EndBy (length text + reach.past) ps
  -- verbatim pieces hold the value's bytes
  pub copied : AllCopied text value 0 ps
  -- the content lengths sum to the value's length, to more only where the last step is an escape, and by less than an escape's content
  pub content :
      (contents ps ≡ length value)
      ⊎ (EscapeLast r (drop first text) value 0 0 steps × (length value < contents ps) × (contents ps < length value + reach.content))

pub record Demand3 (r : Rules) (reach : EscapeReach) (text : List ℕ) (first : ℕ) (value : List ℕ) (room : ℕ) (answer : Walked) (left : List Piece) : Type 0 where
  -- any two readings are the same
  pub unique : (ts us : List Step) → Reading r (drop first text) value ts → Reading r (drop first text) value us → ts ≡ us
  -- the walk accepts exactly when it starts at a boundary of the text and a reading exists
  pub accepts_only : Accepts answer → Boundary text first × ((ts : List Step) × Reading r (drop first text) value ts)
  pub accepts_if : Boundary text first → (ts : List Step) → Reading r (drop first text) value ts → Accepts answer
  -- with 8 exactly when it can start and its reading's pieces are more than are let in
  pub no_room_only : walked_number answer ≡ 8
      → Boundary text first × ((ts : List Step) × Reading r (drop first text) value ts × (room < length (pieces_of first ts)))
  pub no_room_if : Boundary text first → (ts : List Step) → Reading r (drop first text) value ts → room < length (pieces_of first ts)
      → walked_number answer ≡ 8
  -- a list that is left is that of a reading, with all that holds of it; otherwise nothing is left
  pub listed : (n : ℕ) → answer ≡ Listed n → (n ≡ length left) × (length left ≤ room) × Boundary text first × ReadingPieces r reach text first value left
  pub nothing_left : ((n : ℕ) → answer ≡ Listed n → ⊥) → left ≡ []
