-- The two public calls, whole: what each comes to, and what it promises of its answer and of every lent number (R0 to R2, RZ, RS, B1;
-- 02, (b), (c)).
use Rattle.std.specs.Prelude.{◌≡◌, ℕ, Bool, false, cond, List, [], ◌∷◌, ltb, length, replicate, None, Result, Ok, Err}
use Rattle.text.specs.Admission.{admission, admission_of_both, error_number}
use Rattle.text.specs.declared.admission.TextError.{TextError}
use Rattle.style.specs.Style.{folded}
use Rattle.event.specs.Read.{events_limit}
use Rattle.records.specs.Record.{zero_node}
use Rattle.records.specs.Parent.{parented}
use Rattle.parser.specs.Machine.{State, empty, Outcome, built, refused, scalar_kept, follow, run_all}
use Rattle.spans.specs.Scalar.{Mark, scalar_at}
use Rattle.records.specs.Layout.{laid_nodes, record_room, piece_room}
use Rattle.provenance.specs.Layout.{laid_pieces}
use Rattle.records.specs.declared.record.Node.{Node}
use Rattle.parser.specs.declared.answer.Refusal.{Refusal}
use Rattle.parser.specs.declared.answer.Refusal.TheVariants as row
use Rattle.parser.specs.declared.answer.Built.{Built}
use Rattle.parser.specs.declared.answer.Refused.{Refused}
use Rattle.parser.specs.declared.answer.Scalar.{Scalar}

-- ---- the table

-- document 01's number for each refusal
abbrev pub row_number : Refusal → ℕ
row_number row.TooLong = 1
row_number row.NotUtf8 = 2
row_number row.Malformed = 3
row_number row.Unbalanced = 4
row_number row.AfterRoot = 5
row_number row.TooDeep = 6
row_number row.NoRecordRoom = 7
row_number row.NoPieceRoom = 8
row_number row.Unfinished = 9

-- document 01's number and values for each case of an answer
abbrev pub returned : Result Built Refused → List ℕ
returned (Ok b) = 0 ∷ b.nodes ∷ b.pieces ∷ []
returned (Err e) = row_number e.refusal ∷ e.place ∷ []

-- and of an answer of the call on one scalar: its numbers, and the record that it hands back
abbrev pub returned_scalar : Result Scalar Refusal → List ℕ
returned_scalar (Ok x) = 0 ∷ 1 ∷ x.pieces ∷ []
returned_scalar (Err e) = row_number e ∷ 0 ∷ []

abbrev pub returned_record : Result Scalar Refusal → Node
returned_record (Ok x) = x.node
returned_record (Err e) = zero_node

-- and for each case of what a call comes to
abbrev pub table_row : Outcome → List ℕ
table_row (built xs ps) = 0 ∷ length xs ∷ length ps ∷ []
table_row (refused number place) = number ∷ place ∷ []

-- the records afterwards, in a buffer of `size` numbers: all zero on a refusal (RZ)
abbrev pub records_after : ℕ → Outcome → List ℕ
records_after size (built xs ps) = laid_nodes size xs
records_after size (refused number place) = replicate size 0

-- the pieces afterwards
abbrev pub pieces_after : ℕ → Outcome → List ℕ
pieces_after size (built xs ps) = laid_pieces size ps
pieces_after size (refused number place) = replicate size 0

-- the record that a call on one scalar hands back
abbrev pub record_of : Outcome → Node
record_of (built [] ps) = zero_node
record_of (built (x ∷ xs) ps) = x
record_of (refused number place) = zero_node

-- ---- what the calls come to

-- a text that is refused, or what comes of it
abbrev pub admitted : Result Bool TextError → Outcome → Outcome
admitted (Ok ascii) o = o
admitted (Err e) o = refused (error_number e) 0

-- each node gets its parent, which is complete after it (02, (c))
abbrev pub with_parents : Outcome → Outcome
with_parents (built xs ps) = built (parented 0 xs) ps
with_parents (refused number place) = refused number place

-- `build`, with buffers of so many numbers
unfoldable pub building : List ℕ → List ℕ → ℕ → ℕ → Outcome
building text events size pieces_size =
    cond (ltb events_limit (length events)) (refused 1 0)
    (admitted (admission text) (with_parents (run_all text events (record_room size) (piece_room pieces_size))))

-- one scalar, its text and value admitted: it awaits nothing, has no tag, and its value's place is 0
unfoldable pub one_scalar : List ℕ → Mark → List ℕ → ℕ → Outcome
one_scalar text m value pieces_size =
    cond (ltb folded m.style) (refused 3 0)
    (follow (scalar_kept text [] (piece_room pieces_size) (scalar_at text false m value 0) None empty) (λ (st : State). built st.nodes st.pieces) 0)

-- what the call on one scalar comes to
unfoldable pub scalar_call : List ℕ → Mark → List ℕ → ℕ → Outcome
scalar_call text m value pieces_size = admitted (admission_of_both text value) (one_scalar text m value pieces_size)

-- ---- what the calls promise: the answer, and each buffer afterwards

-- with buffers of so many numbers, of a call that comes to o
pub record Delivered (size pieces_size : ℕ) (o : Outcome) (r : Result Built Refused) (records pieces : List ℕ) : Type 0 where
  pub answer : returned r ≡ table_row o
  pub all_records : records ≡ records_after size o
  pub all_pieces : pieces ≡ pieces_after pieces_size o

-- and of one on one scalar
pub record DeliveredScalar (pieces_size : ℕ) (o : Outcome) (r : Result Scalar Refusal) (pieces : List ℕ) : Type 0 where
  pub answer : returned_scalar r ≡ table_row o
  pub one_record : returned_record r ≡ record_of o
  pub all_pieces : pieces ≡ pieces_after pieces_size o

-- the buffers before are b and p
abbrev pub Promised : List ℕ → List ℕ → List ℕ → List ℕ → Result Built Refused → List ℕ → List ℕ → Type 0
Promised text events b p r b' p' = Delivered (length b) (length p) (building text events (length b) (length p)) r b' p'

abbrev pub PromisedScalar : List ℕ → Mark → List ℕ → List ℕ → Result Scalar Refusal → List ℕ → Type 0
PromisedScalar text m value p r p' = DeliveredScalar (length p) (scalar_call text m value (length p)) r p'
