-- The core schema by the meaning of its expressions (P2). `standard_schema`: of every byte list the standard reads what the
-- first row that matches reads, a string where none does, and nothing else; and but for digit runs the order of the rows does
-- not matter. `core_schema_is_limited_standard`: the schema is that, but for the range of integers. `any_order`: a standard
-- tag reads what any row of its kind reads that matches. What is said of two rows, or of a row behind others, is one computed
-- test over the automaton's states.
use mathlib.Core.Path.{◌≡◌, refl, sym, ◌∙◌, ap}
use mathlib.Core.Bool.{Bool, true, false, ◌&&◌, ◌||◌, cond}
use mathlib.Core.List.{List, [], ◌∷◌, ◌++◌}
use Prim.Native.Nat.{ℕ, zero, suc, ◌<◌}
use native.Mathlib.Nat.{le_of_suc-le-suc, not-suc-le-zero}
use native.Mathlib.Omega.{arith}
use borrow.Author.Tests.{eqb-true}
use lib.Dec.{T, eqb, lit<}
use lib.IntN.{ℤ}
use lib.ListN.{length, get_or}
use Rattle.utf8.specs.Tests.{clash, and_left, and_right}
use Rattle.utf8.proofs.Table.{all, all_at}
use Rattle.utf8.specs.Ascii.{bytes, Bytes, same_bytes}
use Rattle.schema.specs.Regex.{Regex, none, Matches}
use Rattle.schema.specs.Matcher.{nullable, derivative, accepts}
use Rattle.schema.specs.Rows.{true_word, decimal, number}
use Rattle.schema.specs.Integer.{Base, ten, eight, sixteen, in_range, held}
use Rattle.schema.specs.Standard.{Kind, null, Row, row, table, Meaning, integer, reads, first_match, standard}
use Rattle.schema.specs.CoreSchema.{limited, core_schema}
use Rattle.schema.specs.Kinds.{tag_name, has_name, rows_of, read_as, is_real, core_real}
use Rattle.schema.specs.Statements.{FirstRow, no_row, this_row, later_row, row_at, decimal_place, number_place, StandardSchema, CoreSchema, AnyOrder}
use Rattle.schema.specs.declared.form.Form.{Form}
use Rattle.schema.specs.declared.plain.Resolved.TheVariants.{Integer, Real, Str}
use Rattle.schema.proofs.Bools.{is_true, implies, implied, or_cases}
use Rattle.schema.proofs.Derivative.{accepts_sound, accepts_complete}
use Rattle.schema.specs.Automaton.{expressions, texts, accepted, flags}
use Rattle.schema.proofs.Flags.{InStates, by_states, flag, truth_place, form_by, form_at, form_of_kind, kind_form, form_by_lem, form_is, same_form, same_form_lem}
use Rattle.schema.proofs.Forms.{meaning_of, kind_by_form, by_form, standard_by_form}
use Rattle.schema.proofs.Tags.{same_bytes_lem}

-- ---- the first row that matches
module _ (r : Row) (rs : List Row) (s : List ℕ) where
  decided : (b : Bool) → accepts r.expression s ≡ b → FirstRow rs s (first_match rs s)
      → FirstRow (r ∷ rs) s (cond b (reads r.kind s) (first_match rs s))
  decided true e f = this_row (accepts_sound s r.expression e)
  decided false e f = later_row (λ m. clash (sym (accepts_complete s r.expression m) ∙ e)) f

  passed : (a : Meaning) (b : Bool) → accepts r.expression s ≡ b → (Matches r.expression s → ⊥) → a ≡ first_match rs s
      → a ≡ cond b (reads r.kind s) (first_match rs s)
  passed a true e n p = absurd (n (accepts_sound s r.expression e))
  passed a false e n p = p

first_match_lem : (rs : List Row) (s : List ℕ) → FirstRow rs s (first_match rs s)
unfolding first_match
first_match_lem [] s = no_row
first_match_lem (r ∷ rs) s = decided r rs s (accepts r.expression s) refl (first_match_lem rs s)

only_match : {rs : List Row} {s : List ℕ} {a : Meaning} → FirstRow rs s a → a ≡ first_match rs s
unfolding first_match
only_match no_row = refl
only_match (this_row {r = r} {s = s} m) = rw (accepts_complete s r.expression m)
only_match (later_row {r = r} {rs = rs} {s = s} {m = a} n f) = passed r rs s a (accepts r.expression s) refl n (only_match f)

-- ---- the standard, but for the range
in_range_lem : (base : Base) (z : ℤ) → in_range z ≡ true → limited (integer base z) ≡ Integer z
unfolding held
in_range_lem base z e = rw e

decimal_beyond : (z : ℤ) → in_range z ≡ false → limited (integer ten z) ≡ Real
unfolding held
decimal_beyond z e = rw e

octal_beyond : (z : ℤ) → in_range z ≡ false → limited (integer eight z) ≡ Str
unfolding held
octal_beyond z e = rw e

hexadecimal_beyond : (z : ℤ) → in_range z ≡ false → limited (integer sixteen z) ≡ Str
unfolding held
hexadecimal_beyond z e = rw e

pub core_schema_is_limited_standard : CoreSchema
unfolding core_schema
core_schema_is_limited_standard =
    record {
      limited-standard = λ s. refl;
      by_first_row = λ s m f. ap limited (sym (only_match f));
      in_range_lem = in_range_lem;
      decimal_beyond = decimal_beyond;
      octal_beyond = octal_beyond;
      hexadecimal_beyond = hexadecimal_beyond;
    }

-- ---- the flags of the table's rows
flag_among : (rs : List Row) (qs : List Regex) (s : List ℕ) (k : ℕ) → k < length rs
    → flag k (accepted (expressions rs ++ qs) s) ≡ accepts (get_or rs k (row none null)).expression s
flag_among [] qs s k h = absurd (not-suc-le-zero h)
flag_among (r ∷ rs) qs s zero h = refl
flag_among (r ∷ rs) qs s (suc k) h = flag_among rs qs s k (le_of_suc-le-suc h)

flag_is : (k : ℕ) (s : List ℕ) → k < length table → flag k (flags s) ≡ accepts (row_at k).expression s
unfolding flags
flag_is k s h = flag_among table (true_word ∷ []) s k h

truth_is : (s : List ℕ) → flag truth_place (flags s) ≡ accepts true_word s
unfolding flags table
truth_is s = refl

matched : (k : ℕ) (s : List ℕ) → k < length table → Matches (row_at k).expression s → flag k (flags s) ≡ true
matched k s h m = flag_is k s h ∙ accepts_complete s (row_at k).expression m

nine : length table ≡ 9
unfolding table
nine = refl

-- a computed test, by the flags of a scalar
below : (P : List Bool → Bool) → InStates P → (s : List ℕ) → Bytes s → T (P (flags s))
below P t s f = rw (by_states P t s f) tt

-- ---- which rows overlap
abbrev decimal_and_number : ℕ → ℕ → Bool
decimal_and_number i j = eqb i decimal_place && eqb j number_place

abbrev apart : List Bool → ℕ → ℕ → Bool
apart fs j i = implies (flag i fs) (implies (flag j fs) (decimal_and_number i j))

all_apart : List Bool → Bool
all_apart fs = all 9 (λ j. all j (λ i. apart fs j i))

all_apart_lem : InStates all_apart
unfolding all_apart table texts derivative nullable
all_apart_lem = refl

rows_apart : (i j : ℕ) → i < j → j < length table → ((i ≡ decimal_place) × (j ≡ number_place) → ⊥) → (s : List ℕ) → Bytes s
    → Matches (row_at i).expression s → Matches (row_at j).expression s → ⊥
unfolding all_apart
rows_apart i j l h n s f a b =
    let t = below all_apart all_apart_lem s f in
    let u = is_true (apart (flags s) j i) (all_at j (λ (i : ℕ). apart (flags s) j i) (all_at 9 (λ (j : ℕ). all j (λ (i : ℕ). apart (flags s) j i)) t j (rw nine at h)) i l) in
    let v = implied (flag i (flags s)) (implies (flag j (flags s)) (decimal_and_number i j)) u (matched i s (omega arith) a) in
    let w = implied (flag j (flags s)) (decimal_and_number i j) v (matched j s h b) in
    n (
      eqb-true i decimal_place (and_left (eqb i decimal_place) (eqb j number_place) w),
      eqb-true j number_place (and_right (eqb i decimal_place) (eqb j number_place) w),
    )

numbers : InStates (λ fs. implies (flag decimal_place fs) (flag number_place fs))
unfolding table texts derivative nullable
numbers = refl

decimal_is_number : (s : List ℕ) → Bytes s → Matches decimal s → Matches number s
unfolding table
decimal_is_number s f m =
    accepts_sound s number
    (sym (flag_is number_place s (lit< tt))
    ∙ implied (flag decimal_place (flags s)) (flag number_place (flags s))
    (by_states (λ (fs : List Bool). implies (flag decimal_place fs) (flag number_place fs)) numbers s f) (matched decimal_place s (lit< tt) m))

-- ---- a row that matches
-- the kind of a row and the flags tell what the row reads
kind_means : (k : Kind) (s : List ℕ) → meaning_of (form_of_kind k (flag truth_place (flags s))) s ≡ reads k s
kind_means k s = ap (λ (f : Form). meaning_of f s) (ap (form_of_kind k) (truth_is s) ∙ sym (kind_form k s)) ∙ sym (kind_by_form k s)

-- a scalar that the row k matches has the form of the row's kind, unless it is a digit run and k the number's row
abbrev has_form : List Bool → ℕ → Bool
has_form fs k =
    implies (flag k fs)
    ((eqb k number_place && flag decimal_place fs) || same_form (form_at fs) (form_of_kind (row_at k).kind (flag truth_place fs)))

all_have : InStates (λ fs. all 9 (has_form fs))
unfolding form_by table texts derivative nullable
all_have = refl

no_digit_run : (k : ℕ) (s : List ℕ) → (k ≡ number_place → Matches decimal s → ⊥) → eqb k number_place && flag decimal_place (flags s) ≡ true → ⊥
unfolding table
no_digit_run k s n e =
    n (eqb-true k number_place (and_left (eqb k number_place) (flag decimal_place (flags s)) e))
    (accepts_sound s decimal (sym (flag_is decimal_place s (lit< tt)) ∙ and_right (eqb k number_place) (flag decimal_place (flags s)) e))

any_row_decides : (k : ℕ) → k < length table → (s : List ℕ) → Bytes s → Matches (row_at k).expression s
    → (k ≡ number_place → Matches decimal s → ⊥) → standard s ≡ reads (row_at k).kind s
any_row_decides k l s f m n =
    let g = form_of_kind (row_at k).kind (flag truth_place (flags s)) in
    let t = below (λ (fs : List Bool). all 9 (has_form fs)) all_have s f in
    let e = implied (flag k (flags s)) _ (is_true (has_form (flags s) k) (all_at 9 (has_form (flags s)) t k (rw nine at l))) (matched k s l m) in
    standard_by_form s
    ∙ ap (λ (g : Form). meaning_of g s)
    (form_is s
    ∙ or_cases (eqb k number_place && flag decimal_place (flags s)) (same_form (form_at (flags s)) g) e
    (λ d. absurd (no_digit_run k s n d))
    (λ d. same_form_lem (form_at (flags s)) g d))
    ∙ kind_means (row_at k).kind s

pub standard_schema : StandardSchema
standard_schema =
    record {
      first_row_decides = λ s. first_match_lem table s;
      first_row_only = λ s m f. only_match f;
      rows_apart = rows_apart;
      decimal_is_number = decimal_is_number;
      any_row_decides = any_row_decides;
    }

-- ---- a row of a kind that matches
-- the form by the rows of the kind of row k, of a scalar that it matches
abbrev kind_has_form : List Bool → ℕ → Bool
kind_has_form fs k =
    implies (flag k fs)
    (same_form (form_by (has_name (bytes (tag_name (row_at k).kind))) fs) (form_of_kind (row_at k).kind (flag truth_place fs)))

all_kinds_have : InStates (λ fs. all 9 (kind_has_form fs))
unfolding form_by table texts derivative nullable same_bytes
all_kinds_have = refl

first_of_kind : (name s : List ℕ) → FirstRow (rows_of (has_name name) table) s (read_as name s)
unfolding read_as
first_of_kind name s = first_match_lem (rows_of (has_name name) table) s

of_its_kind : (k : ℕ) → k < length table → (s : List ℕ) → Bytes s → Matches (row_at k).expression s
    → read_as (bytes (tag_name (row_at k).kind)) s ≡ reads (row_at k).kind s
unfolding read_as
of_its_kind k l s f m =
    let p = has_name (bytes (tag_name (row_at k).kind)) in
    let g = form_of_kind (row_at k).kind (flag truth_place (flags s)) in
    let t = below (λ (fs : List Bool). all 9 (kind_has_form fs)) all_kinds_have s f in
    let e = implied (flag k (flags s)) (same_form (form_by p (flags s)) g) (is_true (kind_has_form (flags s) k) (all_at 9 (kind_has_form (flags s)) t k (rw nine at l))) (matched k s l m) in
    by_form (rows_of p table) s
    ∙ ap (λ (g : Form). meaning_of g s) (form_by_lem p s ∙ same_form_lem (form_by p (flags s)) g e)
    ∙ kind_means (row_at k).kind s

any_of_kind : (name s : List ℕ) → Bytes s → (k : ℕ) → k < length table → has_name name (row_at k).kind ≡ true
    → Matches (row_at k).expression s → read_as name s ≡ reads (row_at k).kind s
any_of_kind name s f k l e m =
    ap (λ (w : List ℕ). read_as w s) (sym (same_bytes_lem (bytes (tag_name (row_at k).kind)) name e)) ∙ of_its_kind k l s f m

digit_run_is_real : (s : List ℕ) → Bytes s → Matches decimal s → core_real s ≡ true
unfolding core_real table same_bytes
digit_run_is_real s f m = ap is_real (any_of_kind (bytes "float") s f number_place (lit< tt) refl (decimal_is_number s f m))

pub any_order : AnyOrder
any_order = record { first_of_kind = first_of_kind; any_of_kind = any_of_kind; digit_run_is_real = digit_run_is_real }
