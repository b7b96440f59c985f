-- The flags of a scalar: for each row of the table whether it accepts the scalar, and whether it is a word that is true. They
-- are those of a state of the automaton (`ends`), so that what holds of the flags of every state, by a computed test, holds of
-- every scalar (`by_states`). The form of a scalar by some of the rows is read off its flags (`form_by_lem`).
use mathlib.Core.Path.{◌≡◌, refl, sym, ◌∙◌, ap}
use mathlib.Core.Bool.{Bool, true, false, ◌&&◌, cond}
use mathlib.Core.List.{List, [], ◌∷◌, ◌++◌, map}
use Prim.Native.Nat.{ℕ, suc, ◌+◌, ◌<◌}
use Rattle.std.specs.Prelude.{Some, slice_get}
use native.Mathlib.Decide.{ℕ_discrete}
use native.Mathlib.Numerals.{add-one}
use native.Mathlib.Omega.{arith}
use borrow.Author.Tests.{eqb-true}
use lib.Dec.{T, eqb}
use lib.ListN.{length, drop, get_or}
use lib.Seq.{drop-cons}
use Rattle.utf8.proofs.Table.{all, all_at}
use Rattle.utf8.specs.Ascii.{Bytes}
use Rattle.schema.specs.Regex.{Regex, none}
use Rattle.schema.specs.Matcher.{nullable, derivative, accepts}
use Rattle.schema.specs.Rows.{true_word}
use Rattle.schema.specs.Integer.{ten, eight, sixteen}
use Rattle.schema.specs.Standard.{Kind, null, bool, int, float, Row, table, reads, first_match}
use Rattle.schema.specs.Kinds.{rows_of}
use Rattle.schema.specs.Form.{form_for, form_of}
use Rattle.schema.specs.Automaton.{expressions, all_rows, texts, state_count, start_state, dead_state, states, awaits, accepted, flags}
use Rattle.schema.specs.Automaton.{Tables, begins_no_row}
use Rattle.schema.specs.declared.form.Form.{Form}
use Rattle.schema.specs.declared.form.Form.TheVariants.{Null, True, False, Decimal, Octal, Hexadecimal, Float, Other}
use Rattle.schema.proofs.Bools.{is_true, implies, implied}
use Rattle.schema.proofs.Lists.{every, every_at, pairwise, pairwise-length, pairwise_at}
use Rattle.schema.proofs.Automaton.{same_rows, same_rows_is, state_count_lem, SymbolsRight, NextRight}
use Rattle.schema.proofs.Automaton.{line_count, symbol_from, symbol_low, entry_from, state_low, derives, moved}

-- ---- a step of a run
accepted_cons : (b : ℕ) (s : List ℕ) (rs : List Regex) → accepted rs (b ∷ s) ≡ accepted (map (derivative b) rs) s
unfolding accepts
accepted_cons b s [] = refl
accepted_cons b s (r ∷ rs) = ap (λ (fs : List Bool). accepts (derivative b r) s ∷ fs) (accepted_cons b s rs)

turn : (rs qs : List Regex) (b : ℕ) (s : List ℕ) → qs ≡ map (derivative b) rs → accepted rs (b ∷ s) ≡ accepted qs s
turn rs qs b s e = accepted_cons b s rs ∙ ap (λ (rs : List Regex). accepted rs s) (sym e)

-- the flags of a scalar that ends in the state
unfoldable flags_at : ℕ → List Bool
flags_at q = map nullable (awaits q)

pub started : (s : List ℕ) → accepted (awaits start_state) s ≡ flags s
unfolding flags awaits texts
started s = refl

ended : (q : ℕ) → accepted (awaits q) [] ≡ flags_at q
unfolding flags_at accepts
ended q = refl

-- ---- what holds of the flags of every state
record Ends (q : ℕ) (s : List ℕ) : Type 0 where
  last : ℕ
  low : last < state_count
  is : accepted (awaits q) s ≡ flags_at last

ends : (s : List ℕ) (q : ℕ) → q < state_count → Bytes s → Ends q s
ends [] q l f = record { last = q; low = l; is = ended q }
ends (b ∷ s) q l f =
    let m = moved q b l (f 0) in
    let e = ends s m.to m.low (λ k. f (suc k)) in
    record { last = e.last; low = e.low; is = turn (awaits q) (awaits m.to) b s m.derives ∙ e.is }

abbrev pub InStates : (List Bool → Bool) → Type 0
InStates P = every (λ rs. P (map nullable rs)) states ≡ true

pub by_states : (P : List Bool → Bool) → InStates P → (s : List ℕ) → Bytes s → P (flags s) ≡ true
unfolding flags_at awaits
by_states P t s f =
    let e = ends s start_state (omega arith) f in
    ap P (sym (started s) ∙ e.is) ∙ every_at (λ (rs : List Regex). P (map nullable rs)) [] states t e.last (rw state_count_lem e.low)

-- ---- the form of some flags
abbrev pub flag : ℕ → List Bool → Bool
flag k fs = get_or fs k false

-- the form of a scalar whose first row is of this kind, by whether it is a word that is true
abbrev pub form_of_kind : Kind → Bool → Form
form_of_kind null t = Null
form_of_kind bool t = cond t True False
form_of_kind (int ten) t = Decimal
form_of_kind (int eight) t = Octal
form_of_kind (int sixteen) t = Hexadecimal
form_of_kind float t = Float

abbrev form_among : (Kind → Bool) → List Row → Bool → List Bool → Form
form_among p [] t fs = Other
form_among p (r ∷ rs) t [] = Other
form_among p (r ∷ rs) t (f ∷ fs) = cond (p r.kind && f) (form_of_kind r.kind t) (form_among p rs t fs)

-- the place of the last flag, behind the table's nine
abbrev pub truth_place : ℕ
truth_place = 9

-- the form by the rows of some kinds
unfoldable pub form_by : (Kind → Bool) → List Bool → Form
form_by p fs = form_among p table (flag truth_place fs) fs

abbrev pub any_kind : Kind → Bool
any_kind k = true

abbrev pub form_at : List Bool → Form
form_at fs = form_by any_kind fs

pub kind_form : (k : Kind) (s : List ℕ) → form_for (reads k s) ≡ form_of_kind k (accepts true_word s)
kind_form null s = refl
kind_form bool s = refl
kind_form (int ten) s = refl
kind_form (int eight) s = refl
kind_form (int sixteen) s = refl
kind_form float s = refl

module _ (p : Kind → Bool) (s : List ℕ) where
  row_form : (c a : Bool) (r : Row) (rs : List Row) (f : Form) → accepts r.expression s ≡ a → form_for (first_match rs s) ≡ f
      → form_for (first_match (cond c (r ∷ rs) rs) s) ≡ cond (c && a) (form_of_kind r.kind (accepts true_word s)) f
  unfolding first_match
  row_form true true r rs f e h = rw e (kind_form r.kind s)
  row_form true false r rs f e h = rw e h
  row_form false a r rs f e h = h

  among : (rs : List Row) (qs : List Regex)
      → form_for (first_match (rows_of p rs) s) ≡ form_among p rs (accepts true_word s) (accepted (expressions rs ++ qs) s)
  unfolding first_match
  among [] qs = refl
  among (r ∷ rs) qs =
      row_form (p r.kind) (accepts r.expression s) r (rows_of p rs)
      (form_among p rs (accepts true_word s) (accepted (expressions rs ++ qs) s)) refl (among rs qs)

  pub form_by_lem : form_for (first_match (rows_of p table) s) ≡ form_by p (flags s)
  unfolding form_by flags table
  form_by_lem = among table (true_word ∷ [])

pub form_is : (s : List ℕ) → form_of s ≡ form_at (flags s)
unfolding form_of table
form_is s = form_by_lem any_kind s

-- ---- forms that are the same
abbrev pub place_of : Form → ℕ
place_of Null = 0
place_of True = 1
place_of False = 2
place_of Decimal = 3
place_of Octal = 4
place_of Hexadecimal = 5
place_of Float = 6
place_of Other = 7

abbrev form_placed : ℕ → Form
form_placed k = get_or (Null ∷ True ∷ False ∷ Decimal ∷ Octal ∷ Hexadecimal ∷ Float ∷ []) k Other

placed_lem : (f : Form) → form_placed (place_of f) ≡ f
placed_lem Null = refl
placed_lem True = refl
placed_lem False = refl
placed_lem Decimal = refl
placed_lem Octal = refl
placed_lem Hexadecimal = refl
placed_lem Float = refl
placed_lem Other = refl

abbrev pub same_form : Form → Form → Bool
same_form f g = eqb (place_of f) (place_of g)

pub same_form_lem : (f g : Form) → same_form f g ≡ true → f ≡ g
same_form_lem f g e = sym (placed_lem f) ∙ ap form_placed (eqb-true (place_of f) (place_of g) e) ∙ placed_lem g

-- the code's forms: each is that of its state
abbrev pub form_right : List Regex → Form → Bool
form_right rs f = same_form f (form_at (map nullable rs))

abbrev pub FormsRight : List Form → Type 0
FormsRight forms = pairwise form_right states forms ≡ true

-- the form of a scalar that ends in a state
form_tells : (forms : List Form) → FormsRight forms → (q : ℕ) (s : List ℕ) → q < state_count → accepted (awaits q) [] ≡ flags s
    → get_or forms q Null ≡ form_of s
unfolding flags_at awaits
form_tells forms t q s l e =
    let h = pairwise_at form_right [] Null states forms t q (rw state_count_lem l) in
    same_form_lem (get_or forms q Null) (form_at (flags_at q)) h ∙ ap form_at (sym (ended q) ∙ e) ∙ sym (form_is s)

-- tables that pass the three tests
pub tables : (symbols : List ℕ) (next : List (List ℕ)) (forms : List Form)
    → length symbols ≡ 256 → SymbolsRight symbols → NextRight next → FormsRight forms → Tables symbols next forms
tables symbols next forms count s n t =
    record {
      symbol_count = count;
      line_count = line_count symbols next count s n;
      form_count = sym (pairwise-length form_right states forms t) ∙ state_count_lem;
      symbol_from = symbol_from symbols next count s n;
      symbol_low = symbol_low symbols next count s n;
      entry_from = λ q b l h. entry_from symbols next count s n b h q l;
      state_low = λ q b l h. state_low symbols next count s n b h q l;
      derives = λ q b l h. derives symbols next count s n b h q l;
      form_tells = form_tells forms t;
    }

-- ---- the state that awaits nothing
none-accepts : (s : List ℕ) → accepts none s ≡ false
unfolding accepts nullable derivative
none-accepts [] = refl
none-accepts (b ∷ s) = none-accepts s

pub nothing_left : (s t : List ℕ) → accepted (awaits dead_state) s ≡ flags t → Other ≡ form_of t
unfolding awaits table texts form_by derivative nullable
nothing_left s t e = sym (form_is t ∙ ap form_at (sym e) ∙ rw none-accepts refl)

-- letters that no row begins with lead there
abbrev stops : ℕ → Bool
stops b = implies (begins_no_row b) (same_rows (awaits dead_state) (map (derivative b) all_rows))

letters_stop : T (all 256 stops)
unfolding begins_no_row awaits table texts derivative nullable ℕ_discrete
letters_stop = tt

pub letter_stops : (s : List ℕ) (b : ℕ) → Bytes s → slice_get s 0 ≡ Some b → begins_no_row b ≡ true → Other ≡ form_of s
unfolding flags
letter_stops [] b f e h = absurd (cc)
letter_stops (c ∷ s) b f e h =
    let k : begins_no_row c ≡ true = cc in
    let t = is_true (stops c) (all_at 256 stops letters_stop c (f 0)) in
    let d = same_rows_is (awaits dead_state) (map (derivative c) all_rows) (implied (begins_no_row c) _ t k) in
    nothing_left s (c ∷ s) (sym (turn all_rows (awaits dead_state) c s d))

-- ---- a turn of the code's loop
pub turned : (s : List ℕ) (i q p : ℕ) → i < length s → accepted (awaits q) (drop i s) ≡ flags s
    → awaits p ≡ map (derivative (get_or s i 0)) (awaits q) → accepted (awaits p) (drop (i + 1) s) ≡ flags s
turned s i q p h e d =
    ap (λ (t : List ℕ). accepted (awaits p) t) (ap (λ (k : ℕ). drop k s) (add-one i))
    ∙ sym (turn (awaits q) (awaits p) (get_or s i 0) (drop (suc i) s) d)
    ∙ ap (accepted (awaits q)) (sym (drop-cons s i 0 h))
    ∙ e
