-- A plain scalar that its measure finds in the text (S5): whether the walk finds a reading of it, and where that ends. The rest is the text
-- from the scalar's start on.
use Rattle.std.specs.Prelude.{is_some, ℕ, ◌+◌, ◌≡◌, refl, Bool, true, false, cond, List, [], ◌∷◌, drop, None, Some}
use Rattle.std.proofs.Common.{sym, ap, ◌∙◌}
use Rattle.utf8.specs.Ascii.{bytes}
use Rattle.utf8.specs.Utf8.{Utf8, encode, encode_all, is_ascii}
use Rattle.utf8.specs.Boundary.{Boundary}
use Rattle.utf8.specs.Characters.{codes}
use Rattle.utf8.proofs.Utf8Laws.{codes_encode, codes_scalars, boundary_splits}
use Rattle.utf8.specs.WhiteSpace.{white_space, is_in, is_white_space}
use Rattle.measure.specs.Run.{white_space_run, after_run, holds_newline}
use Rattle.measure.specs.Plain.{is_fold, reaches, begins_with, takes_run, plain_reach}
use Rattle.measure.specs.Scalar.{plain}
use Rattle.provenance.specs.declared.step.Step.{Step}
use Rattle.provenance.specs.EscapeLaws.{style_fair}
use Rattle.provenance.specs.Grammar.{rules_of}
use Rattle.provenance.specs.Reading.{reading_of, Piece}
use Rattle.provenance.specs.Start.{scalar_list}
use Rattle.provenance.specs.Alike.{ascii_front, run_taken, run_alike, equal_alike, reads_alike, past_span, source_lens, source_taken, pieces_end, no_tabs, narrow_spaces}
use Rattle.provenance.specs.AlikeLaws.{narrow_alike}
use Rattle.provenance.proofs.MeasuredLaws.{along, taken_found, taken_ends, plain_list, some_pieces, of_reading, reading_end}

module _ (column : ℕ) {rest value : List ℕ} {n : ℕ} (u : Utf8 rest) (w : Utf8 value)
    (measured : plain_reach (codes value) (codes rest) ≡ reaches n) where
  -- what the walk takes of the rest: the span and what it takes past it, if it goes along with the measure, else there is no reading
  pub measured_taken : source_taken (reading_of (rules_of plain column) rest value)
      ≡ cond (reads_alike (codes value) (codes rest)) (Some (n + past_span (codes value) (codes rest))) None
  measured_taken =
      ap (λ (s : List ℕ). source_taken (reading_of (rules_of plain column) s value)) (codes_encode u)
      ∙ ap (λ (t : List ℕ). source_taken (reading_of (rules_of plain column) (encode_all (codes rest)) t)) (codes_encode w)
      ∙ along column (codes value) (codes_scalars w) (codes rest) (codes_scalars u) n measured

  -- so there is a reading just if it goes along
  pub measured_list : is_some (reading_of (rules_of plain column) rest value) ≡ reads_alike (codes value) (codes rest)
  measured_list = taken_found (reading_of (rules_of plain column) rest value) (reads_alike (codes value) (codes rest)) _ measured_taken

  -- which ends so far past the span
  pub measured_ends : (ts : List Step) → reading_of (rules_of plain column) rest value ≡ Some ts
      → source_lens ts ≡ n + past_span (codes value) (codes rest)
  measured_ends ts e = taken_ends ts (reads_alike (codes value) (codes rest)) _ (rw e at measured_taken)

  -- there is one, where the value has no tab and the rest no white space of two or more bytes
  pub measured_simply : no_tabs (codes value) ≡ true → narrow_spaces (codes rest) ≡ true
      → is_some (reading_of (rules_of plain column) rest value) ≡ true
  measured_simply t s = measured_list ∙ narrow_alike (codes value) (codes rest) t s

-- ---- the same of the scalar's pieces, at its start in the text

module _ (column len : ℕ) {text value : List ℕ} {start n : ℕ} (u : Utf8 text) (b : Boundary text start) (w : Utf8 value)
    (measured : plain_reach (codes value) (codes (drop start text)) ≡ reaches n) where
  -- it has a list just if the walk goes along
  pub pieces_list : is_some (scalar_list text start len value plain column) ≡ reads_alike (codes value) (codes (drop start text))
  pieces_list =
      ap is_some (plain_list text start len value column b)
      ∙ some_pieces start (reading_of (rules_of plain column) (drop start text) value)
      ∙ measured_list column (boundary_splits u b).back w measured

  -- whose last piece ends so far past the span
  pub pieces_end_at : (ps : List Piece) → scalar_list text start len value plain column ≡ Some ps
      → pieces_end start ps ≡ start + (n + past_span (codes value) (codes (drop start text)))
  pieces_end_at ps e =
      let r = of_reading start (reading_of (rules_of plain column) (drop start text) value) ps (sym (plain_list text start len value column b) ∙ e) in
      ap (pieces_end start) r.are
      ∙ reading_end (rules_of plain column) (style_fair plain) (drop start text) value start r.steps r.is
      ∙ ap (λ (k : ℕ). start + k) (measured_ends column (boundary_splits u b).back w measured r.steps r.is)

  -- there is one, where the value has no tab and the text from there on no white space of two or more bytes
  pub pieces_simply : no_tabs (codes value) ≡ true → narrow_spaces (codes (drop start text)) ≡ true
      → is_some (scalar_list text start len value plain column) ≡ true
  pieces_simply t s = pieces_list ∙ narrow_alike (codes value) (codes (drop start text)) t s

-- ---- worked cases, by code points

-- the value is measured in the rest, with a span of n bytes; whether the walk goes along, and what it takes past the span
abbrev pub Case : List ℕ → List ℕ → ℕ → Bool → ℕ → Type 0
Case rest value n alike past = (plain_reach value rest ≡ reaches n) × (reads_alike value rest ≡ alike) × (past_span value rest ≡ past)

pub record Worked : Type 0 where
  -- a folded line
  pub folded_line : Case (bytes "a\n  b") (bytes "a b") 5 true 0
  -- a tab before a line break, which the value has too
  pub tab_kept : Case (bytes "a\t\n b") (bytes "a\t b") 5 false 0
  -- U+00A0 in the run: before its newline, and after it
  pub wide_first : Case (0x61 ∷ 0xa0 ∷ bytes "\nb") (bytes "a b") 5 false 0
  pub wide_last : Case (0x61 ∷ 0xa ∷ 0xa0 ∷ bytes "b") (bytes "a b") 5 false 0
  -- where the value ends with the run, the walk needs no more of it than a newline before U+00A0, or the blank itself
  pub ends_at_newline : Case (0x61 ∷ 0xa ∷ 0xa0 ∷ []) (bytes "a ") 1 true 1
  pub ends_at_blank : Case (0x61 ∷ 0x20 ∷ 0xa0 ∷ bytes "\n") (bytes "a ") 1 true 1
  pub ends_nowhere : Case (0x61 ∷ 0xa0 ∷ bytes "\n") (bytes "a ") 1 false 0

pub worked : Worked
unfolding plain_reach takes_run begins_with is_fold holds_newline after_run white_space_run is_white_space is_in white_space encode encode_all is_ascii
    ascii_front run_taken run_alike equal_alike reads_alike past_span
worked =
    record {
      folded_line = (refl, refl, refl);
      tab_kept = (refl, refl, refl);
      wide_first = (refl, refl, refl);
      wide_last = (refl, refl, refl);
      ends_at_newline = (refl, refl, refl);
      ends_at_blank = (refl, refl, refl);
      ends_nowhere = (refl, refl, refl);
    }
