-- A block's header with nothing but newlines behind it, and the list of a scalar, by where its walk starts.
use Rattle.std.specs.Prelude.{Option}
use mathlib.Core.Path.{◌≡◌, sym, ap, ◌∙◌}
use mathlib.Core.Bool.{Bool, true, false, ◌&&◌}
use mathlib.Core.List.{List}
use Prim.Native.Nat.{ℕ}
use lib.ListN.{length, drop, get_or}
use Rattle.utf8.specs.Boundary.{is_boundary}
use Rattle.provenance.specs.declared.walk.Walked.{Walked}
use Rattle.provenance.specs.declared.walk.Walked.TheVariants.{NoList}
use Rattle.provenance.specs.Grammar.{rules_of}
use Rattle.provenance.specs.Reading.{Piece, reading_of}
use Rattle.provenance.specs.Layout.{room, zeros, answer_of, buffer_of, pieces_if}
use Rattle.provenance.specs.Run.{only_newlines}
use Rattle.provenance.specs.Start.{is_header, at_empty_block_header, walk_start, list_from, scalar_list}

pub header_yes : (l v : List ℕ) → is_header (get_or l 0 0) ≡ true → (t : Bool) → t ≡ only_newlines v → t ≡ at_empty_block_header l v
unfolding at_empty_block_header
header_yes l v h t e = e ∙ sym (ap (λ (x : Bool). x && only_newlines v) h)

-- ---- the list of a scalar

module _ (text : List ℕ) (start len : ℕ) (value : List ℕ) (style column : ℕ) where
  abbrev list : Option (List Piece)
  list = scalar_list text start len value style column

  pub cannot_start : (buf : List ℕ) → buf ≡ zeros (length buf) → (first : ℕ) → first ≡ walk_start text start len value style → is_boundary text first ≡ false
      → (NoList ≡ answer_of (room (length buf)) list) × (buf ≡ buffer_of (length buf) list)
  unfolding scalar_list list_from answer_of buffer_of
  cannot_start buf z first e b =
      let no : is_boundary text (walk_start text start len value style) ≡ false = ap (is_boundary text) (sym e) ∙ b in
      (rw no, rw no z)

  pub can_start : (size first : ℕ) → first ≡ walk_start text start len value style → is_boundary text first ≡ true → (w : Walked) (buf : List ℕ)
      → (w ≡ answer_of (room size) (pieces_if first (reading_of (rules_of style column) (drop first text) value))) × (buf ≡ buffer_of size (pieces_if first (reading_of (rules_of style column) (drop first text) value)))
      → (w ≡ answer_of (room size) list) × (buf ≡ buffer_of size list)
  unfolding scalar_list list_from
  can_start size first e b w buf h =
      let yes : is_boundary text (walk_start text start len value style) ≡ true = ap (is_boundary text) (sym e) ∙ b in
      rw yes (rw e at h)
