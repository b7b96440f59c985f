-- Cursors.
use mathlib.Core.Path.{◌≡◌, ap}
use mathlib.Core.List.{List}
use Prim.Native.Nat.{ℕ, ◌≤◌}
use native.Mathlib.Omega.{arith}
use lib.ListN.{length}
use Rattle.utf8.specs.Utf8.{Utf8}
use Rattle.utf8.specs.Boundary.{Boundary}
use Rattle.text.specs.Admission.{text_limit}
use Rattle.text.specs.Offset.{byte_offset, cursor_at}
use Rattle.text.specs.declared.offset.Cursor.{Cursor}
use Rattle.text.proofs.OffsetLaws.{offset_boundary, offset_within}

-- the cursor's offset is the index's
pub cursor_offset : (text : List ℕ) (k : ℕ) (c : Cursor) → c ≡ cursor_at text k → c.offset ≡ byte_offset text k
unfolding cursor_at
cursor_offset text k c e = ap (λ (d : Cursor). d.offset) e

-- so it is at a boundary
pub cursor_boundary : {text : List ℕ} → Utf8 text → (k : ℕ) (c : Cursor) → c ≡ cursor_at text k → Boundary text c.offset
cursor_boundary {text} u k c e = rw (cursor_offset text k c e) (offset_boundary u k)

-- and within the text
pub cursor_within : (text : List ℕ) (k : ℕ) (c : Cursor) → Utf8 text → length text ≤ text_limit → c ≡ cursor_at text k → (c.offset ≤ length text) × (c.offset ≤ text_limit)
cursor_within text k c u l e =
    let o = cursor_offset text k c e in
    let w = offset_within u k in
    (omega arith, omega arith)
