-- Offsets in an admitted text.
use Rattle.std.proofs.Common.{◌≡◌, true, List, ℕ, ◌≤◌, length, ap, arith}
use Rattle.utf8.specs.Characters.{is_utf8}
use Rattle.utf8.proofs.Utf8Laws.{utf8_sound}
use Rattle.text.specs.Admission.{text_limit}
use Rattle.text.specs.Offset.{byte_offset, cursor_at}
use Rattle.text.proofs.OffsetLaws.{offset_within}
use Rattle.text.specs.declared.offset.Cursor.{Cursor}

pub cursor_offset : (s : List ℕ) (k : ℕ) (r : Cursor) → r ≡ cursor_at s k → r.offset ≡ byte_offset s k
unfolding cursor_at
cursor_offset s k r e = ap (λ (x : Cursor). x.offset) e

pub offset_few : (s : List ℕ) (k : ℕ) (r : Cursor) → length s ≤ text_limit → is_utf8 s ≡ true → r ≡ cursor_at s k → r.offset ≤ 1_048_576
offset_few s k r l u e =
    let o = cursor_offset s k r e in
    let w = offset_within (utf8_sound s u) k in
    omega arith
