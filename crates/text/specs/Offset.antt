-- Marker offsets (P1): the byte offset of a character index is the length of that many characters, so an index past the text
-- gives the text's length with no case of its own. The cursor of the Rust, a count of characters and an offset, stands at
-- such a place. The laws stand in `OffsetLaws`.
use Rattle.std.specs.Prelude.{ℕ, ◌≤◌, min, ◌≡◌, List, length, take}
use Rattle.utf8.specs.Utf8.{encode_all}
use Rattle.utf8.specs.Characters.{codes}
use Rattle.text.specs.declared.offset.Cursor.{Cursor}

-- the bytes of the first k characters of the text s
unfoldable pub byte_offset : List ℕ → ℕ → ℕ
byte_offset s k = length (encode_all (take k (codes s)))

-- the cursor at the character index k
unfoldable pub cursor_at : List ℕ → ℕ → Cursor
cursor_at s k = record { chars = min k (length (codes s)); offset = byte_offset s k }

-- a cursor's own invariant: as many characters as the text has at the most, and the offset that belongs to them
pub record Stands (s : List ℕ) (chars offset : ℕ) : Type 0 where
  pub counted : chars ≤ length (codes s)
  pub placed : offset ≡ byte_offset s chars
