-- The framing of an answered case, as the oracle's page gives it. All numbers are four bytes, high byte first.
use Rattle.std.specs.Prelude.{◌<◌, ◌≤◌, ◌⊎◌, ℕ, ◌+◌, ◌-◌, ◌*◌, Bool, true, false, ◌&&◌, cond, List, [], ◌∷◌, leb, eqb, length, take, drop, get_or, Option, Some, None}
use Rattle.replay.specs.declared.case.Returned.{Returned}
use Rattle.replay.specs.declared.case.Rooms.{Rooms}

unfoldable pub number : List ℕ → ℕ → ℕ
number s i = (get_or s i 0 * 256 + get_or s (i + 1) 0) * 65536 + (get_or s (i + 2) 0 * 256 + get_or s (i + 3) 0)

abbrev pub bytes_if : Bool → List ℕ → List ℕ
bytes_if true s = s
bytes_if false s = []

-- the part from `at` on, `len` bytes long, where it lies within
unfoldable pub part_of : List ℕ → ℕ → ℕ → List ℕ
part_of s at len = bytes_if (leb at (length s) && leb len (length s - at)) (take len (drop at s))

abbrev pub text_of : List ℕ → List ℕ
text_of s = part_of s 4 (number s 0)

abbrev pub events_of : List ℕ → List ℕ
events_of s = part_of s (4 + number s 0 + 4) (number s (4 + number s 0))

-- the rooms stand behind the text and the events
abbrev pub rooms_at : List ℕ → ℕ
rooms_at s = 4 + number s 0 + 4 + number s (4 + number s 0)

abbrev pub rooms_of : List ℕ → Rooms
rooms_of s = record { records = number s (rooms_at s); pieces = number s (rooms_at s + 4) }

-- no room for so many numbers in one of the two buffers, or in both there is
abbrev pub TooLargeFor : Rooms → Type 0
TooLargeFor rooms = (4096 < rooms.records) ⊎ (4096 < rooms.pieces)

abbrev pub FitsIn : Rooms → Type 0
FitsIn rooms = (rooms.records ≤ 4096) × (rooms.pieces ≤ 4096)

abbrev pub returned_if : Bool → Returned → Option Returned
returned_if panicked r = cond panicked None (Some r)

-- 255 stands for the code where the original panics
abbrev pub returned_of : List ℕ → Option Returned
returned_of s =
    returned_if
    (eqb (number s (rooms_at s + 8)) 255)
    (record { code = number s (rooms_at s + 8); first = number s (rooms_at s + 12); second = number s (rooms_at s + 16) })

abbrev pub records_len : List ℕ → ℕ
records_len s = 4 * number s (rooms_at s + 20)

abbrev pub records_of : List ℕ → List ℕ
records_of s = part_of s (rooms_at s + 24) (records_len s)

abbrev pub pieces_count_at : List ℕ → ℕ
pieces_count_at s = rooms_at s + 24 + records_len s

abbrev pub pieces_of : List ℕ → List ℕ
pieces_of s = part_of s (pieces_count_at s + 4) (4 * number s (pieces_count_at s))

-- the numbers are those that the bytes hold, and zero past them
unfoldable pub same_numbers : List ℕ → List ℕ → Bool
same_numbers [] s = eqb (length s) 0
same_numbers (n ∷ ns) s = eqb n (number s 0) && same_numbers ns (drop 4 s)
