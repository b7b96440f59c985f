-- The laws of encodings: how long each is, and where what follows one stands.
use mathlib.Core.Path.{◌≡◌, sym, ◌∙◌, ap}
use mathlib.Core.Bool.{Bool}
use mathlib.Core.List.{List, [], ◌∷◌, ◌++◌}
use Prim.Native.Nat.{ℕ, ◌+◌, ◌≤◌}
use native.Mathlib.Nat.{add-zero}
use native.Mathlib.Omega.{arith}
use lib.ListN.{length, get_or, drop, length-append, length-drop}
use lib.Seq.{drop-drop, get_or-drop, take-append_seam, drop-append_seam}
use Rattle.event.specs.Number.{high_first}
use Rattle.event.proofs.NumberLaws.{high_first-length}
use Rattle.event.specs.Encode.{Tag, tagged, YamlEvent, scalar, encode_string, encode_tag, marker_index, encode_rest, encode_body, encode_event}
use Rattle.event.specs.Read.{part, part_of}

-- ---- bytes that stand at a place

module _ (s : List ℕ) (i : ℕ) where
  -- what follows them stands after them
  pub stands_after : (x u : List ℕ) → drop i s ≡ x ++ u → (j : ℕ) → j ≡ i + length x → drop j s ≡ u
  stands_after x u e j h = rw (h, ← drop-drop (length x) i s, e) (drop-append_seam x u)

  -- they are inside
  pub stands_inside : (x u : List ℕ) → drop i s ≡ x ++ u → 1 ≤ length x → i + length x ≤ length s
  stands_inside x u e h = omega (arith, sym (length-drop i s) ∙ ap length e ∙ length-append x u)

  pub byte_stands : (b : ℕ) (u : List ℕ) → drop i s ≡ b ∷ u → get_or s i 0 ≡ b
  byte_stands b u e = rw add-zero at (sym (get_or-drop i s 0 0)) ∙ rw e

  pub byte_after : (b : ℕ) (u : List ℕ) → drop i s ≡ b ∷ u → (j : ℕ) → j ≡ i + 1 → drop j s ≡ u
  byte_after b u e j h = stands_after (b ∷ []) u e j h

  pub number_after : (w n : ℕ) (u : List ℕ) → drop i s ≡ high_first w n ++ u → (j : ℕ) → j ≡ i + w → drop j s ≡ u
  number_after w n u e j h = stands_after (high_first w n) u e j (h ∙ rw (high_first-length w n))

  pub part_stands : (x u : List ℕ) → drop i s ≡ x ++ u → part_of s (part i (length x)) ≡ x
  part_stands x u e = rw e (take-append_seam x u)

-- ---- lengths

pub string_length : (x : List ℕ) → length (encode_string x) ≡ 2 + length x
unfolding encode_string
string_length x = rw (length-append, high_first-length 2 (length x))

pub tag_length : (h x : List ℕ) → length (encode_tag (tagged h x)) ≡ 5 + length h + length x
unfolding encode_tag
tag_length h x = rw (length-append, string_length h, string_length x) (omega arith)

pub rest_length : (m c y : ℕ) (f : Bool) (t : Tag) (v : List ℕ) → length (encode_rest (scalar m c y f t v)) ≡ 6 + length (encode_tag t) + length v
unfolding encode_rest
rest_length m c y f t v = rw (length-append, high_first-length 4 c, length-append) (omega arith)

pub body_length : (e : YamlEvent) → length (encode_body e) ≡ 4 + length (encode_rest e)
unfolding encode_body
body_length e = rw (length-append, high_first-length 4 (marker_index e))

pub event_length : (e : YamlEvent) → length (encode_event e) ≡ 3 + length (encode_body e)
unfolding encode_event
event_length e = rw (length-append, high_first-length 2 (length (encode_body e))) (omega arith)
