-- What is read was written, part by part: strings, YAML tags, and the body of a scalar whose tests are known.
use Rattle.std.specs.Prelude.{◌≡◌, refl, Bool, true, false, List, ◌∷◌, ◌++◌, ◌⊎◌, ℕ, ◌+◌, ◌-◌, ◌≤◌, ◌<◌, ltb, leb, eqb, length, get_or, drop, Option, None, Some, Result, Ok, Err, IfOk}
use Rattle.std.proofs.Common.{sym, ◌∙◌, arith, add-one, append_assoc, ltb-true, leb-true, eqb-true, length-drop, take-append-drop, drop-cons}
use borrow.Author.Tests.{eqb-false}
use lib.Seq.{drop-drop, length-take-le}
use Rattle.utf8.specs.Ascii.{Bytes}
use Rattle.utf8.specs.Characters.{is_utf8}
use Rattle.utf8.proofs.Utf8Laws.{utf8_sound}
use Rattle.style.specs.Style.{style_of}
use Rattle.event.specs.Number.{high_first, number_at}
use Rattle.event.proofs.NumberLaws.{capacity, number_fits, number_written}
use Rattle.event.specs.Encode.{Tag, untagged, tagged, YamlEvent, scalar, encode_string, encode_tag, encode_flag, tag_byte, marker_index, encode_rest, SoundString, SoundTag, SoundRest}
use Rattle.event.specs.Read.{malformed, part, part_of, yaml_tag, read_string, read_parts, read_tag, read_start_tag}
use Rattle.event.proofs.ReadCases.{by_test, by_step}
use Rattle.event.proofs.EncodeLaws.{tag_length, rest_length}
use Rattle.event.specs.Meaning.{placed_tag, placed_body}
use Rattle.event.specs.declared.malformed.Malformed.{Malformed}
use Rattle.event.specs.declared.string.Part.{Part}
use Rattle.event.specs.declared.tag.YamlTag.{YamlTag}
use Rattle.event.specs.declared.read.Event.{Event}
use Rattle.event.specs.declared.read.Event.TheVariants.{Scalar}

-- ---- bytes at a place

-- a part and what follows it
pub part_written : (s : List ℕ) (i n j : ℕ) → j ≡ i + n → drop i s ≡ part_of s (part i n) ++ drop j s
part_written s i n j h = sym (take-append-drop n (drop i s)) ∙ rw (drop-drop n i s, h)

pub part_length : (s : List ℕ) (i n : ℕ) → i + n ≤ length s → length (part_of s (part i n)) ≡ n
part_length s i n h = length-take-le n (drop i s) (rw (length-drop i s) (omega arith))

pub byte_written : (s : List ℕ) (i j : ℕ) → i < length s → j ≡ i + 1 → drop i s ≡ get_or s i 0 ∷ drop j s
byte_written s i j h k = rw (k, add-one) (drop-cons s i 0 h)

-- ---- strings

pub record FoundString (s : List ℕ) (i : ℕ) (p : Part) : Type 0 where
  pub from : p.at ≡ i + 2
  pub ends : p.at + p.len ≤ length s
  pub size : length (part_of s p) ≡ p.len
  pub sound : SoundString (part_of s p)
  pub written : drop i s ≡ encode_string (part_of s p) ++ drop (p.at + p.len) s

abbrev pub StringFound : List ℕ → ℕ → Result Part Malformed → Type 0
StringFound s i r = IfOk r (FoundString s i)

module _ (s : List ℕ) (bytes : Bytes s) where
  found_string : (i : ℕ) → i + 2 + number_at s i 2 ≤ length s → is_utf8 (part_of s (part (i + 2) (number_at s i 2))) ≡ true
      → FoundString s i (part (i + 2) (number_at s i 2))
  unfolding encode_string capacity
  found_string i h u =
      let n = number_at s i 2 in
      let size : length (part_of s (part (i + 2) n)) ≡ n = part_length s (i + 2) n (omega arith) in
      let fits = number_fits s bytes i 2 in
      record {
        from = refl;
        ends = h;
        size = size;
        sound = record { utf8 = utf8_sound _ u; short = omega arith };
        written = number_written s bytes i 2 (omega arith) ∙ rw (size, append_assoc, ← part_written s (i + 2) n (i + 2 + n) refl);
      }

  pub string_found : (i : ℕ) → StringFound s i (read_string s i)
  unfolding read_string
  string_found i =
      by_test (leb (i + 2) (length s)) _ _ (StringFound s i)
      (λ t. by_test (leb (i + 2 + number_at s i 2) (length s)) _ _ (StringFound s i)
      (λ u. by_test (is_utf8 (part_of s (part (i + 2) (number_at s i 2)))) _ _ (StringFound s i) (found_string i (leb-true _ _ u)) (λ v. tt))
      (λ u. tt))
      (λ t. tt)

-- ---- YAML tags

pub record FoundTag (s : List ℕ) (i : ℕ) (t : Option YamlTag) (n : ℕ) : Type 0 where
  pub meant : Tag
  pub sound : SoundTag meant
  pub is : t ≡ placed_tag i meant
  pub next : n ≡ i + length (encode_tag meant)
  pub ends : n ≤ length s
  pub written : drop i s ≡ encode_tag meant ++ drop n s

abbrev pub TagFound : List ℕ → ℕ → Result (Option YamlTag × ℕ) Malformed → Type 0
TagFound s i r = IfOk r (λ t. FoundTag s i t.0 t.1)

abbrev pub StartFound : List ℕ → ℕ → Result (Option YamlTag) Malformed → Type 0
StartFound s i r = IfOk r (λ t. FoundTag s i t (length s))

same_part : (p : Part) (i n : ℕ) → p.at ≡ i → p.len ≡ n → p ≡ part i n
same_part p i n h k = rw (← h, ← k)

module _ (s : List ℕ) (bytes : Bytes s) where
  found_absent : (i : ℕ) → i < length s → get_or s i 0 ≡ 0 → FoundTag s i None (i + 1)
  unfolding encode_tag
  found_absent i h b =
      record {
        meant = untagged;
        sound = tt;
        is = refl;
        next = refl;
        ends = omega arith;
        written = byte_written s i (i + 1) (omega arith) refl ∙ rw b;
      }

  found_present : (i : ℕ) (h x : Part) → i < length s → get_or s i 0 ≡ 1 → FoundString s (i + 1) h → FoundString s (h.at + h.len) x
      → FoundTag s i (Some (yaml_tag h x)) (x.at + x.len)
  unfolding encode_tag
  found_present i h x l b p q =
      let handle = part_of s h in
      let suffix = part_of s x in
      let size = tag_length handle suffix in
      let h-from = p.from in
      let h-size : h.len ≡ length (part_of s h) = sym p.size in
      let x-size : x.len ≡ length (part_of s x) = sym q.size in
      let h-is : h ≡ part (i + 1 + 2) (length handle) = same_part h _ _ p.from h-size in
      let x-from = q.from in
      let x-is : x ≡ part (i + 1 + 2 + length handle + 2) (length suffix) = same_part x _ _ (omega arith) x-size in
      record {
        meant = tagged handle suffix;
        sound = (p.sound, q.sound);
        is = cc;
        next = omega arith;
        ends = q.ends;
        written = byte_written s i (i + 1) (omega arith) refl ∙ rw (b, append_assoc, ← q.written, ← p.written);
      }

  parts_found : (i : ℕ) → i < length s → get_or s i 0 ≡ 1 → TagFound s i (read_parts s (i + 1))
  parts_found i l b =
      by_step (read_string s (i + 1)) _ (FoundString s (i + 1)) (TagFound s i) (string_found s bytes (i + 1))
      (λ h p. by_step (read_string s (h.at + h.len)) _ (FoundString s (h.at + h.len)) (TagFound s i) (string_found s bytes (h.at + h.len))
      (λ x q. found_present i h x l b p q) tt)
      tt

  pub tag_found : (i : ℕ) → TagFound s i (read_tag s i)
  unfolding read_tag
  tag_found i =
      by_test (ltb i (length s)) _ _ (TagFound s i)
      (λ t. by_test (eqb (get_or s i 0) 0) _ _ (TagFound s i) (λ u. found_absent i (ltb-true i (length s) t) (eqb-true _ _ u))
      (λ u. by_test (eqb (get_or s i 0) 1) _ _ (TagFound s i) (λ v. parts_found i (ltb-true i (length s) t) (eqb-true _ _ v)) (λ v. tt)))
      (λ t. tt)

  pub start_tag_found : (i : ℕ) → StartFound s i (read_start_tag s i)
  unfolding read_start_tag
  start_tag_found i =
      by_step (read_tag s i) _ (λ t. FoundTag s i t.0 t.1) (StartFound s i) (tag_found i)
      (λ t p. by_test (eqb t.1 (length s)) _ _ (StartFound s i) (λ u. rw (eqb-true t.1 (length s) u) at p) (λ u. tt))
      tt

-- ---- bodies

-- an answer r for a body of this tag byte and marker index, which goes on from i to the end
pub record FoundBody (s : List ℕ) (kind m i : ℕ) (r : Result Event Malformed) : Type 0 where
  pub event : YamlEvent
  pub kind_is : kind ≡ tag_byte event
  pub index_is : m ≡ marker_index event
  pub sound : SoundRest event
  pub is : r ≡ Ok (placed_body i event)
  pub ends : length s ≡ i + length (encode_rest event)
  pub written : drop i s ≡ encode_rest event ++ drop (length s) s

abbrev pub BodyFound : List ℕ → ℕ → ℕ → ℕ → Result Event Malformed → Type 0
BodyFound s kind m i r = (r ≡ Err malformed) ⊎ FoundBody s kind m i r

flag_written : (b : ℕ) → b ≤ 1 → b ≡ encode_flag (eqb b 1)
flag_written b h = go (eqb b 1) refl
  where
    go : (f : Bool) → eqb b 1 ≡ f → b ≡ encode_flag f
    go true t = eqb-true b 1 t
    go false t = omega (arith, eqb-false b 1 t)

module _ (s : List ℕ) (bytes : Bytes s) where
  pub found_scalar : (m i : ℕ) (t : Option YamlTag × ℕ) → i + 6 ≤ length s → get_or s (i + 4) 0 ≤ 4 → get_or s (i + 5) 0 ≤ 1 → FoundTag s (i + 6) t.0 t.1
      → is_utf8 (part_of s (part t.1 (length s - t.1))) ≡ true
      → FoundBody s 5 m i (Ok (Scalar m (number_at s i 4) (style_of (get_or s (i + 4) 0)) (eqb (get_or s (i + 5) 0) 1) t.0 (part t.1 (length s - t.1))))
  unfolding encode_rest capacity
  found_scalar m i t l known told p u =
      let column = number_at s i 4 in
      let style = get_or s (i + 4) 0 in
      let flag = get_or s (i + 5) 0 in
      let value = part_of s (part t.1 (length s - t.1)) in
      let v-is = p.next in
      let v-ends = p.ends in
      let v-size : length value ≡ length s - t.1 = part_length s t.1 (length s - t.1) (omega arith) in
      let size = rest_length m column style (eqb flag 1) p.meant value in
      let value_on : drop t.1 s ≡ value ++ drop (length s) s = part_written s t.1 (length s - t.1) (length s) (omega arith) in
      let flag-on : drop (i + 5) s ≡ flag ∷ drop (i + 6) s = byte_written s (i + 5) (i + 6) (omega arith) (omega arith) in
      let style-on : drop (i + 4) s ≡ style ∷ drop (i + 5) s = byte_written s (i + 4) (i + 5) (omega arith) (omega arith) in
      let column-on : drop i s ≡ high_first 4 column ++ drop (i + 4) s = number_written s bytes i 4 (omega arith) in
      record {
        event = scalar m column style (eqb flag 1) p.meant value;
        kind_is = refl;
        index_is = refl;
        sound = record { column_fits = number_fits s bytes i 4; style_known = known; tag_sound = p.sound; value_utf8 = utf8_sound _ u };
        is = cc;
        ends = omega arith;
        written = column-on ∙ rw (append_assoc, append_assoc, ← value_on, ← p.written, ← flag_written flag told, ← flag-on, ← style-on);
      }
