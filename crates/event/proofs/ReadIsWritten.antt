-- What is read was written: where the reader answers an event, the encoding of that event stands. Nothing malformed gets through.
-- `ReadLaws` has what callers go by.
use Rattle.std.specs.Prelude.{◌≡◌, refl, List, [], ◌++◌, ◌⊎◌, ℕ, ◌+◌, ◌≤◌, ◌<◌, ltb, leb, eqb, length, get_or, take, drop, Option, Result, Ok, Err}
use Rattle.std.proofs.Common.{sym, ◌∙◌, ap, inl, inr, arith, append_assoc, append-nil, leb-true, eqb-true, take-append-drop, length-take}
use Rattle.std.proofs.Math.Decide.{dec_lt}
use Rattle.std.proofs.Math.ListN.{get_or-eq_default}
use borrow.Author.Tests.{ltb-false}
use lib.Seq.{drop-append-le, drop-length, get_or-take, length-take-le}
use Rattle.utf8.specs.Ascii.{Bytes}
use Rattle.event.specs.Number.{number_at}
use Rattle.event.proofs.NumberLaws.{capacity, number_fits, number_written}
use Rattle.event.specs.Encode.{Tag, YamlEvent, sequence_start, sequence_end, mapping_start, mapping_end, alias, encode_tag, tag_byte, marker_index, encode_rest, encode_body, encode_event, SoundTag, SoundRest}
use Rattle.event.specs.Read.{malformed, ◌>>=◌, read_start_tag, bare_event, read_body, read_event}
use Rattle.event.proofs.ReadCases.{by_test, by_step}
use Rattle.event.proofs.EncodeLaws.{body_length, event_length}
use Rattle.event.specs.Meaning.{placed_tag, placed_body, placed, Answers}
use Rattle.event.specs.declared.malformed.Malformed.{Malformed}
use Rattle.event.specs.declared.tag.YamlTag.{YamlTag}
use Rattle.event.specs.declared.read.Event.{Event}
use Rattle.event.specs.declared.read.Event.TheVariants.{SequenceStart, MappingStart}
use Rattle.event.proofs.ReadParts.{byte_written, FoundTag, start_tag_found, FoundBody, BodyFound}
use Rattle.event.proofs.ReadScalar.{scalar_found}

module _ (s : List ℕ) (bytes : Bytes s) where
  -- a start, whose body is a YAML tag
  start_found : (kind m i : ℕ) (event : Tag → YamlEvent) (answer : Option YamlTag → Event)
      → ((t : Tag) → kind ≡ tag_byte (event t)) → ((t : Tag) → m ≡ marker_index (event t)) → ((t : Tag) → SoundTag t → SoundRest (event t))
      → ((t : Tag) → answer (placed_tag i t) ≡ placed_body i (event t)) → ((t : Tag) → encode_tag t ≡ encode_rest (event t))
      → BodyFound s kind m i (read_start_tag s i >>= λ t. Ok (answer t))
  start_found kind m i event answer k n h a b =
      by_step (read_start_tag s i) _ (λ t. FoundTag s i t (length s)) (BodyFound s kind m i) (start_tag_found s bytes i)
      (λ t p. inr
      (record {
        event = event p.meant;
        kind_is = k p.meant;
        index_is = n p.meant;
        sound = h p.meant p.sound;
        is = ap (λ (x : Option YamlTag). Ok (answer x)) p.is ∙ ap (λ (x : Event). Ok x) (a p.meant);
        ends = p.next ∙ rw (b p.meant);
        written = p.written ∙ rw (b p.meant);
      }))
      (inl refl)

  -- an event whose body is its marker index
  bare_found : (kind m i : ℕ) (event : YamlEvent) → kind ≡ tag_byte event → m ≡ marker_index event → SoundRest event → encode_rest event ≡ []
      → length s ≡ i
      → BodyFound s kind m i (Ok (placed_body i event))
  bare_found kind m i event k n h b z =
      inr
      (record {
        event = event;
        kind_is = k;
        index_is = n;
        sound = h;
        is = refl;
        ends = rw b (omega arith);
        written = rw (b, z);
      })

  pub body_found : (kind m i : ℕ) → i ≤ length s → BodyFound s kind m i (read_body s kind m i)
  unfolding read_body encode_rest
  body_found kind m i h =
      by_test (eqb kind 5) _ _ (BodyFound s kind m i) (λ t. rw (eqb-true kind 5 t) (scalar_found s bytes m i))
      (λ t5. by_test (eqb kind 1) _ _ (BodyFound s kind m i)
      (λ t. start_found kind m i (sequence_start m) (SequenceStart m) (λ x. eqb-true kind 1 t) (λ x. refl) (λ x y. y) (λ x. refl) (λ x. refl))
      (λ t1. by_test (eqb kind 3) _ _ (BodyFound s kind m i)
      (λ t. start_found kind m i (mapping_start m) (MappingStart m) (λ x. eqb-true kind 3 t) (λ x. refl) (λ x y. y) (λ x. refl) (λ x. refl))
      (λ t3. by_test (ltb i (length s)) _ _ (BodyFound s kind m i) (λ t. inl refl)
      (λ t. bare (let k = ltb-false i (length s) t in omega arith)))))
    where
      bare : length s ≡ i → BodyFound s kind m i (bare_event kind m)
      bare z =
          by_test (eqb kind 2) _ _ (BodyFound s kind m i) (λ t. bare_found kind m i (sequence_end m) (eqb-true kind 2 t) refl tt refl z)
          (λ t2. by_test (eqb kind 4) _ _ (BodyFound s kind m i) (λ t. bare_found kind m i (mapping_end m) (eqb-true kind 4 t) refl tt refl z)
          (λ t4. by_test (eqb kind 6) _ _ (BodyFound s kind m i) (λ t. bare_found kind m i (alias m) (eqb-true kind 6 t) refl tt refl z) (λ t6. inl refl)))

-- ---- events

body_written : (s : List ℕ) → Bytes s → (i e : ℕ) (x : YamlEvent) → i + 4 ≤ length s → number_at s i 4 ≡ marker_index x
    → drop (i + 4) s ≡ encode_rest x ++ drop e s
    → drop i s ≡ encode_body x ++ drop e s
unfolding encode_body
body_written s bytes i e x h m rest = number_written s bytes i 4 h ∙ rw (m, rest, append_assoc)

event_written : (s : List ℕ) → Bytes s → (i e : ℕ) (x : YamlEvent) → i + 3 ≤ length s → get_or s i 0 ≡ tag_byte x
    → number_at s (i + 1) 2 ≡ length (encode_body x)
    → drop (i + 3) s ≡ encode_body x ++ drop e s
    → drop i s ≡ encode_event x ++ drop e s
unfolding encode_event
event_written s bytes i e x h kind size body =
    let on : i + 1 + 2 ≡ i + 3 = omega arith in
    byte_written s i (i + 1) (omega arith) refl ∙ rw (kind, number_written s bytes (i + 1) 2 (omega arith), size, on, body, append_assoc)

-- the bytes up to a place are bytes, and those from a place before it on go on with what follows it
front_bytes : (s : List ℕ) → Bytes s → (n : ℕ) → Bytes (take n s)
front_bytes s bytes n k = go (dec_lt k n)
  where
    go : Dec (k < n) → get_or (take n s) k 0 < 256
    go (yes l) = rw (get_or-take n s k 0 l) (bytes k)
    go (no l) = let size = length-take n s in let none : get_or (take n s) k 0 ≡ 0 = get_or-eq_default (take n s) 0 {n = k} (omega arith) in omega arith

front_on : (s : List ℕ) (k n : ℕ) → k ≤ n → n ≤ length s → drop k s ≡ drop k (take n s) ++ drop n s
front_on s k n h l =
    let size = length-take-le n s l in
    ap (drop k) (sym (take-append-drop n s)) ∙ drop-append-le k (take n s) (drop n s) (omega arith)

framed_found : (s : List ℕ) → Bytes s → (i : ℕ) (r : Result Event Malformed) → i + 3 + number_at s (i + 1) 2 ≤ length s → 4 ≤ number_at s (i + 1) 2
    → FoundBody (take (i + 3 + number_at s (i + 1) 2) s) (get_or s i 0) (number_at s (i + 3) 4) (i + 3 + 4) r
    → Answers s i (r >>= λ e. Ok (e, i + 3 + number_at s (i + 1) 2))
unfolding placed capacity
framed_found s bytes i r h k p =
    let x = p.event in
    let e = i + 3 + number_at s (i + 1) 2 in
    let upto = take (i + 3 + number_at s (i + 1) 2) s in
    let whole : length (take (i + 3 + number_at s (i + 1) 2) s) ≡ i + 3 + number_at s (i + 1) 2 = length-take-le (i + 3 + number_at s (i + 1) 2) s h in
    let ends = p.ends in
    let inner = body_length x in
    let outer = event_length x in
    let size : number_at s (i + 1) 2 ≡ length (encode_body x) = omega arith in
    let next : i + 3 + number_at s (i + 1) 2 ≡ i + length (encode_event x) = omega arith in
    let short = number_fits s bytes (i + 1) 2 in
    let rest : drop (i + 3 + 4) s ≡ encode_rest x ++ drop e s =
    front_on s (i + 3 + 4) e (omega arith) h ∙ rw (p.written, drop-length upto, append-nil (encode_rest x)) in
    let body = body_written s bytes (i + 3) e x (omega arith) p.index_is rest in
    record {
      event = x;
      stands = record {
        sound = record { index_fits = rw p.index_is at (number_fits s bytes (i + 3) 4); rest = p.sound; body_fits = omega arith };
        rest = drop e s;
        starts = event_written s bytes i e x (omega arith) p.kind_is size body;
      };
      answered = rw (p.is, next);
    }

pub event_found : (s : List ℕ) → Bytes s → (i : ℕ) → (read_event s i ≡ Err malformed) ⊎ Answers s i (read_event s i)
unfolding read_event
event_found s bytes i =
    by_test (leb (i + 3) (length s)) _ _ P
    (λ t. by_test (leb (i + 3 + number_at s (i + 1) 2) (length s)) _ _ P
    (λ u. by_test (leb 4 (number_at s (i + 1) 2)) _ _ P (λ v. body (leb-true _ _ u) (leb-true _ _ v)) (λ v. inl refl))
    (λ u. inl refl))
    (λ t. inl refl)
  where
    P : Result (Event × ℕ) Malformed → Type 0
    P r = (r ≡ Err malformed) ⊎ Answers s i r

    framed_by : Result Event Malformed → Result (Event × ℕ) Malformed
    framed_by r = r >>= λ e. Ok (e, i + 3 + number_at s (i + 1) 2)

    found : (r : Result Event Malformed) → i + 3 + number_at s (i + 1) 2 ≤ length s → 4 ≤ number_at s (i + 1) 2
        → BodyFound (take (i + 3 + number_at s (i + 1) 2) s) (get_or s i 0) (number_at s (i + 3) 4) (i + 3 + 4) r → P (framed_by r)
    found r h k (inl x) = inl (rw x)
    found r h k (inr p) = inr (framed_found s bytes i r h k p)

    body : i + 3 + number_at s (i + 1) 2 ≤ length s → 4 ≤ number_at s (i + 1) 2
        → P (framed_by (read_body (take (i + 3 + number_at s (i + 1) 2) s) (get_or s i 0) (number_at s (i + 3) 4) (i + 3 + 4)))
    body h k =
        let size = length-take-le (i + 3 + number_at s (i + 1) 2) s h in
        found _ h k (body_found (take (i + 3 + number_at s (i + 1) 2) s) (front_bytes s bytes _) (get_or s i 0) (number_at s (i + 3) 4) (i + 3 + 4) (omega arith))
