-- The laws of event bytes as a list of events: no two lists have the same bytes, where the events of a list stand, and that of any bytes so many
-- sound events stand from the front as there are (`front_of`).
use mathlib.Core.Path.{◌≡◌, refl, sym, ap, ◌∙◌, subst}
use mathlib.Core.Logic.{◌⊎◌, inl, inr}
use mathlib.Core.List.{List, [], ◌∷◌, ◌++◌, append_assoc}
use Prim.Native.Nat.{ℕ, zero, suc, ◌+◌, ◌≤◌, ◌<◌}
use native.Mathlib.Decide.{dec_lt}
use native.Mathlib.Omega.{arith}
use lib.ListN.{length, drop, length-append, length-drop}
use lib.Seq.{drop-append_seam}
use Rattle.std.specs.Prelude.{Err}
use Rattle.utf8.specs.Ascii.{Bytes}
use Rattle.event.specs.Encode.{YamlEvent, encode_event, SoundEvent}
use Rattle.event.specs.Read.{malformed, read_event}
use Rattle.event.specs.Meaning.{StandsAt, Answers}
use Rattle.event.specs.EventList.{encode_events, AllSound, Front}
use Rattle.event.specs.Proved.{Unambiguous}
use Rattle.event.proofs.EncodeLaws.{stands_after, body_length, event_length}
use Rattle.event.proofs.ReadLaws.{malformed_or_answers, malformed_none_stands, encode_prefix_free, encode_injective}

-- an event takes a header and a marker index at least
pub event_takes : (e : YamlEvent) → 7 ≤ length (encode_event e)
event_takes e = let a = event_length e in let b = body_length e in omega arith

pub encode_events_append : (es fs : List YamlEvent) → encode_events (es ++ fs) ≡ encode_events es ++ encode_events fs
unfolding encode_events
encode_events_append [] fs = refl
encode_events_append (e ∷ es) fs = ap (λ (l : List ℕ). encode_event e ++ l) (encode_events_append es fs) ∙ sym (append_assoc (encode_event e) (encode_events es) (encode_events fs))

-- no two lists of sound events have the same bytes
pub encode_events_injective : (xs ys : List YamlEvent) → AllSound xs → AllSound ys → encode_events xs ≡ encode_events ys → xs ≡ ys
unfolding encode_events AllSound
encode_events_injective [] [] p q h = refl
encode_events_injective [] (y ∷ ys) p q h =
    absurd (let n = event_takes y in let m : 0 ≡ length (encode_event y) + length (encode_events ys) = ap length h ∙ length-append (encode_event y) (encode_events ys) in omega arith)
encode_events_injective (x ∷ xs) [] p q h =
    absurd (let n = event_takes x in let m : length (encode_event x) + length (encode_events xs) ≡ 0 = sym (length-append (encode_event x) (encode_events xs)) ∙ ap length h in omega arith)
encode_events_injective (x ∷ xs) (y ∷ ys) p q h =
    let first : x ≡ y = encode_prefix_free x y (encode_events xs) (encode_events ys) p.0 q.0 h in
    let same : encode_event x ++ encode_events xs ≡ encode_event x ++ encode_events ys = h ∙ rw first in
    let others : encode_events xs ≡ encode_events ys
    = sym (drop-append_seam (encode_event x) (encode_events xs)) ∙ ap (drop (length (encode_event x))) same ∙ drop-append_seam (encode_event x) (encode_events ys) in
    rw (first, encode_events_injective xs ys p.1 q.1 others)

pub unambiguous : Unambiguous
unambiguous = record { prefix_free = encode_prefix_free; one_event = encode_injective; one_list = encode_events_injective }

-- ---- where they stand

-- the sound events es stand in s one after the other, from the place i to the place n
unfoldable pub Stand : List ℕ → ℕ → List YamlEvent → ℕ → Type 0
Stand s i [] n = i ≡ n
Stand s i (e ∷ es) n = StandsAt s i e × Stand s (i + length (encode_event e)) es n

module _ (s : List ℕ) where
  pub all_stand : (i : ℕ) (es : List YamlEvent) (rest : List ℕ) → AllSound es → drop i s ≡ encode_events es ++ rest → Stand s i es (i + length (encode_events es))
  unfolding encode_events AllSound Stand
  all_stand i [] rest ok e = omega arith
  all_stand i (x ∷ es) rest ok e =
      let e' : drop i s ≡ encode_event x ++ (encode_events es ++ rest) = e ∙ append_assoc (encode_event x) (encode_events es) rest in
      let on : drop (i + length (encode_event x)) s ≡ encode_events es ++ rest = stands_after s i (encode_event x) (encode_events es ++ rest) e' (i + length (encode_event x)) refl in
      let l : i + length (encode_event x) + length (encode_events es) ≡ i + length (encode_event x ++ encode_events es) = rw (length-append) (omega arith) in (
        record { sound = ok.0; rest = encode_events es ++ rest; starts = e' },
        subst (λ (n : ℕ). Stand s (i + length (encode_event x)) es n) l (all_stand (i + length (encode_event x)) es rest ok.1 on),
      )

  -- ---- so many as there are

  abbrev Found : ℕ → Type 0
  Found i =
      (es : List YamlEvent) × (rest : List ℕ) × AllSound es × (drop i s ≡ encode_events es ++ rest)
      × ((rest ≡ []) ⊎ ((0 < length rest) × ((e : YamlEvent) → StandsAt s (i + length (encode_events es)) e → ⊥)))

  ended : (i : ℕ) → length s ≤ i → Found i
  unfolding encode_events AllSound
  ended i h = ([], [], tt, drop_past i h, inl refl)
    where
      drop_past : (i : ℕ) → length s ≤ i → drop i s ≡ []
      drop_past i h = none (drop i s) (let l = length-drop i s in omega arith)
        where
          none : (l : List ℕ) → length l ≡ 0 → l ≡ []
          none [] e = refl
          none (x ∷ xs) e = absurd (omega arith)

  stuck : (i : ℕ) → i < length s → read_event s i ≡ Err malformed → Found i
  unfolding encode_events AllSound
  stuck i h bad =
      let l = length-drop i s in
      let z : i + 0 ≡ i = omega arith in
      ([], drop i s, tt, refl, inr (omega arith, λ e p. malformed_none_stands s i bad e (subst (λ (n : ℕ). StandsAt s n e) z p)))

  more : (i : ℕ) (x : YamlEvent) → StandsAt s i x → Found (i + length (encode_event x)) → Found i
  unfolding encode_events AllSound
  more i x p (es, rest, ok, e, end) =
      let l : i + length (encode_event x ++ encode_events es) ≡ i + length (encode_event x) + length (encode_events es) = rw (length-append) (omega arith) in
      let same : p.rest ≡ encode_events es ++ rest = sym (stands_after s i (encode_event x) p.rest p.starts (i + length (encode_event x)) refl) ∙ e in (
        x ∷ es,
        rest,
        (p.sound, ok),
        p.starts ∙ ap (λ (u : List ℕ). encode_event x ++ u) same ∙ sym (append_assoc (encode_event x) (encode_events es) rest),
        rw l end,
      )

  module _ (bytes : Bytes s) where
    from : (f i : ℕ) → length s ≤ i + f → Found i
    from zero i h = ended i (omega arith)
    from (suc f) i h = by (dec_lt i (length s)) (malformed_or_answers s bytes i) (λ j g. from f j g)
      where
        by : Dec (i < length s) → (read_event s i ≡ Err malformed) ⊎ Answers s i (read_event s i) → ((j : ℕ) → length s ≤ j + f → Found j) → Found i
        by (no l) a rest = ended i (omega arith)
        by (yes l) (inl bad) rest = stuck i l bad
        by (yes l) (inr a) rest = let t = event_takes a.event in more i a.event a.stands (rest (i + length (encode_event a.event)) (omega arith))

    pub front_of : Front s
    front_of = told (from (length s) 0 (omega arith))
      where
        told : Found 0 → Front s
        told (es, rest, ok, e, end) = let z : 0 + length (encode_events es) ≡ length (encode_events es) = omega arith in record { events = es; sound = ok; rest = rest; bytes = e; ends = rw z at end }

-- ---- one of a list

pub sound_split : (before : List YamlEvent) (e : YamlEvent) (after : List YamlEvent) → AllSound (before ++ (e ∷ after)) → AllSound before × SoundEvent e × AllSound after
unfolding AllSound
sound_split [] e after ok = (tt, ok.0, ok.1)
sound_split (x ∷ before) e after ok = let i = sound_split before e after ok.1 in ((ok.0, i.0), i.1, i.2)

-- it stands after the encodings of those before it
pub one_stands : (s : List ℕ) (before : List YamlEvent) (e : YamlEvent) (after : List YamlEvent) (rest : List ℕ) → AllSound (before ++ (e ∷ after))
    → s ≡ encode_events (before ++ (e ∷ after)) ++ rest → StandsAt s (length (encode_events before)) e
unfolding encode_events
one_stands s before e after rest ok is =
    let split : s ≡ encode_events before ++ (encode_event e ++ (encode_events after ++ rest)) =
    is ∙ ap (λ (l : List ℕ). l ++ rest) (encode_events_append before (e ∷ after)) ∙ simp append_assoc in
    record {
      sound = (sound_split before e after ok).1;
      rest = encode_events after ++ rest;
      starts = ap (λ (l : List ℕ). drop (length (encode_events before)) l) split ∙ drop-append_seam (encode_events before) (encode_event e ++ (encode_events after ++ rest));
    }
