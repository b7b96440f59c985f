-- The head of the loop over events: the run from the state held, at this place and number, is the whole run.
use mathlib.Core.Path.{◌≡◌, refl, sym, ap, ◌∙◌}
use mathlib.Core.Bool.{true, false}
use mathlib.Core.Logic.{◌⊎◌, inl, inr}
use mathlib.Core.List.{List, []}
use Prim.Native.Nat.{ℕ, ◌+◌, ◌-◌, ◌/◌, ◌≤◌, ◌<◌, zero-le}
use native.Mathlib.Omega.{arith}
use Rattle.std.specs.Prelude.{Result, Ok, Err}
use lib.ListN.{length, replicate}
use Rattle.text.proofs.OffsetLaws.{stands_start}
use Rattle.utf8.specs.Ascii.{Bytes}
use Rattle.event.specs.Encode.{YamlEvent, sequence_start, sequence_end, mapping_start, mapping_end, scalar, alias, SoundEvent}
use Rattle.event.proofs.EncodeLaws.{body_length, rest_length}
use Rattle.event.specs.Meaning.{Answers, placed}
use Rattle.event.specs.Read.{events_limit, read_event}
use Rattle.event.proofs.ReadLaws.{malformed_or_answers, answer_within}
use Rattle.event.specs.declared.read.Event.{Event}
use Rattle.event.specs.Read as read
use Rattle.parser.specs.Machine.{State, empty, Next, go, stop, refused, on_read, next_place, ending, run, run_all}
use Rattle.parser.proofs.RunLaws.{run_ended, run_on, run_stopped, onward, stop_not_go}
use Rattle.parser.specs.Held.{is_root_done, ValueShort, Read, Held, Nested, Ready, Moved, Follows, Filled}
use Rattle.parser.specs.declared.answer.Refusal.{Refusal}
use Rattle.parser.specs.declared.answer.Refusal.TheVariants as row
use Rattle.parser.specs.declared.on_event.Builder.{Builder}
use Rattle.parser.specs.Call.{row_number, with_parents}
use Rattle.records.specs.Layout.{pieces_limit, record_room}
use Rattle.provenance.specs.Layout.{piece_width}
use Rattle.records.specs.LayoutLaws.{nodes_none}
use Rattle.records.specs.Parent.{parented}
use Rattle.records.proofs.ParentLaws.{parented-length}
use Rattle.parser.proofs.Pieces.{filled_none}
use Rattle.parser.proofs.Turns.{root_is, builder}

-- ---- what was read

placed_short : (i : ℕ) (e : YamlEvent) → SoundEvent e → ValueShort (placed i e).0
unfolding placed
placed_short i (sequence_start m t) s = tt
placed_short i (sequence_end m) s = tt
placed_short i (mapping_start m t) s = tt
placed_short i (mapping_end m) s = tt
placed_short i (scalar m c y f t v) s =
    let b = s.body_fits in
    let n = body_length (scalar m c y f t v) in
    let k = rest_length m c y f t v in
    omega arith
placed_short i (alias m) s = tt

value_short : (s : List ℕ) → Bytes s → (i : ℕ) (e : Event) (n : ℕ) → read_event s i ≡ Ok (e, n) → ValueShort e
value_short s b i e n is = by (malformed_or_answers s b i)
  where
    by : (read_event s i ≡ Err read.malformed) ⊎ Answers s i (read_event s i) → ValueShort e
    by (inl bad) = cc
    by (inr x) = let same : e ≡ (placed i x.event).0 = let p = sym is ∙ x.answered in cc in rw same (placed_short i x.event x.stands.sound)

pub read_of : (s : List ℕ) → Bytes s → length s ≤ events_limit → (i : ℕ) (e : Event) (n : ℕ) → read_event s i ≡ Ok (e, n) → Read s e
read_of s b h i e n is = record { place = i; next = n; within = rw is at (answer_within s i b); value_short = value_short s b i e n is; short = h }

-- ---- the head

pub record Head (text events : List ℕ) (size pieces_size : ℕ) (c : Builder) (b p : List ℕ) (i k : ℕ) : Type 0 where
  pub st : State
  pub held : Held text size pieces_size st c b p
  pub nested : Nested st
  pub same : run text events (record_room size) (pieces_size / piece_width) (length events - k) i k st ≡ run_all text events (record_room size) (pieces_size / piece_width)
  pub numbered : k ≤ i
  pub within : i ≤ length events
  pub few : c.nodes ≤ k

pub first_head : (text events b p : List ℕ) (c : Builder) → c ≡ builder 0 0 (record { chars = 0; offset = 0 }) [] → b ≡ replicate (length b) 0 → p ≡ replicate (length p) 0 → length p ≤ pieces_limit
    → Head text events (length b) (length p) c b p 0 0
unfolding run_all parented
first_head text events b p c new zb zp l =
    rw new
    (record {
      st = empty;
      held = record {
        records_held = record { size_is = refl; nodes_are = refl; records_hold = zb ∙ sym (nodes_none (length b)); records_fit = zero-le };
        pieces_held = record { pieces_size_is = refl; pieces_are = refl; pieces_hold = zp ∙ sym (filled_none (length p)); pieces_fit = zero-le; pieces_few = l };
        opens_held = record { opens_are = refl; below = tt; on_boundaries = tt };
        cursor_stands = stands_start text;
      };
      nested = tt;
      same = let e : length events - 0 ≡ length events = omega arith in rw e;
      numbered = zero-le;
      within = zero-le;
      few = zero-le;
    })

moved_go : (text : List ℕ) (size pieces_size k : ℕ) (n : Next) (x : ℕ) (d : Builder) (b p : List ℕ) → Moved text size pieces_size k n (Ok x) d b p
    → (st : State) × (n ≡ go st) × Held text size pieces_size st d b p × Nested st × (d.nodes ≤ k + 1)
moved_go text size pieces_size k (go st) x d b p h = (st, refl, h.0, h.1, h.2)
moved_go text size pieces_size k (stop n) x d b p h = absurd h

moved_stop : (text : List ℕ) (size pieces_size k : ℕ) (n : Next) (e : Refusal) (d : Builder) (b p : List ℕ) → Moved {A = ℕ} text size pieces_size k n (Err e) d b p → n ≡ stop (row_number e)
moved_stop text size pieces_size k (go st) e d b p h = absurd h
moved_stop text size pieces_size k (stop n) e d b p h = ap stop h

module _ {text events : List ℕ} {size pieces_size : ℕ} {c : Builder} {b p : List ℕ} {i k : ℕ} (h : Head text events size pieces_size c b p i k) where
  pub ready : length events ≤ events_limit → i < length events → Ready text c b p
  ready l m = let f = h.few in let n = h.numbered in record { size = size; pieces_size = pieces_size; st = h.st; held = h.held; nested = h.nested; few = omega arith }

  module _ (bytes : Bytes events) (more : i < length events) (r : Result ℕ Refusal) (c' : Builder) (b' p' : List ℕ)
      (follows : Follows text c b p (λ (room piece_room : ℕ) (st : State). on_read text events room piece_room (read_event events i) st) r c' b' p') where
    stepped : Moved text size pieces_size c.nodes (on_read text events (record_room size) (pieces_size / piece_width) (read_event events i) h.st) r c' b' p'
    stepped = follows size pieces_size h.st h.held h.nested

    pub record NextHead (j : ℕ) : Type 0 where
      pub head : Head text events size pieces_size c' b' p' j (k + 1)
      pub onward : i < j

    pub next_head : (x j : ℕ) → r ≡ Ok x → j ≡ next_place (read_event events i) → NextHead j
    next_head x j er place =
        let g = moved_go text size pieces_size c.nodes _ x c' b' p' (rw er at stepped) in
        let sound = onward events i (read_event events i) (answer_within events i bytes) (λ bad. stop_not_go 3 g.0 (sym (ap (λ x. on_read text events (record_room size) (pieces_size / piece_width) x h.st) bad) ∙ g.1)) in
        let on : i < next_place (read_event events i) = sound.0 in
        let inside : next_place (read_event events i) ≤ length events = sound.1 in
        let numbered = h.numbered in
        let few = h.few in
        let more-nodes = g.4 in
        let less : length events - k - 1 ≡ length events - (k + 1) = omega arith in
        rw place
        (record {
          head = record {
            st = g.0;
            held = g.2;
            nested = g.3;
            same =
                sym (ap (λ (f : ℕ). run text events (record_room size) (pieces_size / piece_width) f (next_place (read_event events i)) (k + 1) g.0) less)
                ∙ sym (run_on text events (record_room size) (pieces_size / piece_width) (length events - k) i k h.st g.0 (omega arith) more g.1)
                ∙ h.same;
            numbered = omega arith;
            within = inside;
            few = omega arith;
          };
          onward = on;
        })

    pub refused_here : (e : Refusal) → r ≡ Err e → Filled size pieces_size (with_parents (run_all text events (record_room size) (pieces_size / piece_width))) (Err (record { refusal = e; place = k })) b' p'
    refused_here e er =
        let g = moved_stop text size pieces_size c.nodes _ e c' b' p' (rw er at stepped) in
        let numbered = h.numbered in
        let all : run_all text events (record_room size) (pieces_size / piece_width) ≡ refused (row_number e) k =
        sym h.same ∙ run_stopped text events (record_room size) (pieces_size / piece_width) (length events - k) i k (row_number e) h.st (omega arith) more g in
        rw all refl

  module _ (over : length events ≤ i) where
    ended : run_all text events (record_room size) (pieces_size / piece_width) ≡ ending k h.st
    ended = sym h.same ∙ run_ended text events (record_room size) (pieces_size / piece_width) (length events - k) i k h.st over

    pub built_now : is_root_done c ≡ true → Filled size pieces_size (with_parents (run_all text events (record_room size) (pieces_size / piece_width))) (Ok (record { nodes = c.nodes; pieces = c.used })) b p
    unfolding ending
    built_now e =
        rw (ended, root_is h.held, e) (rw (parented-length h.st.nodes 0, h.held.nodes_are, h.held.pieces_are) refl, h.held.records_hold, h.held.pieces_hold)

    pub not_built : is_root_done c ≡ false → Filled size pieces_size (with_parents (run_all text events (record_room size) (pieces_size / piece_width))) (Err (record { refusal = row.Unfinished; place = k })) b p
    unfolding ending
    not_built e = rw (ended, root_is h.held, e) refl
