-- The equations of the run, by what its step says, that the number it counts down does not matter where it is enough (nothing else looks at
-- that number), and what the parents change. From `leads_on` to `run_enough` it is assumed that the events are bytes.
use Rattle.std.specs.Prelude.{◌≡◌, List, length, Result, Ok, Err}
use Rattle.std.proofs.Math.Path.{refl}
use Rattle.std.proofs.Common.{sym, ap, ◌∙◌, lt-ltb, le-ltb}
use Prim.Native.Nat.{ℕ, zero, suc, ◌+◌, ◌-◌, ◌≤◌, ◌<◌}
use Rattle.std.proofs.Math.Decide.{dec_lt}
use native.Mathlib.Omega.{arith}
use Rattle.utf8.specs.Ascii.{Bytes}
use Rattle.event.specs.Read.{read_event}
use Rattle.event.specs.Proved.{EventWithin}
use Rattle.event.proofs.ReadLaws.{answer_within}
use Rattle.event.specs.declared.read.Event.{Event}
use Rattle.event.specs.declared.malformed.Malformed.{Malformed}
use Rattle.event.specs.Read as read
use Rattle.event.specs.declared.read.Event.TheVariants.{SequenceStart, SequenceEnd, MappingStart, MappingEnd, Scalar, Alias}
use Rattle.parser.specs.Machine.{State, Next, go, stop, Outcome, built, refused, on_read, next_place, ending, run}
use Rattle.parser.specs.Call.{with_parents}
use Rattle.provenance.specs.Reading.{Piece}
use Rattle.records.specs.Parent.{parented}
use Rattle.records.specs.declared.record.Node.{Node}

module _ (text events : List ℕ) (room piece_room : ℕ) where
  -- no event is left
  pub run_ended : (f i k : ℕ) (st : State) → length events ≤ i → run text events room piece_room f i k st ≡ ending k st
  unfolding run
  run_ended zero i k st h = refl
  run_ended (suc f) i k st h = rw (le-ltb i (length events) h) refl

  -- an event that leads on
  pub run_on : (f i k : ℕ) (st n : State) → 0 < f → i < length events → on_read text events room piece_room (read_event events i) st ≡ go n
      → run text events room piece_room f i k st ≡ run text events room piece_room (f - 1) (next_place (read_event events i)) (k + 1) n
  unfolding run
  run_on zero i k st n o h e = absurd (omega arith)
  run_on (suc f) i k st n o h e = let p : suc f - 1 ≡ f = omega arith in rw (lt-ltb i (length events) h, e, p) refl

  -- an event that is refused
  pub run_stopped : (f i k m : ℕ) (st : State) → 0 < f → i < length events → on_read text events room piece_room (read_event events i) st ≡ stop m
      → run text events room piece_room f i k st ≡ refused m k
  unfolding run
  run_stopped zero i k m st o h e = absurd (omega arith)
  run_stopped (suc f) i k m st o h e = rw (lt-ltb i (length events) h, e) refl

-- ---- every number that is enough gives the same run

pub onward : (s : List ℕ) (i : ℕ) (r : Result (Event × ℕ) Malformed) → EventWithin s i r → (r ≡ Err read.malformed → ⊥) → (i < next_place r) × (next_place r ≤ length s)
onward s i (Ok (SequenceStart m t, n)) w x = (w.0.onward, w.0.inside)
onward s i (Ok (SequenceEnd m, n)) w x = (w.onward, w.inside)
onward s i (Ok (MappingStart m t, n)) w x = (w.0.onward, w.0.inside)
onward s i (Ok (MappingEnd m, n)) w x = (w.onward, w.inside)
onward s i (Ok (Scalar m c y f t v, n)) w x = (w.passed.onward, w.passed.inside)
onward s i (Ok (Alias m, n)) w x = (w.onward, w.inside)
onward s i (Err e) w x = absurd (x refl)

pub stop_not_go : (n : ℕ) (st : State) → stop n ≡ go st → ⊥
stop_not_go n st e = let z : ◌≡◌ {A = ℕ} 0 1 = cc in omega arith

module _ (text events : List ℕ) (bytes : Bytes events) (room piece_room : ℕ) where
  -- an event that leads on takes at least a byte
  pub leads_on : (i : ℕ) (st n : State) → on_read text events room piece_room (read_event events i) st ≡ go n → i < next_place (read_event events i)
  leads_on i st n e =
      (onward events i (read_event events i) (answer_within events i bytes)
      (λ bad. stop_not_go 3 n (sym (ap (λ (x : Result (Event × ℕ) Malformed). on_read text events room piece_room x st) bad) ∙ e))).0

  -- from event number k on, wherever it stands, two numbers that are enough give the same
  abbrev pub Same : ℕ → ℕ → ℕ → Type 0
  Same f g k = (j : ℕ) (n : State) → length events ≤ j + f → length events ≤ j + g → run text events room piece_room f j k n ≡ run text events room piece_room g j k n

  pub run_enough : (f g i k : ℕ) (st : State) → length events ≤ i + f → length events ≤ i + g → run text events room piece_room f i k st ≡ run text events room piece_room g i k st
  run_enough zero g i k st a b = run_ended text events room piece_room zero i k st (omega arith) ∙ sym (run_ended text events room piece_room g i k st (omega arith))
  run_enough (suc f) zero i k st a b = run_ended text events room piece_room (suc f) i k st (omega arith) ∙ sym (run_ended text events room piece_room zero i k st (omega arith))
  run_enough (suc f) (suc g) i k st a b = by (dec_lt i (length events)) (λ j n c d. run_enough f g j (k + 1) n c d)
    where
      more : Same f g (k + 1) → i < length events → (n : Next) → on_read text events room piece_room (read_event events i) st ≡ n → run text events room piece_room (suc f) i k st ≡ run text events room piece_room (suc g) i k st
      more rest l (stop m) e = run_stopped text events room piece_room (suc f) i k m st (omega arith) l e ∙ sym (run_stopped text events room piece_room (suc g) i k m st (omega arith) l e)
      more rest l (go n) e =
          let on = leads_on i st n e in
          let pf : suc f - 1 ≡ f = omega arith in
          let pg : suc g - 1 ≡ g = omega arith in
          run_on text events room piece_room (suc f) i k st n (omega arith) l e
          ∙ rw (pf, pg) (rest (next_place (read_event events i)) n (omega arith) (omega arith))
          ∙ sym (run_on text events room piece_room (suc g) i k st n (omega arith) l e)

      by : Dec (i < length events) → Same f g (k + 1) → run text events room piece_room (suc f) i k st ≡ run text events room piece_room (suc g) i k st
      by (yes l) rest = more rest l (on_read text events room piece_room (read_event events i) st) refl
      by (no l) rest = run_ended text events room piece_room (suc f) i k st (omega arith) ∙ sym (run_ended text events room piece_room (suc g) i k st (omega arith))

-- ---- nodes with their parents

-- what is built was built before the parents were known, and what is refused was refused
pub parents_built : (o : Outcome) (xs : List Node) (ps : List Piece) → with_parents o ≡ built xs ps → (ys : List Node) × (o ≡ built ys ps) × (parented 0 ys ≡ xs)
parents_built (built ys qs) xs ps e = let a : qs ≡ ps = cc in let b : parented 0 ys ≡ xs = cc in (ys, ap (built ys) a, b)
parents_built (refused m k) xs ps e = absurd (let z : ◌≡◌ {A = ℕ} 0 1 = cc in omega arith)

pub parents_refused : (o : Outcome) (m k : ℕ) → with_parents o ≡ refused m k → o ≡ refused m k
parents_refused (built ys qs) m k e = absurd (let z : ◌≡◌ {A = ℕ} 0 1 = cc in omega arith)
parents_refused (refused j l) m k e = e
