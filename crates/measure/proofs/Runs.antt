-- A white-space run, character by character: what was counted so far, and the run of what is left.
use mathlib.Core.Path.{◌≡◌, sym, ◌∙◌, ap}
use mathlib.Core.Bool.{Bool, true, false, ◌||◌, or-false, or_assoc}
use mathlib.Core.List.{List, [], ◌∷◌}
use Prim.Native.Nat.{ℕ, ◌+◌, ◌≤◌}
use native.Mathlib.Nat.{zero-add, add-zero, add_assoc}
use lib.Dec.{eqb}
use lib.ListN.{length, drop}
use Rattle.utf8.specs.Utf8.{Utf8, encode, encode_all}
use Rattle.utf8.specs.Characters.{codes}
use Rattle.utf8.specs.Boundary.{Boundary}
use Rattle.utf8.specs.WhiteSpace.{is_white_space}
use Rattle.utf8.proofs.Utf8Laws.{CharAt, boundary_start}
use Rattle.utf8.specs.declared.utf8.Char.{Char}
use Rattle.measure.specs.Run.{bytes_of, white_space_run, holds_newline}
use Rattle.measure.specs.Counted.{run_of}
use Rattle.utf8.specs.Ascii.{newline}
use Rattle.measure.proofs.Places.{bytes_cons}
use Rattle.measure.specs.declared.run.Run.{Run}
use Rattle.measure.proofs.Read.{codes_end}

abbrev pub run_by : ℕ → Bool → Run
run_by n t = record { len = n; newline = t }

-- n bytes of a run were counted, t says whether a newline was among them, and the characters cs are left
unfoldable pub run_so_far : ℕ → Bool → List ℕ → Run
run_so_far n t cs = run_by (n + bytes_of (white_space_run cs)) (t || holds_newline (white_space_run cs))

ends : (n : ℕ) (t : Bool) → run_so_far n t [] ≡ run_by n t
unfolding run_so_far white_space_run holds_newline encode_all
ends n t = rw (or-false, add-zero)

stops : (n : ℕ) (t : Bool) (c : ℕ) (cs : List ℕ) → is_white_space c ≡ false → run_so_far n t (c ∷ cs) ≡ run_by n t
unfolding run_so_far white_space_run holds_newline encode_all
stops n t c cs e = rw (e, or-false, add-zero)

goes_on : (n m : ℕ) (t : Bool) (c : ℕ) (cs : List ℕ) → m ≡ length (encode c) → is_white_space c ≡ true → run_so_far n t (c ∷ cs) ≡ run_so_far (n + m) (t || eqb c newline) cs
unfolding run_so_far white_space_run holds_newline
goes_on n m t c cs z e = rw (e, z, bytes_cons c (white_space_run cs), ← add_assoc, or_assoc)

-- so far n bytes of the run that s begins with were counted, and t says whether a newline was among them
pub record CountingRun (s : List ℕ) (n : ℕ) (t : Bool) : Type 0 where
  pub boundary : Boundary s n
  pub same : run_so_far n t (codes (drop n s)) ≡ run_of (codes s)

pub run_begins : {s : List ℕ} → Utf8 s → CountingRun s 0 false
unfolding run_so_far run_of
run_begins u = record { boundary = boundary_start u; same = rw zero-add }

-- at the text's end, and at a character that is no white space, that was all of it
pub run_at_end : {s : List ℕ} {n : ℕ} {t : Bool} → CountingRun s n t → length s ≤ n → run_by n t ≡ run_of (codes s)
run_at_end {s} {n} {t} r h = sym (ap (run_so_far n t) (codes_end s n h) ∙ ends n t) ∙ r.same

module _ {s : List ℕ} {n : ℕ} {t : Bool} {k : Char} (r : CountingRun s n t) (a : CharAt s n k) where
  pub counting_stops : is_white_space k.code ≡ false → run_by n t ≡ run_of (codes s)
  counting_stops e = sym (ap (run_so_far n t) a.forward ∙ stops n t k.code (codes (drop (n + k.len) s)) e) ∙ r.same

  pub counting_goes_on : is_white_space k.code ≡ true → CountingRun s (n + k.len) (t || eqb k.code newline)
  counting_goes_on e =
      record {
        boundary = a.next;
        same = sym (ap (run_so_far n t) a.forward ∙ goes_on n k.len t k.code (codes (drop (n + k.len) s)) a.size e) ∙ r.same;
      }
