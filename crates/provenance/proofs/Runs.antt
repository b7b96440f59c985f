-- Runs, byte by byte, as the loops go through them.
use mathlib.Core.Path.{◌≡◌, refl, sym, ap, ◌∙◌}
use Rattle.std.specs.Prelude.{Some, None, unwrap_or}
use Rattle.std.specs.List.{list_all, prefix_len, position, position_or_len}
use mathlib.Core.Bool.{Bool, true, false, ◌&&◌, cond}
use mathlib.Core.List.{List, [], ◌∷◌}
use Prim.Native.Nat.{ℕ, zero, suc, ◌+◌, ◌≤◌, ◌<◌}
use native.Mathlib.Numerals.{add-one}
use native.Mathlib.Omega.{arith}
use lib.Dec.{eqb, ltb}
use lib.ListN.{length, drop, get_or, drop_of_length-le}
use lib.Seq.{drop-cons}
use borrow.Author.Tests.{ne_eqb}
use Rattle.utf8.specs.Class.{is_white_space_byte}
use Rattle.provenance.specs.declared.run.Run.{Run}
use Rattle.provenance.specs.Run.{white_run, newlines_in, through_last, blank_run, only_newlines}
use Rattle.measure.specs.Plain.{is_fold}
use Rattle.utf8.specs.Ascii.{newline}
use Rattle.provenance.specs.Tests.{by_answer}
use Rattle.provenance.specs.Counted.{run_with, counted_run}
use Rattle.provenance.specs.Start.{before_newline, header_end}

-- ---- the white-space run: n bytes, k newlines, the last of them before m, and the source l is left

abbrev last_with : ℕ → ℕ → ℕ → ℕ
last_with n m t = cond (eqb t 0) m (n + t)

unfoldable pub scan_so_far : ℕ → ℕ → ℕ → List ℕ → Run
scan_so_far n k m l = run_with (n + length (white_run l)) (k + newlines_in (white_run l)) (last_with n m (through_last (white_run l)))

same_numbers : (n n' k k' m m' : ℕ) → n ≡ n' → k ≡ k' → m ≡ m' → run_with n k m ≡ run_with n' k' m'
same_numbers n n' k k' m m' p q r = ap (λ (x : ℕ). run_with x k m) p ∙ ap (λ (x : ℕ). run_with n' x m) q ∙ ap (λ (x : ℕ). run_with n' k' x) r

last_none : (t : ℕ) → last_with 0 0 t ≡ t
last_none zero = refl
last_none (suc t) = rw (ne_eqb (suc t) 0 (λ z. omega arith)) (omega arith)

last_newline : (n m t : ℕ) → last_with n m (cond (eqb t 0) 1 (suc t)) ≡ last_with (n + 1) (n + 1) t
last_newline n m zero = refl
last_newline n m (suc t) = rw (ne_eqb (suc t) 0 (λ z. omega arith), ne_eqb (suc (suc t)) 0 (λ z. omega arith)) (omega arith)

last_other : (n m t : ℕ) → last_with n m (cond (eqb t 0) 0 (suc t)) ≡ last_with (n + 1) m t
last_other n m zero = refl
last_other n m (suc t) = rw (ne_eqb (suc t) 0 (λ z. omega arith), ne_eqb (suc (suc t)) 0 (λ z. omega arith)) (omega arith)

pub scan_begins : (l : List ℕ) → scan_so_far 0 0 0 l ≡ counted_run l
unfolding scan_so_far counted_run
scan_begins l = same_numbers _ _ _ _ _ _ (omega arith) (omega arith) (last_none (through_last (white_run l)))

pub scan_ends : (l : List ℕ) (i k m : ℕ) → length l ≤ i → scan_so_far i k m (drop i l) ≡ run_with i k m
unfolding scan_so_far white_run newlines_in through_last
scan_ends l i k m h = rw (drop_of_length-le l h) (same_numbers _ _ _ _ _ _ (omega arith) (omega arith) refl)

pub scan_stops : (l : List ℕ) (i k m : ℕ) → i < length l → is_white_space_byte (get_or l i 0) ≡ false → scan_so_far i k m (drop i l) ≡ run_with i k m
unfolding scan_so_far white_run newlines_in through_last
scan_stops l i k m h e = rw (drop-cons l i 0 h, e) (same_numbers _ _ _ _ _ _ (omega arith) (omega arith) refl)

newline_first : (bs : List ℕ) (n k m : ℕ) → scan_so_far n k m (newline ∷ bs) ≡ scan_so_far (n + 1) (k + 1) (n + 1) bs
unfolding scan_so_far white_run newlines_in through_last
newline_first bs n k m =
    same_numbers (n + suc (length (white_run bs))) (n + 1 + length (white_run bs)) (k + suc (newlines_in (white_run bs))) (k + 1 + newlines_in (white_run bs)) _ _
    (omega arith) (omega arith) (last_newline n m (through_last (white_run bs)))

other_first : (b : ℕ) (bs : List ℕ) (n k m : ℕ) → is_white_space_byte b ≡ true → (b ≡ newline → ⊥) → scan_so_far n k m (b ∷ bs) ≡ scan_so_far (n + 1) k m bs
unfolding scan_so_far white_run newlines_in through_last
other_first b bs n k m w e =
    rw (w, ne_eqb b newline e)
    (same_numbers (n + suc (length (white_run bs))) (n + 1 + length (white_run bs)) (k + newlines_in (white_run bs)) (k + newlines_in (white_run bs)) _ _
    (omega arith) refl (last_other n m (through_last (white_run bs))))

pub scan_newline : (l : List ℕ) (i k m : ℕ) → i < length l → get_or l i 0 ≡ newline → scan_so_far i k m (drop i l) ≡ scan_so_far (i + 1) (k + 1) (i + 1) (drop (i + 1) l)
scan_newline l i k m h e =
    ap (scan_so_far i k m) (drop-cons l i 0 h ∙ ap (λ (b : ℕ). b ∷ drop (suc i) l) e)
    ∙ newline_first (drop (suc i) l) i k m
    ∙ ap (λ (j : ℕ). scan_so_far (i + 1) (k + 1) (i + 1) (drop j l)) (sym (add-one i))

pub scan_other : (l : List ℕ) (i k m : ℕ) → i < length l → is_white_space_byte (get_or l i 0) ≡ true → (get_or l i 0 ≡ newline → ⊥)
    → scan_so_far i k m (drop i l) ≡ scan_so_far (i + 1) k m (drop (i + 1) l)
scan_other l i k m h w e =
    ap (scan_so_far i k m) (drop-cons l i 0 h)
    ∙ other_first (get_or l i 0) (drop (suc i) l) i k m w e
    ∙ ap (λ (j : ℕ). scan_so_far (i + 1) k m (drop j l)) (sym (add-one i))

-- ---- by std's words

pub blank_run_is : (l : List ℕ) → length (blank_run l) ≡ prefix_len is_fold l
unfolding blank_run
blank_run_is [] = refl
blank_run_is (b ∷ bs) = by_answer (is_fold b) (λ e. rw e (ap suc (blank_run_is bs) ∙ omega arith)) (λ e. rw e)

pub only_newlines_is : (l : List ℕ) → only_newlines l ≡ list_all (λ b. eqb b newline) l
unfolding only_newlines
only_newlines_is [] = refl
only_newlines_is (b ∷ bs) = ap (λ (t : Bool). eqb b newline && t) (only_newlines_is bs)

before_newline_is : (l : List ℕ) → before_newline l ≡ position_or_len (λ b. eqb b newline) l
unfolding before_newline
before_newline_is [] = refl
before_newline_is (b ∷ bs) = by_answer (eqb b newline) (λ e. rw e) (λ e. rw e (ap suc (before_newline_is bs) ∙ omega arith))

pub header_end_is : (l : List ℕ) (len : ℕ) → header_end l len ≡ unwrap_or (position (λ b. eqb b newline) l) len
unfolding header_end
header_end_is l len = rw (before_newline_is l) (either (ltb (position_or_len (λ b. eqb b newline) l) (length l)))
  where
    either : (t : Bool) → cond t (position_or_len (λ b. eqb b newline) l) len ≡ unwrap_or (cond t (Some (position_or_len (λ b. eqb b newline) l)) None) len
    either true = refl
    either false = refl
