-- The laws of runs: a run is bytes that stand there, and no more of them than there are.
use Rattle.std.specs.Prelude.{◌≡◌, refl, Bool, ◌&&◌, cond, List, [], ◌∷◌, ℕ, zero, suc, ◌+◌, ◌≤◌, ◌<◌, min, ltb, eqb, length, take, drop}
use Rattle.std.proofs.Common.{sym, ap, ◌∙◌, arith, length-take, take_all, take-take, length-take-le, eqb-true, lt-ltb, le-ltb, ne_eqb}
use Rattle.utf8.specs.Class.{is_white_space_byte}
use Rattle.provenance.specs.Run.{white_run, newlines_in, through_last, cut, blank_run}
use Rattle.measure.specs.Plain.{is_fold}
use Rattle.utf8.specs.Ascii.{newline}
use Rattle.provenance.specs.Counted.{run_numbers, cut_len}
use Rattle.provenance.specs.Start.{before_newline, header_end}
use Rattle.utf8.specs.Tests.{by_order}
use Rattle.provenance.specs.Tests.{by_test, by_answer}

-- ---- bounds

pub run_within : (l : List ℕ) → length (white_run l) ≤ length l
unfolding white_run
run_within [] = omega arith
run_within (b ∷ bs) = by_test (λ (t : Bool). length (cond t (b ∷ white_run bs) []) ≤ suc (length bs)) (is_white_space_byte b) (let i = run_within bs in omega arith) (omega arith)

pub blanks_within : (l : List ℕ) → length (blank_run l) ≤ length l
unfolding blank_run
blanks_within [] = omega arith
blanks_within (b ∷ bs) = by_test (λ (t : Bool). length (cond t (b ∷ blank_run bs) []) ≤ suc (length bs)) (is_fold b) (let i = blanks_within bs in omega arith) (omega arith)

pub last_within : (l : List ℕ) → through_last l ≤ length l
unfolding through_last
last_within [] = omega arith
last_within (b ∷ bs) =
    by_test (λ (t : Bool). cond t (cond (eqb b newline) 1 0) (suc (through_last bs)) ≤ suc (length bs)) (eqb (through_last bs) 0)
    (by_test (λ (t : Bool). cond t 1 0 ≤ suc (length bs)) (eqb b newline) (omega arith) (omega arith))
    (let i = last_within bs in omega arith)

-- a run with newlines has a last one
pub last_some : (l : List ℕ) → 0 < newlines_in l → 0 < through_last l
unfolding through_last newlines_in
last_some [] h = absurd (omega arith)
last_some (b ∷ bs) h =
    by_answer (eqb b newline)
    (λ e. rw e (by_test (λ (t : Bool). 0 < cond t 1 (suc (through_last bs))) (eqb (through_last bs) 0) (omega arith) (omega arith)))
    (λ e. let i = last_some bs (rw e at h) in rw (e, ne_eqb (through_last bs) 0 (λ z. absurd (omega arith))) (omega arith))

pub cut_within : (block : Bool) (column : ℕ) (l : List ℕ) → length (cut block column l) ≤ length l
unfolding cut
cut_within block column l =
    by_test (λ (t : Bool). length (cond t (take (through_last l + column) l) l) ≤ length l) (block && ltb 0 column)
    (let e = length-take (through_last l + column) l in omega arith)
    (omega arith)

pub cut_some : (block : Bool) (column : ℕ) (l : List ℕ) → 0 < newlines_in l → 0 < length (cut block column l)
unfolding cut
cut_some block column l h =
    let p = last_some l h in
    let q = last_within l in
    by_test (λ (t : Bool). 0 < length (cond t (take (through_last l + column) l) l)) (block && ltb 0 column)
    (let e = length-take (through_last l + column) l in omega arith)
    (omega arith)

-- the column never cuts off a newline: to count before the cut or after it comes to the same
front_keeps : (l : List ℕ) (n : ℕ) → through_last l ≤ n → newlines_in (take n l) ≡ newlines_in l
unfolding through_last newlines_in
front_keeps [] zero h = refl
front_keeps [] (suc n) h = refl
front_keeps (b ∷ bs) zero h =
    by_answer (eqb (through_last bs) 0)
    (λ z.
    let h' = rw z at h in
    by_answer (eqb b newline)
    (λ e. let h'' = rw e at h' in absurd (omega arith))
    (λ e. rw e (front_keeps bs zero (let q : through_last bs ≡ 0 = eqb-true _ _ z in omega arith))))
    (λ z. let h' = rw z at h in absurd (omega arith))
front_keeps (b ∷ bs) (suc n) h =
    let le : through_last bs ≤ n =
    by_answer (eqb (through_last bs) 0)
    (λ z. let q : through_last bs ≡ 0 = eqb-true _ _ z in omega arith)
    (λ z. let h' = rw z at h in omega arith) in
    rw (front_keeps bs n le)

pub cut_keeps_newlines : (block : Bool) (column : ℕ) (l : List ℕ) → newlines_in (cut block column l) ≡ newlines_in l
unfolding cut
cut_keeps_newlines block column l =
    by_test (λ (t : Bool). newlines_in (cond t (take (through_last l + column) l) l) ≡ newlines_in l) (block && ltb 0 column)
    (front_keeps l (through_last l + column) (omega arith))
    refl

-- the numbers of a cut run
pub cut_numbers : (block : Bool) (column : ℕ) (l : List ℕ) → cut_len block column (run_numbers l) ≡ length (cut block column l)
unfolding cut cut_len
cut_numbers block column l =
    by_test (λ (t : Bool). cond t (min (through_last l + column) (length l)) (length l) ≡ length (cond t (take (through_last l + column) l) l)) (block && ltb 0 column)
    (sym (length-take (through_last l + column) l))
    refl

-- ---- runs are the bytes that stand there

pub run_is : (l : List ℕ) → white_run l ≡ take (length (white_run l)) l
unfolding white_run
run_is [] = refl
run_is (b ∷ bs) =
    by_test (λ (t : Bool). cond t (b ∷ white_run bs) [] ≡ take (length (cond t (b ∷ white_run bs) [])) (b ∷ bs)) (is_white_space_byte b)
    (ap (λ (x : List ℕ). b ∷ x) (run_is bs))
    refl

pub blanks_are : (l : List ℕ) → blank_run l ≡ take (length (blank_run l)) l
unfolding blank_run
blanks_are [] = refl
blanks_are (b ∷ bs) =
    by_test (λ (t : Bool). cond t (b ∷ blank_run bs) [] ≡ take (length (cond t (b ∷ blank_run bs) [])) (b ∷ bs)) (is_fold b)
    (ap (λ (x : List ℕ). b ∷ x) (blanks_are bs))
    refl

-- a front of a front
pub front_of : (n : ℕ) (x l : List ℕ) → x ≡ take (length x) l → take n x ≡ take (length (take n x)) l
front_of n x l e =
    by_order n (length x)
    (λ lt.
    let q : length (take n x) ≡ n = length-take-le n x (omega arith) in
    rw q (ap (λ (y : List ℕ). take n y) e ∙ take-take n (length x) l (omega arith)))
    (λ le. rw (take_all n x le) e)

pub cut_is : (block : Bool) (column : ℕ) (l : List ℕ) → cut block column (white_run l) ≡ take (length (cut block column (white_run l))) l
unfolding cut
cut_is block column l =
    by_test (λ (t : Bool). cond t (take (through_last (white_run l) + column) (white_run l)) (white_run l) ≡ take (length (cond t (take (through_last (white_run l) + column) (white_run l)) (white_run l))) l)
    (block && ltb 0 column)
    (front_of (through_last (white_run l) + column) (white_run l) l (run_is l))
    (run_is l)

-- ---- a run without a newline has none from any of its bytes on

pub clear_inside : (l : List ℕ) (j : ℕ) → newlines_in (white_run l) ≡ 0 → j < length (white_run l) → newlines_in (white_run (drop j l)) ≡ 0
unfolding white_run newlines_in
clear_inside l zero z h = z
clear_inside [] (suc j) z h = absurd (omega arith)
clear_inside (b ∷ bs) (suc j) z h =
    by_answer (is_white_space_byte b)
    (λ w.
    let z' = rw w at z in
    let h' = rw w at h in
    by_answer (eqb b newline)
    (λ e. let z'' = rw e at z' in absurd (omega arith))
    (λ e. clear_inside bs j (rw e at z') (omega arith)))
    (λ w. let h' = rw w at h in absurd (omega arith))

-- ---- the header line

-- where it is found it lies within the bytes, and otherwise it is the span's end
pub header_within : (l : List ℕ) (len : ℕ) → len ≤ length l → header_end l len ≤ length l
unfolding header_end
header_within l len h = by_order (before_newline l) (length l) (λ lt. rw (lt-ltb _ _ lt) (omega arith)) (λ le. rw (le-ltb _ _ le) h)
