-- A block, line by line: how far it reaches from a line's start, told from the start of the next.
use mathlib.Core.Path.{◌≡◌, refl, sym, ◌∙◌, ap}
use mathlib.Core.Bool.{Bool, true, false, cond}
use mathlib.Core.List.{List, [], ◌∷◌, ◌++◌}
use Prim.Native.Nat.{ℕ, zero, suc, ◌+◌, ◌≤◌, ◌<◌}
use native.Mathlib.Nat.{zero-add, add_assoc}
use native.Mathlib.Omega.{arith}
use borrow.Author.Tests.{lt-ltb, le-ltb, eqb-true}
use lib.Dec.{eqb}
use lib.ListN.{length, drop}
use Rattle.utf8.specs.Utf8.{Utf8, encode, encode_all}
use Rattle.utf8.specs.Characters.{codes}
use Rattle.utf8.specs.Boundary.{Boundary}
use Rattle.utf8.proofs.Utf8Laws.{boundary_start}
use Rattle.measure.specs.Run.{bytes_of, white_space_run}
use Rattle.utf8.specs.Ascii.{newline}
use Rattle.measure.specs.Block.{lines, is_blank, trimmed_len, ends_block, past_line, later_reach, block_reach, block_len}
use Rattle.measure.specs.Counted.{first_of, line_of}
use Rattle.measure.proofs.Places.{Onward, onward, bytes_left, bytes_cons, bytes_append}
use Rattle.measure.specs.declared.block.Line.{Line}
use Rattle.measure.proofs.Read.{codes_end}
use Rattle.measure.proofs.Reached.{reached, reached_more}
use Rattle.measure.proofs.Line.{blank_trimmed, content_trimmed}

-- ---- the first line and those after it

data Cut (cs : List ℕ) : Type 0 where
  -- a newline follows the line l, and then more
  followed : (l more : List ℕ) → cs ≡ (l ++ (newline ∷ [])) ++ more → lines cs ≡ l ∷ lines more → Cut cs
  -- the line l is all there is
  alone : (l : List ℕ) → cs ≡ l → lines cs ≡ l ∷ [] → Cut cs

cut : (cs : List ℕ) → Cut cs
unfolding lines
cut [] = alone [] refl refl
cut (c ∷ cs) = go (eqb c newline) refl (cut cs)
  where
    go : (t : Bool) → eqb c newline ≡ t → Cut cs → Cut (c ∷ cs)
    go true e r = followed [] cs (ap (λ (x : ℕ). x ∷ cs) (eqb-true c newline e)) (rw e)
    go false e (followed l more p q) = followed (c ∷ l) more (ap (λ (x : List ℕ). c ∷ x) p) (rw (e, q))
    go false e (alone l p q) = alone (c ∷ l) (ap (λ (x : List ℕ). c ∷ x) p) (rw (e, q))

-- after the line l, which begins at the byte `at` of s
record Next (s : List ℕ) (at : ℕ) (l : List ℕ) : Type 0 where
  later : List (List ℕ)
  are : lines (codes (drop at s)) ≡ l ∷ later
  within : at + bytes_of l ≤ length s
  place : at + (bytes_of l + 1) < length s → Boundary s (at + (bytes_of l + 1))
  same : (column : ℕ) → later_reach column later ≡ later_reach column (lines (codes (drop (at + (bytes_of l + 1)) s)))

next_line : {s : List ℕ} {at : ℕ} → Utf8 s → Boundary s at → Next s at (first_of (lines (codes (drop at s))))
unfolding encode_all encode lines later_reach ends_block is_blank trimmed_len
next_line {s} {at} u b = go (cut (codes (drop at s)))
  where
    go : Cut (codes (drop at s)) → Next s at (first_of (lines (codes (drop at s))))
    go (followed l more p q) =
        let n : bytes_of (l ++ (newline ∷ [])) ≡ bytes_of l + 1 = bytes_append l (newline ∷ []) in
        let o : Onward s at (l ++ (newline ∷ [])) more = onward u b (l ++ (newline ∷ [])) more p in
        let d : Boundary s (at + (bytes_of l + 1)) = rw n at o.boundary in
        let w = d.within in
        rw q (record {
          later = lines more;
          are = q;
          within = omega arith;
          place = λ h. d;
          same = λ column. ap (λ (x : List ℕ). later_reach column (lines x)) (sym (rw n at o.follow));
        })
    go (alone l p q) =
        let n : length s ≡ at + bytes_of l = bytes_left u b ∙ ap (λ (x : List ℕ). at + bytes_of x) p in
        rw q (record {
          later = [];
          are = q;
          within = omega arith;
          place = λ h. absurd (omega arith);
          same = λ column. ap (λ (x : List ℕ). later_reach column (lines x)) (sym (codes_end s (at + (bytes_of l + 1)) (omega arith)));
        })

-- ---- how far the block reaches, over one line

module _ (at end : ℕ) (l : List ℕ) where
  -- with n bytes from the next line on
  past_content : (n : ℕ) → 0 < trimmed_len l → reached at end (past_line l n) ≡ reached (at + (bytes_of l + 1)) (at + trimmed_len l) n
  past_content zero h = reached_more at end (trimmed_len l) h
  past_content (suc n) h = reached_more at end (bytes_of l + 1 + suc n) (omega arith) ∙ sym (add_assoc at (bytes_of l + 1) (suc n))

  past_blank : (n : ℕ) → trimmed_len l ≡ 0 → reached at end (past_line l n) ≡ reached (at + (bytes_of l + 1)) end n
  past_blank zero h = rw h
  past_blank (suc n) h = reached_more at end (bytes_of l + 1 + suc n) (omega arith) ∙ sym (add_assoc at (bytes_of l + 1) (suc n))

past_first : (l : List ℕ) (n : ℕ) → past_line l n ≡ reached (bytes_of l + 1) (trimmed_len l) n
past_first l zero = refl
past_first l (suc n) = refl

trimmed_not_blank : (l : List ℕ) → 0 < trimmed_len l → is_blank l ≡ false
trimmed_not_blank l h = go (is_blank l) refl
  where
    go : (t : Bool) → is_blank l ≡ t → t ≡ false
    go true e = absurd (let z = blank_trimmed l e in omega arith)
    go false e = refl

not_trimmed_blank : (l : List ℕ) → trimmed_len l ≡ 0 → is_blank l ≡ true
not_trimmed_blank l h = go (is_blank l) refl
  where
    go : (t : Bool) → is_blank l ≡ t → t ≡ true
    go true e = refl
    go false e = absurd (let z = content_trimmed l e in omega arith)

pub trimmed_within : (l : List ℕ) → trimmed_len l ≤ bytes_of l
unfolding trimmed_len
trimmed_within [] = omega arith
trimmed_within (c ∷ l) = go (is_blank (c ∷ l)) (trimmed_within l)
  where
    go : (t : Bool) → trimmed_len l ≤ bytes_of l → cond t 0 (length (encode c) + trimmed_len l) ≤ bytes_of (c ∷ l)
    go true h = omega arith
    go false h = let e = bytes_cons c l in omega arith

-- ---- the loop over the lines

-- the lines before `at` were measured, up to `end`
pub record Measuring (s : List ℕ) (column at end : ℕ) : Type 0 where
  pub place : at < length s → Boundary s at
  pub same : reached at end (later_reach column (lines (codes (drop at s)))) ≡ block_len s column

-- the first line is not held against the column
pub block_begins : {s : List ℕ} (column : ℕ) {m : Line} → Utf8 s → m ≡ line_of (codes s) → Measuring s column (m.len + 1) m.trimmed
unfolding line_of block_len block_reach
block_begins {s} column u e =
    let l = first_of (lines (codes s)) in
    let x = next_line u (boundary_start u) in
    let n : 0 + (bytes_of l + 1) ≡ bytes_of l + 1 = zero-add (bytes_of l + 1) in
    rw e (record {
      place = rw n at x.place;
      same = sym (ap (block_reach column) x.are ∙ past_first l (later_reach column x.later) ∙ ap (reached (bytes_of l + 1) (trimmed_len l)) (rw n at (x.same column)));
    })

-- no line is left
pub block_at-end : {s : List ℕ} {column at end : ℕ} → Measuring s column at end → length s ≤ at → end ≡ block_len s column
unfolding lines later_reach ends_block is_blank trimmed_len
block_at-end {s} {column} {at} {end} r h = sym (ap (λ (cs : List ℕ). reached at end (later_reach column (lines cs))) (codes_end s at h)) ∙ r.same

-- the line m at the byte `at` lies within the text
pub record Fitting (s : List ℕ) (at : ℕ) (m : Line) : Type 0 where
  pub line : at + m.len ≤ length s
  pub content : m.trimmed ≤ m.len

pub line_fits : {s : List ℕ} {at : ℕ} {m : Line} → Utf8 s → Boundary s at → m ≡ line_of (codes (drop at s)) → Fitting s at m
unfolding line_of
line_fits {s} {at} u b e = rw e (record { line = (next_line u b).within; content = trimmed_within (first_of (lines (codes (drop at s)))) })

module _ {s : List ℕ} {column at end : ℕ} {m : Line} (u : Utf8 s) (r : Measuring s column at end) (h : at < length s) (e : m ≡ line_of (codes (drop at s))) where
  abbrev l : List ℕ
  l = first_of (lines (codes (drop at s)))

  after : Next s at l
  after = next_line u (r.place h)

  -- what the line decides
  decides : (t : Bool) → ends_block column l ≡ t → reached at end (cond t 0 (past_line l (later_reach column after.later))) ≡ block_len s column
  unfolding later_reach
  decides t f = sym (ap (λ (ls : List (List ℕ)). reached at end (later_reach column ls)) after.are ∙ rw f) ∙ r.same

  -- it ends the block
  pub block_ends : 0 < m.trimmed → m.lead < column → end ≡ block_len s column
  unfolding line_of ends_block
  block_ends p q = let p' : 0 < trimmed_len l = rw e at p in let q' : bytes_of (white_space_run l) < column = rw e at q in decides true (rw (trimmed_not_blank l p', lt-ltb (bytes_of (white_space_run l)) column q'))

  -- it is blank, or indented enough
  goes_on : (end' : ℕ) → ends_block column l ≡ false → ((n : ℕ) → reached at end (past_line l n) ≡ reached (at + (bytes_of l + 1)) end' n) → Measuring s column (at + (m.len + 1)) end'
  unfolding line_of
  goes_on end' f g =
      rw e (record {
        place = after.place;
        same = ap (reached (at + (bytes_of l + 1)) end') (sym (after.same column)) ∙ sym (g (later_reach column after.later)) ∙ decides false f;
      })

  pub block_blank : m.trimmed ≤ 0 → Measuring s column (at + (m.len + 1)) end
  unfolding line_of ends_block
  block_blank p = let p' : trimmed_len l ≤ 0 = rw e at p in goes_on end (rw (not_trimmed_blank l (omega arith))) (λ n. past_blank at end l n (omega arith))

  pub block_content : 0 < m.trimmed → column ≤ m.lead → Measuring s column (at + (m.len + 1)) (at + m.trimmed)
  unfolding line_of ends_block
  block_content p q =
      let p' : 0 < trimmed_len l = rw e at p in
      let q' : column ≤ bytes_of (white_space_run l) = rw e at q in
      rw e (rw e at (goes_on (at + trimmed_len l) (rw (trimmed_not_blank l p', le-ltb (bytes_of (white_space_run l)) column q')) (λ n. past_content at end l n p')))
