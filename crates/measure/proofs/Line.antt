-- A line, character by character: what was counted so far, and the line of what is left.
use mathlib.Core.Path.{◌≡◌, refl, sym, ◌∙◌, ap, subst}
use mathlib.Core.Logic.{◌⊎◌, inl, inr}
use mathlib.Core.Bool.{Bool, true, false, cond}
use mathlib.Core.List.{List, [], ◌∷◌}
use Prim.Native.Nat.{ℕ, zero, suc, ◌+◌, ◌-◌, ◌≤◌, ◌<◌}
use native.Mathlib.Nat.{zero-add, add-zero, add_assoc}
use native.Mathlib.Omega.{arith}
use borrow.Author.Tests.{eq-eqb, ne_eqb}
use lib.Dec.{eqb}
use lib.ListN.{length, drop, get_or, length-drop}
use Rattle.utf8.specs.Utf8.{Utf8, encode, encode_all}
use Rattle.utf8.specs.Characters.{codes, character, first_char}
use Rattle.utf8.specs.Boundary.{Boundary}
use Rattle.utf8.specs.WhiteSpace.{white_space, is_in, is_white_space}
use Rattle.utf8.proofs.Utf8Laws.{CharAt, char_at, boundary_start}
use Rattle.utf8.specs.declared.utf8.Char.{Char}
use Rattle.measure.specs.Run.{bytes_of, white_space_run}
use Rattle.utf8.specs.Ascii.{newline}
use Rattle.measure.specs.Block.{onto_first, lines, is_blank, trimmed_len}
use Rattle.measure.specs.Counted.{first_of, line_of}
use Rattle.measure.proofs.Places.{bytes_cons, encode_takes, run_goes_on, run_stops}
use Rattle.measure.specs.declared.block.Line.{Line}
use Rattle.letters.specs.Letters.{WordByte, Letters}
use Rattle.utf8.specs.Tests.{by_order}
use Rattle.letters.proofs.Words.{Dark, dark, above_blank, letter_at, letter_here, fits, after_blank, rest_of}
use Rattle.measure.proofs.Read.{codes_end}
use Rattle.measure.proofs.Reached.{reached, reached_start, reached_more, reached_on}

-- ---- blank lines

pub blank_trimmed : (l : List ℕ) → is_blank l ≡ true → trimmed_len l ≡ 0
unfolding trimmed_len
blank_trimmed [] e = refl
blank_trimmed (c ∷ l) e = rw e

pub content_trimmed : (l : List ℕ) → is_blank l ≡ false → 0 < trimmed_len l
unfolding trimmed_len is_blank
content_trimmed [] e = absurd (let z : ◌≡◌ {A = ℕ} 0 1 = cc in omega arith)
content_trimmed (c ∷ l) e = rw e (let h = encode_takes c in omega arith)

-- ---- the first of the lines

first_newline : (c : ℕ) (cs : List ℕ) → c ≡ newline → first_of (lines (c ∷ cs)) ≡ []
unfolding lines
first_newline c cs e = rw (eq-eqb c newline e)

first_cons : (c : ℕ) (cs : List ℕ) → (c ≡ newline → ⊥) → first_of (lines (c ∷ cs)) ≡ c ∷ first_of (lines cs)
unfolding lines
first_cons c cs e = rw (ne_eqb c newline e) (go (lines cs))
  where
    go : (ls : List (List ℕ)) → first_of (onto_first c ls) ≡ c ∷ first_of ls
    go [] = refl
    go (l ∷ ls) = refl

-- ---- one character more of a line

run_white : (c : ℕ) (l : List ℕ) → is_white_space c ≡ true → bytes_of (white_space_run (c ∷ l)) ≡ length (encode c) + bytes_of (white_space_run l)
run_white c l e = ap bytes_of (run_goes_on c l e) ∙ bytes_cons c (white_space_run l)

run_none : (c : ℕ) (l : List ℕ) → is_white_space c ≡ false → bytes_of (white_space_run (c ∷ l)) ≡ 0
unfolding encode_all
run_none c l e = ap bytes_of (run_stops c l e)

trimmed_white : (at end c : ℕ) (l : List ℕ) → is_white_space c ≡ true → reached at end (trimmed_len (c ∷ l)) ≡ reached (at + length (encode c)) end (trimmed_len l)
unfolding is_blank trimmed_len
trimmed_white at end c l e = go (is_blank l) refl
  where
    go : (t : Bool) → is_blank l ≡ t → reached at end (trimmed_len (c ∷ l)) ≡ reached (at + length (encode c)) end (trimmed_len l)
    go true f = rw (e, f, blank_trimmed l f)
    go false f =
        let n = content_trimmed l f in
        rw (e, f) (reached_more at end (length (encode c) + trimmed_len l) (omega arith) ∙ sym (add_assoc at (length (encode c)) (trimmed_len l)) ∙ sym (reached_more (at + length (encode c)) end (trimmed_len l) n))

trimmed_content : (at end c : ℕ) (l : List ℕ) → is_white_space c ≡ false → reached at end (trimmed_len (c ∷ l)) ≡ reached (at + length (encode c)) (at + length (encode c)) (trimmed_len l)
unfolding is_blank trimmed_len
trimmed_content at end c l e = rw e (reached_on at end (length (encode c)) (trimmed_len l) (encode_takes c))

-- ---- the line as it was counted so far

abbrev pub line_by : ℕ → ℕ → ℕ → Line
line_by lead trimmed len = record { lead = lead; trimmed = trimmed; len = len }

-- with l left of the line
unfoldable pub line_so_far : ℕ → ℕ → ℕ → List ℕ → Line
line_so_far lead trimmed len l =
    line_by (cond (eqb trimmed 0) (lead + bytes_of (white_space_run l)) lead) (reached len trimmed (trimmed_len l)) (len + bytes_of l)

same_told : {a b c d e f : ℕ} → a ≡ d → b ≡ e → c ≡ f → line_by a b c ≡ line_by d e f
same_told p q r = rw (p, q, r)

-- leading bytes that a test leaves alone
alone : (t : Bool) (lead : ℕ) → cond t (lead + 0) lead ≡ lead
alone true lead = add-zero lead
alone false lead = refl

nothing_left : (lead trimmed len : ℕ) → line_so_far lead trimmed len [] ≡ line_by lead trimmed len
unfolding line_so_far white_space_run trimmed_len encode_all
nothing_left lead trimmed len = same_told (alone (eqb trimmed 0) lead) refl (add-zero len)

-- a character c of n bytes, and l after it
module _ (lead trimmed len n c : ℕ) (l : List ℕ) (z : n ≡ length (encode c)) where
  longer : len + bytes_of (c ∷ l) ≡ len + n + bytes_of l
  longer = let e = bytes_cons c l in omega arith

  lead_on : is_white_space c ≡ true → trimmed ≡ 0 → lead ≡ len → line_so_far lead trimmed len (c ∷ l) ≡ line_so_far (len + n) trimmed (len + n) l
  unfolding line_so_far
  lead_on e t b = same_told (rw (eq-eqb trimmed 0 t) (let r = run_white c l e in omega arith)) (rw z (trimmed_white len trimmed c l e)) longer

  white_on : is_white_space c ≡ true → (trimmed ≡ 0 → ⊥) → line_so_far lead trimmed len (c ∷ l) ≡ line_so_far lead trimmed (len + n) l
  unfolding line_so_far
  white_on e t = same_told (rw (ne_eqb trimmed 0 t)) (rw z (trimmed_white len trimmed c l e)) longer

  content_on : is_white_space c ≡ false → line_so_far lead trimmed len (c ∷ l) ≡ line_so_far lead (len + n) (len + n) l
  unfolding line_so_far
  content_on e = same_told (rw (run_none c l e, ne_eqb (len + n) 0 some) (alone (eqb trimmed 0) lead)) (rw z (trimmed_content len trimmed c l e)) longer
    where
      some : len + n ≡ 0 → ⊥
      some f = let h = encode_takes c in omega arith

-- so far len bytes of the line that s begins with were counted
pub record CountingLine (s : List ℕ) (lead trimmed len : ℕ) : Type 0 where
  pub boundary : Boundary s len
  pub blank : trimmed ≡ 0 → lead ≡ len
  pub same : line_so_far lead trimmed len (first_of (lines (codes (drop len s)))) ≡ line_of (codes s)

pub line_begins : {s : List ℕ} → Utf8 s → CountingLine s 0 0 0
unfolding line_so_far line_of
line_begins {s} u =
    record {
      boundary = boundary_start u;
      blank = λ e. refl;
      same = same_told (zero-add _) (reached_start _) (zero-add _);
    }

module _ {s : List ℕ} {lead trimmed len : ℕ} (r : CountingLine s lead trimmed len) where
  all_counted : first_of (lines (codes (drop len s))) ≡ [] → line_by lead trimmed len ≡ line_of (codes s)
  all_counted e = sym (ap (line_so_far lead trimmed len) e ∙ nothing_left lead trimmed len) ∙ r.same

  -- at the text's end, and at a newline, that was all of it
  pub line_at_end : length s ≤ len → line_by lead trimmed len ≡ line_of (codes s)
  unfolding lines
  line_at_end h = all_counted (ap (λ (cs : List ℕ). first_of (lines cs)) (codes_end s len h))

  module _ {k : Char} (a : CharAt s len k) where
    pub line_stops : k.code ≡ newline → line_by lead trimmed len ≡ line_of (codes s)
    line_stops e = all_counted (ap (λ (cs : List ℕ). first_of (lines cs)) a.forward ∙ first_newline k.code (codes (drop (len + k.len) s)) e)

    -- what is left of the line after it
    abbrev more : List ℕ
    more = first_of (lines (codes (drop (len + k.len) s)))

    module _ (n : k.code ≡ newline → ⊥) where
      left : first_of (lines (codes (drop len s))) ≡ k.code ∷ more
      left = ap (λ (cs : List ℕ). first_of (lines cs)) a.forward ∙ first_cons k.code (codes (drop (len + k.len) s)) n

      -- the character joins the line
      joins : (lead' trimmed' : ℕ) → (trimmed' ≡ 0 → lead' ≡ len + k.len)
          → line_so_far lead trimmed len (k.code ∷ more) ≡ line_so_far lead' trimmed' (len + k.len) more
          → CountingLine s lead' trimmed' (len + k.len)
      joins lead' trimmed' b e = record { boundary = a.next; blank = b; same = sym (ap (line_so_far lead trimmed len) left ∙ e) ∙ r.same }

      -- as leading white space, as white space after other characters, and as one of those
      pub line_leads : is_white_space k.code ≡ true → trimmed ≡ 0 → CountingLine s (len + k.len) trimmed (len + k.len)
      line_leads e t = joins (len + k.len) trimmed (λ y. refl) (lead_on lead trimmed len k.len k.code more a.size e t (r.blank t))

      pub line_spaces : is_white_space k.code ≡ true → (trimmed ≡ 0 → ⊥) → CountingLine s lead trimmed (len + k.len)
      line_spaces e t = joins lead trimmed (λ y. absurd (t y)) (white_on lead trimmed len k.len k.code more a.size e t)

      pub line_goes_on : is_white_space k.code ≡ false → CountingLine s lead (len + k.len) (len + k.len)
      line_goes_on e = joins lead (len + k.len) (λ y. absurd (let h = a.some in omega arith)) (content_on lead trimmed len k.len k.code more a.size e)

-- ---- over letters

dark_goes_on : {s : List ℕ} {lead trimmed len : ℕ} {k : Char} → CountingLine s lead trimmed len → CharAt s len k → Dark k.code → CountingLine s lead (len + k.len) (len + k.len)
dark_goes_on {k = k} r a d = line_goes_on r a (λ e. let h = above_blank k.code d in omega arith) (dark k.code d)

blank_spaces : {s : List ℕ} {lead trimmed len : ℕ} {k : Char} → CountingLine s lead trimmed len → CharAt s len k → k ≡ character 32 1 → (trimmed ≡ 0 → ⊥) → CountingLine s lead trimmed (len + 1)
unfolding is_white_space is_in white_space
blank_spaces {s} {lead} {trimmed} {len} {k} r a e t =
    subst (λ (x : Char). CountingLine s lead trimmed (len + x.len)) e (line_spaces r a (λ z. let c : k.code ≡ 32 = ap (λ (x : Char). x.code) e in omega arith) (ap (λ (x : Char). is_white_space x.code) e) t)

-- some letters after a character that is no white space, or a blank after it
over-letters :
    (m : ℕ) (s val : List ℕ) (lead trimmed len n : ℕ) → Utf8 s → n ≤ m → 0 < n → (trimmed ≡ 0 → ⊥) → CountingLine s lead trimmed len → Letters (drop len s) val n →
    CountingLine s lead (len + n) (len + n)
over-letters zero s val lead trimmed len n u b h t r l = absurd (omega arith)
over-letters (suc m) s val lead trimmed len n u b h t r l =
    by (letter_at a (letter_here s val len n l h)) (λ trimmed' k. over-letters m s (drop k val) lead trimmed' (len + k) (n - k) u)
  where
    k : Char
    k = first_char (drop len s)

    a : CharAt s len k
    a = char_at u r.boundary (let i = l.run.in_source in let d = length-drop len s in omega arith)

    Rest : Type 0
    Rest = (trimmed' j : ℕ) → n - j ≤ m → 0 < n - j → (trimmed' ≡ 0 → ⊥) → CountingLine s lead trimmed' (len + j) → Letters (drop (len + j) s) (drop j val) (n - j) → CountingLine s lead (len + j + (n - j)) (len + j + (n - j))

    same : (j : ℕ) → j ≤ n → len + j + (n - j) ≡ len + n
    same j g = omega arith

    solid : Dark k.code → Rest → k.len ≤ n → 1 ≤ k.len → CountingLine s lead (len + n) (len + n)
    solid d rest f o =
        let g = dark_goes_on r a d in
        by_order k.len n
        (λ lt. subst (λ (x : ℕ). CountingLine s lead x x) (same k.len f) (rest (len + k.len) k.len (omega arith) (omega arith) (λ z. omega arith) g (rest_of s val len n l h k.len f)))
        (λ le. let e : k.len ≡ n = omega arith in subst (λ (x : ℕ). CountingLine s lead (len + x) (len + x)) e g)

    by : Dark k.code ⊎ ((get_or s len 0 ≡ 32) × (k ≡ character 32 1) × WordByte (get_or s (len + 1) 0) (get_or s (len + 2) 0)) → Rest → CountingLine s lead (len + n) (len + n)
    by (inl d) rest = solid d rest (fits s val len n l h a) a.some
    by (inr (z, e, w)) rest =
        let more = after_blank s val len n l h z in
        subst (λ (x : ℕ). CountingLine s lead x x) (same 1 h) (rest trimmed 1 (omega arith) (omega arith) t (blank_spaces r a e t) (rest_of s val len n l h 1 h))

-- any letters after a character that is no white space
pub line_letters : {s : List ℕ} {lead len n : ℕ} → Utf8 s → (len ≡ 0 → ⊥) → CountingLine s lead len len → Letters (drop len s) (drop len s) n → CountingLine s lead (len + n) (len + n)
line_letters {s} {lead} {len} {n} u t r l =
    by_order 0 n
    (λ lt. over-letters n s (drop len s) lead len len n u (omega arith) lt t r l)
    (λ le. let e : len ≡ len + n = omega arith in subst (λ (x : ℕ). CountingLine s lead x x) e r)
