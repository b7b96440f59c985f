-- What callers may rely on: a length is within the text left; a quoted scalar that is found has two marks, its own first and last
-- bytes; and what was matched of a plain scalar, and the end of a block, stand at a boundary. A length that falls back to the
-- value's may end anywhere.
use Rattle.std.specs.Prelude.{◌≡◌, refl, Bool, true, false, cond, Option, Some, None, List, [], ◌∷◌, ◌++◌, ℕ, zero, suc, ◌+◌, ◌-◌, ◌≤◌, ◌<◌, eqb, length, drop, get_or}
use Rattle.std.proofs.Common.{sym, ◌∙◌, ap, subst, append_assoc, append-nil, arith, eqb-true, length-append, get_or-append-add}
use Rattle.utf8.specs.Tests.{below_inside}
use Rattle.utf8.specs.Utf8.{Utf8, encode, encode_all}
use Rattle.utf8.specs.Characters.{codes}
use Rattle.utf8.specs.Boundary.{Boundary}
use Rattle.utf8.proofs.Utf8Laws.{char_at, first_char_ascii}
use Rattle.utf8.specs.declared.utf8.Char.{Char}
use Rattle.measure.specs.Run.{bytes_of, white_space_run, after_run}
use Rattle.utf8.specs.Ascii.{newline}
use Rattle.measure.specs.Plain.{Reach, unmatched, reaches, past_equal, past_run, begins_with, takes_run, plain_reach}
use Rattle.measure.specs.Quoted.{further, passed_together, to_closing, quoted_len}
use Rattle.measure.specs.Block.{onto_first, lines, is_blank, trimmed_len, ends_block, past_line, later_reach, block_reach, block_len}
use Rattle.measure.specs.Scalar.{scalar_measure, scalar_len}
use Rattle.measure.proofs.Places.{prefix_boundary, bytes_append, run_split}

-- ---- all styles

pub scalar_within : (rest value : List ℕ) (style : ℕ) (empty_span : Bool) (column : ℕ) → scalar_len rest value style empty_span column ≤ length rest
unfolding scalar_measure
scalar_within rest value style empty_span column = omega arith

-- ---- quoted

-- n bytes of s end in a closing mark
record Closes (s : List ℕ) (quote n : ℕ) : Type 0 where
  some : 1 ≤ n
  within : n ≤ length s
  mark : get_or s (n - 1) 0 ≡ quote

-- so far as it is found
abbrev Closing : List ℕ → ℕ → Option ℕ → Type 0
Closing s quote (Some n) = Closes s quote n
Closing s quote None = Unit {0}

-- the same with more bytes before them
closing_later : (xs s : List ℕ) (quote : ℕ) (r : Option ℕ) → Closing s quote r → Closing (xs ++ s) quote (further (length xs) r)
closing_later xs s quote None k = tt
closing_later xs s quote (Some n) k =
    let o = k.some in
    let w = k.within in
    let l = length-append xs s in
    let e : length xs + n - 1 ≡ length xs + (n - 1) = omega arith in
    record { some = omega arith; within = omega arith; mark = rw e (get_or-append-add xs s (n - 1) 0 ∙ k.mark) }

closes_here : (a : ℕ) (s : List ℕ) (quote : ℕ) → eqb a quote ≡ true → Closes (a ∷ s) quote 1
closes_here a s quote e = record { some = omega arith; within = omega arith; mark = eqb-true a quote e }

to_closing_lem : (quote : ℕ) (s : List ℕ) → Closing s quote (to_closing quote s)
unfolding to_closing
to_closing_lem quote [] = tt
to_closing_lem quote (a ∷ []) = go (eqb a quote) refl
  where
    go : (t : Bool) → eqb a quote ≡ t → Closing (a ∷ []) quote (cond t (Some 1) None)
    go true e = closes_here a [] quote e
    go false e = tt
to_closing_lem quote (a ∷ b ∷ s) = go (passed_together quote a b) (eqb a quote) refl (to_closing_lem quote s) (to_closing_lem quote (b ∷ s))
  where
    go : (x y : Bool) → eqb a quote ≡ y → Closing s quote (to_closing quote s) → Closing (b ∷ s) quote (to_closing quote (b ∷ s))
        → Closing (a ∷ b ∷ s) quote (cond x (further 2 (to_closing quote s)) (cond y (Some 1) (further 1 (to_closing quote (b ∷ s)))))
    go true y e k m = closing_later (a ∷ b ∷ []) s quote (to_closing quote s) k
    go false true e k m = closes_here a (b ∷ s) quote e
    go false false e k m = closing_later (a ∷ []) (b ∷ s) quote (to_closing quote (b ∷ s)) m

-- a quoted scalar of n bytes, with its two marks
pub record Enclosed (rest : List ℕ) (quote n : ℕ) : Type 0 where
  pub two : 2 ≤ n
  pub within : n ≤ length rest
  pub opening : get_or rest 0 0 ≡ quote
  pub closing : get_or rest (n - 1) 0 ≡ quote

abbrev Enclosing : List ℕ → ℕ → Option ℕ → Type 0
Enclosing rest quote (Some n) = Enclosed rest quote n
Enclosing rest quote None = Unit {0}

enclosing : (rest : List ℕ) (quote : ℕ) → Enclosing rest quote (quoted_len rest quote)
unfolding quoted_len
enclosing [] quote = tt
enclosing (a ∷ s) quote = go (eqb a quote) refl (to_closing quote s) (to_closing_lem quote s)
  where
    go : (t : Bool) → eqb a quote ≡ t → (r : Option ℕ) → Closing s quote r → Enclosing (a ∷ s) quote (cond t (further 1 r) None)
    go false e r k = tt
    go true e None k = tt
    go true e (Some n) k =
        let o = k.some in
        let m : Closes (a ∷ s) quote (1 + n) = closing_later (a ∷ []) s quote (Some n) k in
        record { two = omega arith; within = m.within; opening = eqb-true a quote e; closing = m.mark }

pub quoted_found : (rest : List ℕ) (quote n : ℕ) → quoted_len rest quote ≡ Some n → Enclosed rest quote n
quoted_found rest quote n e = subst (Enclosing rest quote) e (enclosing rest quote)

-- a place after an ASCII byte
after_ascii : {s : List ℕ} {i : ℕ} → Utf8 s → i < length s → get_or s i 0 < 0x80 → Boundary s (i + 1)
after_ascii {s} {i} u h l =
    let b : Boundary s i = record { within = omega arith; edge = below_inside 128 191 (get_or s i 0) l } in
    subst (λ (k : Char). Boundary s (i + k.len)) (first_char_ascii s i h l) (char_at u b h).next

-- the marks are ASCII, so a quoted scalar ends at a boundary
pub quoted_boundary : {rest : List ℕ} {quote n : ℕ} → Utf8 rest → quote < 0x80 → quoted_len rest quote ≡ Some n → Boundary rest n
quoted_boundary {rest} {quote} {n} u l e =
    let f = quoted_found rest quote n e in
    let t = f.two in
    let w = f.within in
    let d : n - 1 + 1 ≡ n = omega arith in
    subst (λ (m : ℕ). Boundary rest m) d (after_ascii u (omega arith) (rw f.closing l))

-- ---- places by the characters before them

-- the first n bytes of the characters cs are whole characters
record Whole (cs : List ℕ) (n : ℕ) : Type 0 where
  front : List ℕ
  back : List ℕ
  is : cs ≡ front ++ back
  size : n ≡ bytes_of front

whole_boundary : {s : List ℕ} {n : ℕ} → Utf8 s → Whole (codes s) n → Boundary s n
whole_boundary u k = rw k.size (prefix_boundary u k.front k.back k.is)

whole_none : (cs : List ℕ) → Whole cs 0
unfolding encode_all
whole_none cs = record { front = []; back = cs; is = refl; size = refl }

-- with more characters before them
whole_later : (xs : List ℕ) {cs : List ℕ} {n : ℕ} → Whole cs n → Whole (xs ++ cs) (bytes_of xs + n)
whole_later xs {cs} {n} k =
    record {
      front = xs ++ k.front;
      back = k.back;
      is = ap (λ (l : List ℕ). xs ++ l) k.is ∙ sym (append_assoc xs k.front k.back);
      size = ap (λ (m : ℕ). bytes_of xs + m) k.size ∙ sym (bytes_append xs k.front);
    }

whole_cons : (c : ℕ) {cs : List ℕ} {n : ℕ} → Whole cs n → Whole (c ∷ cs) (length (encode c) + n)
unfolding encode_all
whole_cons c {cs} {n} k = subst (λ (m : ℕ). Whole (c ∷ cs) (m + n)) (ap length (append-nil (encode c))) (whole_later (c ∷ []) k)

-- and after them
whole_more : {cs : List ℕ} {n : ℕ} (ys : List ℕ) → Whole cs n → Whole (cs ++ ys) n
whole_more ys k =
    record { front = k.front; back = k.back ++ ys; is = ap (λ (l : List ℕ). l ++ ys) k.is ∙ append_assoc k.front k.back ys; size = k.size }

-- ---- plain

-- so far as the value lines up
abbrev Reaching : List ℕ → Reach → Type 0
Reaching cs unmatched = Unit {0}
Reaching cs (reaches n) = Whole cs n

reaching_equal : (c : ℕ) (cs : List ℕ) (r : Reach) → Reaching cs r → Reaching (c ∷ cs) (past_equal (length (encode c)) r)
reaching_equal c cs unmatched k = tt
reaching_equal c cs (reaches n) k = whole_cons c k

reaching_run : (xs cs : List ℕ) (r : Reach) → Reaching cs r → Reaching (xs ++ cs) (past_run (bytes_of xs) r)
reaching_run xs cs unmatched k = tt
reaching_run xs cs (reaches zero) k = whole_none (xs ++ cs)
reaching_run xs cs (reaches (suc n)) k = whole_later xs k

plain_reaching : (vs cs : List ℕ) → Reaching cs (plain_reach vs cs)
unfolding plain_reach begins_with
plain_reaching [] cs = whole_none cs
plain_reaching (v ∷ vs) cs = go (takes_run v cs) (plain_reaching vs)
  where
    equal : ((ds : List ℕ) → Reaching ds (plain_reach vs ds)) → (ds : List ℕ) → Reaching ds (cond (begins_with v ds) (past_equal (length (encode v)) (plain_reach vs (drop 1 ds))) unmatched)
    equal r [] = tt
    equal r (d ∷ ds) = by (eqb v d) refl
      where
        by : (t : Bool) → eqb v d ≡ t → Reaching (d ∷ ds) (cond t (past_equal (length (encode v)) (plain_reach vs ds)) unmatched)
        by true e = subst (λ (x : ℕ). Reaching (x ∷ ds) (past_equal (length (encode v)) (plain_reach vs ds))) (eqb-true v d e) (reaching_equal v ds (plain_reach vs ds) (r ds))
        by false e = tt

    go : (t : Bool) → ((ds : List ℕ) → Reaching ds (plain_reach vs ds))
        → Reaching cs (cond t (past_run (bytes_of (white_space_run cs)) (plain_reach vs (after_run cs))) (cond (begins_with v cs) (past_equal (length (encode v)) (plain_reach vs (drop 1 cs))) unmatched))
    go true r =
        subst (λ (l : List ℕ). Reaching l (past_run (bytes_of (white_space_run cs)) (plain_reach vs (after_run cs)))) (sym (run_split cs))
        (reaching_run (white_space_run cs) (after_run cs) (plain_reach vs (after_run cs)) (r (after_run cs)))
    go false r = equal r cs

-- where a value lines up, the span ends at a boundary
pub plain_boundary : {rest : List ℕ} {n : ℕ} → Utf8 rest → (value : List ℕ) → plain_reach (codes value) (codes rest) ≡ reaches n → Boundary rest n
plain_boundary {rest} {n} u value e = whole_boundary u (subst (Reaching (codes rest)) e (plain_reaching (codes value) (codes rest)))

-- ---- block

-- lines with a newline between each two
unfoldable pub joined_lines : List (List ℕ) → List ℕ
joined_lines [] = []
joined_lines (l ∷ []) = l
joined_lines (l ∷ m ∷ ls) = l ++ newline ∷ joined_lines (m ∷ ls)

lines_some : (cs : List ℕ) → 1 ≤ length (lines cs)
unfolding lines
lines_some [] = omega arith
lines_some (c ∷ cs) = go (eqb c newline) (lines cs)
  where
    go : (t : Bool) (ls : List (List ℕ)) → 1 ≤ length (cond t ([] ∷ ls) (onto_first c ls))
    go true ls = omega arith
    go false [] = omega arith
    go false (l ∷ ls) = omega arith

-- the lines of a text are all of it
pub lines_joined : (cs : List ℕ) → joined_lines (lines cs) ≡ cs
unfolding lines joined_lines
lines_joined [] = refl
lines_joined (c ∷ cs) = go (eqb c newline) refl (lines cs) (lines_some cs) (lines_joined cs)
  where
    go : (t : Bool) → eqb c newline ≡ t → (ls : List (List ℕ)) → 1 ≤ length ls → joined_lines ls ≡ cs → joined_lines (cond t ([] ∷ ls) (onto_first c ls)) ≡ c ∷ cs
    go t e [] h r = absurd (omega arith)
    go true e (l ∷ ls) h r = ap (λ (x : List ℕ). newline ∷ x) r ∙ ap (λ (x : ℕ). x ∷ cs) (sym (eqb-true c newline e))
    go false e (l ∷ []) h r = ap (λ (x : List ℕ). c ∷ x) r
    go false e (l ∷ m ∷ ls) h r = ap (λ (x : List ℕ). c ∷ x) r

whole_trimmed : (l : List ℕ) → Whole l (trimmed_len l)
unfolding trimmed_len
whole_trimmed [] = whole_none []
whole_trimmed (c ∷ l) = go (is_blank (c ∷ l)) (whole_trimmed l)
  where
    go : (t : Bool) → Whole l (trimmed_len l) → Whole (c ∷ l) (cond t 0 (length (encode c) + trimmed_len l))
    go true k = whole_none (c ∷ l)
    go false k = whole_cons c k

whole_empty : {n : ℕ} → Whole [] n → n ≡ 0
unfolding encode_all
whole_empty k = k.size ∙ go k.front k.is
  where
    go : (front : List ℕ) → [] ≡ front ++ k.back → bytes_of front ≡ 0
    go [] e = refl
    go (x ∷ front) e = absurd (let z : ◌≡◌ {A = ℕ} 0 1 = cc in omega arith)

whole_line : (l : List ℕ) (ls : List (List ℕ)) (n : ℕ) → Whole (joined_lines ls) n → Whole (joined_lines (l ∷ ls)) (past_line l n)
unfolding joined_lines encode_all encode
whole_line l [] zero k = whole_trimmed l
whole_line l (m ∷ ls) zero k = whole_more (newline ∷ joined_lines (m ∷ ls)) (whole_trimmed l)
whole_line l [] (suc n) k = absurd (let z = whole_empty k in omega arith)
whole_line l (m ∷ ls) (suc n) k =
    let e : bytes_of (l ++ (newline ∷ [])) ≡ bytes_of l + 1 = bytes_append l (newline ∷ []) in
    rw (append_assoc, e) at (whole_later (l ++ (newline ∷ [])) k)

whole_lines : (column : ℕ) (ls : List (List ℕ)) → Whole (joined_lines ls) (later_reach column ls)
unfolding later_reach
whole_lines column [] = whole_none (joined_lines [])
whole_lines column (l ∷ ls) = go (ends_block column l) (whole_lines column ls)
  where
    go : (t : Bool) → Whole (joined_lines ls) (later_reach column ls) → Whole (joined_lines (l ∷ ls)) (cond t 0 (past_line l (later_reach column ls)))
    go true k = whole_none (joined_lines (l ∷ ls))
    go false k = whole_line l ls (later_reach column ls) k

whole_block : (column : ℕ) (ls : List (List ℕ)) → Whole (joined_lines ls) (block_reach column ls)
unfolding block_reach
whole_block column [] = whole_none (joined_lines [])
whole_block column (l ∷ ls) = whole_line l ls (later_reach column ls) (whole_lines column ls)

-- a block ends at a boundary
pub block_boundary : {rest : List ℕ} → Utf8 rest → (column : ℕ) → Boundary rest (block_len rest column)
unfolding block_len
block_boundary {rest} u column =
    whole_boundary u (subst (λ (cs : List ℕ). Whole cs (block_reach column (lines (codes rest)))) (lines_joined (codes rest)) (whole_block column (lines (codes rest))))
