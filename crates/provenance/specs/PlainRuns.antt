-- Runs of a text, by its characters and by its bytes: what the walk of a plain scalar sees of a run that its measure takes.
use Rattle.std.specs.Prelude.{◌≡◌, refl, Bool, true, false, ◌||◌, List, [], ◌∷◌, ◌++◌, ℕ, zero, suc, ◌+◌, ◌/◌, ◌%◌, ◌≤◌, ◌<◌, ltb, eqb, length, take, drop}
use Rattle.std.proofs.Common.{sym, ap, ◌∙◌, arith, lt-ltb, le-ltb, ltb-true, eqb-true, ne_eqb}
use Prim.{tt}
use Rattle.std.proofs.lemmas.Bool.{eqb-false}
use Rattle.std.proofs.Math.Seq.{take-nil}
use Rattle.utf8.specs.Ascii.{tab, newline}
use Rattle.utf8.specs.Class.{inside, is_white_space_byte}
use Rattle.utf8.specs.Utf8.{ScalarValue, ScalarValues, encode, encode_all, is_ascii}
use Rattle.utf8.specs.WhiteSpace.{white_space, is_in, is_white_space}
use Rattle.utf8.specs.Tests.{clash, by_order, below_inside, above_inside, is_inside, and_left, and_right}
use Rattle.measure.specs.Run.{white_space_run, holds_newline}
use Rattle.measure.specs.Plain.{is_fold}
use Rattle.provenance.specs.Run.{white_run, blank_run}
use Rattle.provenance.specs.Grammar.{is_break_byte}
use Rattle.provenance.specs.Tests.{by_answer}
use Rattle.provenance.specs.Alike.{ascii_front}
use Rattle.provenance.specs.PlainSteps.{Quiet}

-- ---- the bytes of a character

pub ascii_bytes : (c : ℕ) → c < 0x80 → encode c ≡ c ∷ []
unfolding encode
ascii_bytes c h = rw (lt-ltb c 0x80 h)

quiet_high : (b : ℕ) → 0x80 ≤ b → is_break_byte b ≡ false
unfolding is_fold
quiet_high b h = rw (ne_eqb b 32 (λ e. omega arith), ne_eqb b 10 (λ e. omega arith), ne_eqb b 9 (λ e. omega arith))

-- beyond ASCII the first byte is no white space, and none begins a break
pub record Wide (c : ℕ) : Type 0 where
  pub begin : ℕ
  pub more : List ℕ
  pub is : encode c ≡ begin ∷ more
  pub high : 0xc0 ≤ begin
  pub quiet : Quiet (begin ∷ more)

pub wide : (c : ℕ) → 0x80 ≤ c → Wide c
unfolding encode
wide c h =
    by_answer (ltb c 0x800)
    (λ e.
    record {
      begin = 0xc0 + c / 64;
      more = (0x80 + c % 64) ∷ [];
      is = rw (le-ltb c 0x80 h, e);
      high = omega arith;
      quiet = (quiet_high _ (omega arith), (quiet_high _ (omega arith), tt));
    })
    (λ e.
    by_answer (ltb c 0x1_0000)
    (λ f.
    record {
      begin = 0xe0 + c / 4096;
      more = (0x80 + c / 64 % 64) ∷ (0x80 + c % 64) ∷ [];
      is = rw (le-ltb c 0x80 h, e, f);
      high = omega arith;
      quiet = (quiet_high _ (omega arith), (quiet_high _ (omega arith), (quiet_high _ (omega arith), tt)));
    })
    (λ f.
    record {
      begin = 0xf0 + c / 262144;
      more = (0x80 + c / 4096 % 64) ∷ (0x80 + c / 64 % 64) ∷ (0x80 + c % 64) ∷ [];
      is = rw (le-ltb c 0x80 h, e, f);
      high = omega arith;
      quiet = (quiet_high _ (omega arith), (quiet_high _ (omega arith), (quiet_high _ (omega arith), (quiet_high _ (omega arith), tt))));
    }))

-- a character that is no blank, newline or tab
pub quiet_bytes : (c : ℕ) → is_break_byte c ≡ false → Quiet (encode c)
quiet_bytes c e =
    by_order c 0x80
    (λ lt. rw (ascii_bytes c lt) (e, tt))
    (λ le. let w = wide c le in rw w.is w.quiet)

-- ---- white space by bytes and by code points

not_white_high : (b : ℕ) → 0xc0 ≤ b → is_white_space_byte b ≡ false
not_white_high b h = rw (above_inside 9 13 b (omega arith), ne_eqb b 32 (λ e. omega arith), ne_eqb b 133 (λ e. omega arith), ne_eqb b 160 (λ e. omega arith))

only_inside : (a b : ℕ) → inside a a b ≡ eqb b a
only_inside a b =
    by_answer (eqb b a)
    (λ e. let f : b ≡ a = eqb-true b a e in is_inside a a b (omega arith) (omega arith) ∙ sym e)
    (λ e.
    let n = eqb-false b a e in
    by_order b a
    (λ lt. below_inside a a b lt ∙ sym e)
    (λ le. above_inside a a b (differ le n) ∙ sym e))
  where
    differ : a ≤ b → (b ≡ a → ⊥) → a < b
    differ le n = by_order a b (λ lt. lt) (λ ge. absurd (n (omega arith)))

-- of ASCII the two are the same
white_ascii : (c : ℕ) → c < 0x80 → is_white_space c ≡ is_white_space_byte c
unfolding is_white_space is_in white_space
white_ascii c h =
    rw (
      only_inside 32 c,
      below_inside 133 133 c (omega arith),
      below_inside 160 160 c (omega arith),
      below_inside 5760 5760 c (omega arith),
      below_inside 8192 8202 c (omega arith),
      below_inside 8232 8232 c (omega arith),
      below_inside 8233 8233 c (omega arith),
      below_inside 8239 8239 c (omega arith),
      below_inside 8287 8287 c (omega arith),
      below_inside 12288 12288 c (omega arith),
      ne_eqb c 133 (λ e. omega arith),
      ne_eqb c 160 (λ e. omega arith),
    )

-- what the walk sees of a run
pub walk_run : (cs : List ℕ) → white_run (encode_all cs) ≡ ascii_front (white_space_run cs)
unfolding encode_all white_run white_space_run ascii_front
walk_run [] = refl
walk_run (c ∷ cs) =
    by_order c 0x80
    (λ lt.
    by_answer (is_white_space c)
    (λ e. let f : is_white_space_byte c ≡ true = sym (white_ascii c lt) ∙ e in rw (ascii_bytes c lt, e, f, lt-ltb c 0x80 lt) (ap (λ (l : List ℕ). c ∷ l) (walk_run cs)))
    (λ e. let f : is_white_space_byte c ≡ false = sym (white_ascii c lt) ∙ e in rw (ascii_bytes c lt, e, f)))
    (λ le.
    let w = wide c le in
    by_answer (is_white_space c)
    (λ e. rw (w.is, not_white_high w.begin w.high, e, le-ltb c 0x80 le))
    (λ e. rw (w.is, not_white_high w.begin w.high, e)))

-- a blank, a newline or a tab is white space
pub break_white : (c : ℕ) → is_white_space c ≡ false → is_break_byte c ≡ false
unfolding is_white_space is_in white_space is_fold
break_white c e = rw (ne_eqb c 32 (λ f. clash (rw f at e)), ne_eqb c 10 (λ f. clash (rw f at e)), ne_eqb c 9 (λ f. clash (rw f at e)))

-- ---- runs

pub held_some : (l : List ℕ) → holds_newline l ≡ true → 0 < length l
unfolding holds_newline
held_some [] h = absurd (clash (sym h))
held_some (c ∷ cs) h = omega arith

-- what a front holds, all of it holds
pub front_held : (l : List ℕ) → holds_newline (ascii_front l) ≡ true → holds_newline l ≡ true
unfolding ascii_front holds_newline
front_held [] h = h
front_held (c ∷ cs) h =
    by_answer (ltb c 0x80)
    (λ e. by_answer (eqb c newline) (λ f. rw f) (λ f. rw f (front_held cs (rw (e, f) at h))))
    (λ e. absurd (clash (sym (rw e at h))))

pub front_all : (l : List ℕ) → is_ascii l ≡ true → ascii_front l ≡ l
unfolding ascii_front is_ascii
front_all [] h = refl
front_all (c ∷ cs) h = rw (and_left (ltb c 0x80) (is_ascii cs) h) (ap (λ (l : List ℕ). c ∷ l) (front_all cs (and_right (ltb c 0x80) (is_ascii cs) h)))

pub bytes_all : (l : List ℕ) → is_ascii l ≡ true → encode_all l ≡ l
unfolding encode_all is_ascii
bytes_all [] h = refl
bytes_all (c ∷ cs) h =
    rw (ascii_bytes c (ltb-true c 0x80 (and_left (ltb c 0x80) (is_ascii cs) h))) (ap (λ (l : List ℕ). c ∷ l) (bytes_all cs (and_right (ltb c 0x80) (is_ascii cs) h)))

-- some characters go on with white space
pub record Whitens (cs : List ℕ) : Type 0 where
  pub first : ℕ
  pub others : List ℕ
  pub are : cs ≡ first ∷ others
  pub white : is_white_space first ≡ true

pub run_some : (cs : List ℕ) → holds_newline (white_space_run cs) ≡ true → Whitens cs
unfolding white_space_run holds_newline
run_some [] h = absurd (clash (sym h))
run_some (c ∷ cs) h =
    by_answer (is_white_space c)
    (λ e. record { first = c; others = cs; are = refl; white = e })
    (λ e. absurd (clash (sym (rw e at h))))

-- a run that is not all ASCII: its ASCII front, and then white space of more bytes
pub record Parted (cs : List ℕ) : Type 0 where
  pub first : ℕ
  pub others : List ℕ
  pub bytes : encode_all cs ≡ ascii_front (white_space_run cs) ++ encode_all (first ∷ others)
  pub white : is_white_space first ≡ true
  pub scalar : ScalarValue first

pub run_parts : (cs : List ℕ) → ScalarValues cs → is_ascii (white_space_run cs) ≡ false → Parted cs
unfolding white_space_run is_ascii ascii_front encode_all
run_parts [] v h = absurd (clash h)
run_parts (c ∷ cs) v h =
    by_answer (is_white_space c)
    (λ e.
    by_order c 0x80
    (λ lt.
    let p = run_parts cs v.1 (rw (e, lt-ltb c 0x80 lt) at h) in
    record {
      first = p.first;
      others = p.others;
      bytes = rw (e, lt-ltb c 0x80 lt, ascii_bytes c lt) (ap (λ (l : List ℕ). c ∷ l) p.bytes);
      white = p.white;
      scalar = p.scalar;
    })
    (λ le. record { first = c; others = cs; bytes = rw (e, le-ltb c 0x80 le); white = e; scalar = v.0 }))
    (λ e. absurd (clash (rw e at h)))

-- after a run of bytes comes none
pub run_over : (src : List ℕ) → white_run (drop (length (white_run src)) src) ≡ []
unfolding white_run
run_over [] = refl
run_over (b ∷ src) = by_answer (is_white_space_byte b) (λ e. rw e (run_over src)) (λ e. rw (e, e))

pub or_left : (a b : Bool) → a || b ≡ false → a ≡ false
or_left true b e = e
or_left false b e = refl

-- blanks and newlines of a value end before any other character
pub no_blanks : (bs val : List ℕ) → Quiet bs → 0 < length bs → blank_run (bs ++ val) ≡ []
unfolding blank_run
no_blanks [] val q h = absurd (omega arith)
no_blanks (b ∷ bs) val q h = rw (or_left (is_fold b) (eqb b tab) q.0)

pub take_one : (n c : ℕ) → 0 < n → take n (c ∷ []) ≡ c ∷ []
take_one zero c h = absurd (omega arith)
take_one (suc n) c h = ap (λ (l : List ℕ). c ∷ l) (take-nil n)
