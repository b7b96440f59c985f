-- The definitions of `Read` where they answer, and what holds of an answer case by case.
use Rattle.std.specs.Prelude.{◌≡◌, refl, Bool, true, false, cond, List, ℕ, ◌+◌, ◌≤◌, ◌<◌, leb, eqb, length, get_or, take, None, Some, Result, Ok, Err, IfOk}
use Rattle.std.proofs.Common.{◌∙◌, arith, lt-ltb, le-leb, leb-true}
use Rattle.utf8.specs.Characters.{is_utf8}
use Rattle.style.specs.Style.{style_of}
use Rattle.event.specs.Number.{number_at}
use Rattle.event.specs.Read.{malformed, ◌>>=◌, part, part_of, yaml_tag, read_string, read_parts, read_tag, with_value, read_scalar, read_body, read_event}
use Rattle.event.specs.declared.malformed.Malformed.{Malformed}
use Rattle.event.specs.declared.string.Part.{Part}

module _ (s : List ℕ) (i : ℕ) where
  pub string_tested : (n : ℕ) (utf8 : Bool) → n ≡ number_at s i 2 → i + 2 + n ≤ length s → utf8 ≡ is_utf8 (part_of s (part (i + 2) n))
      → read_string s i ≡ cond utf8 (Ok (part (i + 2) n)) (Err malformed)
  unfolding read_string
  string_tested n utf8 m h t = rw (← m, le-leb (i + 2) (length s) (omega arith), le-leb (i + 2 + n) (length s) h, ← t)

  pub tag_absent : i < length s → get_or s i 0 ≡ 0 → read_tag s i ≡ Ok (None, i + 1)
  unfolding read_tag
  tag_absent h k = rw (lt-ltb i (length s) h, k)

  pub tag_present : i < length s → get_or s i 0 ≡ 1 → read_tag s i ≡ read_parts s (i + 1)
  unfolding read_tag
  tag_present h k = rw (lt-ltb i (length s) h, k)

  -- with the handle and the suffix read
  pub tag_with_suffix : i < length s → get_or s i 0 ≡ 1 → (h x : Part) → read_string s (i + 1) ≡ Ok h → read_string s (h.at + h.len) ≡ Ok x
      → read_tag s i ≡ Ok (Some (yaml_tag h x), x.at + x.len)
  tag_with_suffix l k h x p q = tag_present l k ∙ rw (p, q)

  pub scalar_tagged : (n : ℕ) → i + 6 ≤ length s → get_or s (i + 4) 0 ≤ 4 → get_or s (i + 5) 0 ≤ 1
      → read_scalar s n i ≡ (read_tag s (i + 6) >>= with_value s n (number_at s i 4) (style_of (get_or s (i + 4) 0)) (eqb (get_or s (i + 5) 0) 1))
  unfolding read_scalar
  scalar_tagged n h k l = rw (le-leb (i + 6) (length s) h, le-leb (get_or s (i + 4) 0) 4 k, le-leb (get_or s (i + 5) 0) 1 l)

  pub framed : i + 3 + number_at s (i + 1) 2 ≤ length s → 4 ≤ number_at s (i + 1) 2
      → read_event s i ≡ (read_body (take (i + 3 + number_at s (i + 1) 2) s) (get_or s i 0) (number_at s (i + 3) 4) (i + 3 + 4)
      >>= λ e. Ok (e, i + 3 + number_at s (i + 1) 2))
  unfolding read_event
  framed h k = rw (le-leb (i + 3) (length s) (omega arith), le-leb (i + 3 + number_at s (i + 1) 2) (length s) h, le-leb 4 (number_at s (i + 1) 2) k)

-- ---- what holds of an answer, case by case

pub by_test : {A : Type 0} (t : Bool) (x y : A) (P : A → Type 0) → (t ≡ true → P x) → (t ≡ false → P y) → P (cond t x y)
by_test true x y P f g = f refl
by_test false x y P f g = g refl

-- a string ends at the end e or before
abbrev pub StringEnds : ℕ → Result Part Malformed → Type 0
StringEnds e r = IfOk r (λ p. p.at + p.len ≤ e)

pub string_ends : (s : List ℕ) (i : ℕ) → StringEnds (length s) (read_string s i)
unfolding read_string
string_ends s i =
    by_test (leb (i + 2) (length s)) _ _ (StringEnds (length s))
    (λ t. by_test (leb (i + 2 + number_at s i 2) (length s)) _ _ (StringEnds (length s))
    (λ u. by_test (is_utf8 (part_of s (part (i + 2) (number_at s i 2)))) _ _ (StringEnds (length s)) (λ v. leb-true _ _ u) (λ v. tt))
    (λ u. tt))
    (λ t. tt)

-- of what is answered after a step that may refuse
pub by_step : {A B : Type 0} (r : Result A Malformed) (f : A → Result B Malformed) (P : A → Type 0) (Q : Result B Malformed → Type 0)
    → IfOk r P → ((x : A) → P x → Q (f x)) → Q (Err malformed) → Q (r >>= f)
by_step (Ok x) f P Q p g e = g x p
by_step (Err x) f P Q p g e = e
