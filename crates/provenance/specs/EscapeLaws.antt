-- The laws of escapes: today's tables are fair, and what `\u` counts where its bytes end inside a character (P7).
use Rattle.std.specs.Prelude.{◌≡◌, refl, Bool, true, false, ◌&&◌, ◌||◌, cond, Option, Some, None, List, [], ◌∷◌, ℕ, zero, suc, ◌+◌, ◌*◌, ◌≤◌, ◌<◌, leb, eqb, length, take, drop, get_or}
use Rattle.std.proofs.Common.{sym, ap, ◌∙◌, add-one, arith, length-take, length-drop, drop-cons, lt-ltb, le-ltb, le-leb, leb-true, eqb-true}
use Rattle.std.proofs.lemmas.Option.{none-some, same_Some}
use Prim.{Unit, tt}
use Rattle.std.proofs.lemmas.Bool.{lt-leb}
use Rattle.utf8.specs.Class.{inside, is_hex_digit}
use Rattle.utf8.specs.Utf8.{Utf8, encode}
use Rattle.utf8.specs.Characters.{first_char}
use Rattle.utf8.specs.Boundary.{Boundary, is_boundary}
use Rattle.utf8.proofs.Utf8Laws.{first_char_ascii, boundary_is, char_at}
use Rattle.utf8.specs.declared.utf8.Char.{Char}
use Rattle.measure.specs.Scalar.{single_quoted, double_quoted}
use Rattle.provenance.specs.declared.escape.Escape.{Escape}
use Rattle.provenance.specs.Run.{white_run}
use Rattle.utf8.specs.Ascii.{newline, carriage_return, single_quote, backslash}
use Rattle.provenance.specs.Escape.{plus, EscapeTable, takes, EscapeReach, hex_value, digits_from, digits, radix16, code_content, single_quote_escapes, is_one_of, one_byte_escapes, backslash_escape, double_quote_escapes, escapes_reach, escapes_of}
use Rattle.utf8.specs.Tests.{clash, by_order, and_both}
use Rattle.provenance.specs.Tests.{by_test, by_answer, cond_taken, by_cond, byte_past, byte_inside}
use Rattle.provenance.specs.RunLaws.{run_within}

-- what demand 3 asks of a table
pub record FairTable (escapes : EscapeTable) (reach : EscapeReach) : Type 0 where
  -- no escape stands at the source's end: only step 4 fits there
  pub some_source : (src : List ℕ) (a b : ℕ) → escapes src ≡ takes a b → 0 < length src
  -- an escape takes a byte: so every reading ends
  pub some_taken : (src : List ℕ) (a b : ℕ) → escapes src ≡ takes a b → 0 < a
  -- so far past the text may a piece end
  pub few_past : (src : List ℕ) (a b : ℕ) → escapes src ≡ takes a b → a ≤ length src + reach.past
  -- by less than this may the contents pass the value's length
  pub few_content : (src : List ℕ) (a b : ℕ) → escapes src ≡ takes a b → b ≤ reach.content

-- ---- digits

or_cases : {X : Type 0} (a b : Bool) → a || b ≡ true → (a ≡ true → X) → (b ≡ true → X) → X
or_cases true b h f g = f refl
or_cases false b h f g = g h

inside_is : (lo hi b : ℕ) → inside lo hi b ≡ true → (lo ≤ b) × (b ≤ hi)
inside_is lo hi b h = let p = and_both (leb lo b) (leb b hi) h in (leb-true lo b p.0, leb-true b hi p.1)

pub record Digit (b : ℕ) : Type 0 where
  pub low : 48 ≤ b
  pub letter : 57 < b → 65 ≤ b
  pub small : 70 < b → 97 ≤ b
  pub high : b ≤ 102

pub hex_digit : (b : ℕ) → is_hex_digit b ≡ true → Digit b
hex_digit b h =
    or_cases (inside 48 57 b) _ h
    (λ e. let p = inside_is 48 57 b e in record { low = p.0; letter = λ q. absurd (omega arith); small = λ q. absurd (omega arith); high = omega arith })
    (λ h₂.
    or_cases (inside 65 70 b) _ h₂
    (λ e. let p = inside_is 65 70 b e in record { low = omega arith; letter = λ q. p.0; small = λ q. absurd (omega arith); high = omega arith })
    (λ e. let p = inside_is 97 102 b e in record { low = omega arith; letter = λ q. omega arith; small = λ q. p.0; high = p.1 }))

pub digit_small : (b : ℕ) → is_hex_digit b ≡ true → hex_value b < 16
digit_small b h =
    let d = hex_digit b h in
    by_order 57 b
    (λ p.
    by_order 70 b
    (λ q. let z = d.small q in let y = d.high in rw (lt-leb _ _ p, lt-leb _ _ q) (omega arith))
    (λ q. let z = d.letter p in rw (lt-leb _ _ p, le-leb _ _ q) (omega arith)))
    (λ p. rw (le-leb _ _ p) (omega arith))

-- a number of i digits is below 16 to that power
abbrev pub sixteens : ℕ → ℕ
sixteens zero = 1
sixteens (suc k) = 16 * sixteens k

pub sixteens_some : (i : ℕ) → 0 < sixteens i
sixteens_some zero = omega arith
sixteens_some (suc i) = let p = sixteens_some i in omega arith

pub sixteens_more : (i n d : ℕ) → n < sixteens i → d < 16 → n * 16 + d < sixteens (i + 1)
sixteens_more i n d h k = rw (add-one i) (omega arith)

pub sixteens_four : (i : ℕ) → i ≤ 4 → sixteens i ≤ 65536
sixteens_four zero h = omega arith
sixteens_four (suc zero) h = omega arith
sixteens_four (suc (suc zero)) h = omega arith
sixteens_four (suc (suc (suc zero))) h = omega arith
sixteens_four (suc (suc (suc (suc zero)))) h = omega arith
sixteens_four (suc (suc (suc (suc (suc i))))) h = absurd (omega arith)

-- ---- today's tables are fair

no_takes : (a b : ℕ) → None ≡ takes a b → ⊥
no_takes a b h = none-some _ h

-- escapes are equal by their two numbers
pub takes_parts : (a b x y : ℕ) → takes a b ≡ takes x y → (a ≡ x) × (b ≡ y)
takes_parts a b x y h = let e = same_Some _ _ h in (ap (λ (z : Escape). z.source) e, ap (λ (z : Escape). z.content) e)

-- what an escape of these numbers takes of a source of this length
abbrev Modest : ℕ → ℕ → ℕ → Type 0
Modest n a b = (0 < n) × (0 < a) × (a ≤ n + 4) × (b ≤ 3)

modest_as : (n a b x y : ℕ) → Modest n a b → takes a b ≡ takes x y → Modest n x y
modest_as n a b x y m e = let p = takes_parts a b x y e in omega arith

-- four digits have a character of at most three bytes
encode_three : (c : ℕ) → c < 0x1_0000 → length (encode c) ≤ 3
unfolding encode
encode_three c h =
    by_order c 0x80 (λ p. rw (lt-ltb _ _ p) (omega arith))
    (λ p. by_order c 0x800 (λ q. rw (le-ltb _ _ p, lt-ltb _ _ q) (omega arith)) (λ q. rw (le-ltb _ _ p, le-ltb _ _ q, lt-ltb _ _ h) (omega arith)))

content_three : (c : ℕ) → c < 0x1_0000 → code_content (Some c) ≤ 3
unfolding code_content
content_three c h = by_test (λ (t : Bool). cond t 1 (length (encode c)) ≤ 3) (inside 0xd800 0xdfff c) (omega arith) (encode_three c h)

none_three : code_content None ≤ 3
unfolding code_content
none_three = omega arith

-- k digits after a number below 16 to the power i
from_three : (l : List ℕ) (i n : ℕ) → i + length l ≤ 4 → n < sixteens i → code_content (digits_from n l) ≤ 3
unfolding digits_from
from_three [] i n h k = content_three n (let q = sixteens_four i (omega arith) in omega arith)
from_three (b ∷ bs) i n h k =
    by_answer (is_hex_digit b)
    (λ e. rw e (from_three bs (i + 1) (n * 16 + hex_value b) (omega arith) (sixteens_more i n (hex_value b) k (digit_small b e))))
    (λ e. rw e none_three)

digits_three : (l : List ℕ) → length l ≤ 4 → code_content (digits l) ≤ 3
unfolding digits
digits_three [] h = none_three
digits_three (b ∷ bs) h = from_three (b ∷ bs) 0 0 (omega arith) (omega arith)

pub radix_three : (l : List ℕ) → length l ≤ 4 → code_content (radix16 l) ≤ 3
unfolding radix16
radix_three [] h = none_three
radix_three (b ∷ bs) h =
    by_test (λ (t : Bool). code_content (cond t (digits bs) (digits (b ∷ bs))) ≤ 3) (eqb b plus) (digits_three bs (omega arith)) (digits_three (b ∷ bs) h)

four_few : (l : List ℕ) → length (take 4 l) ≤ 4
four_few l = let e = length-take 4 l in omega arith

single_modest : (l : List ℕ) (a b : ℕ) → single_quote_escapes l ≡ takes a b → Modest (length l) a b
unfolding single_quote_escapes
single_modest l a b h =
    let p = cond_taken (eqb (get_or l 0 0) single_quote && eqb (get_or l 1 0) single_quote) (takes 2 1) None (takes a b) (no_takes a b) h in
    let q = and_both (eqb (get_or l 0 0) single_quote) (eqb (get_or l 1 0) single_quote) p.0 in
    let i : 0 < length l = byte_inside l 0 single_quote (eqb-true _ _ q.0) (omega arith) in
    modest_as (length l) 2 1 a b (omega arith, omega arith, omega arith, omega arith) p.1

slash_modest : (c : ℕ) (l : List ℕ) (n a b : ℕ) → length l < n → backslash_escape c l ≡ takes a b → (c ≡ 0 → ⊥) → 1 < n → Modest n a b
unfolding backslash_escape
slash_modest c l n a b k h z i =
    let w = run_within l in
    let u : code_content (radix16 (take 4 (drop 1 l))) ≤ 3 = radix_three (take 4 (drop 1 l)) (four_few (drop 1 l)) in
    by_cond (is_one_of one_byte_escapes c) (takes 2 1) _ (takes a b) h (modest_as n 2 1 a b (omega arith, omega arith, omega arith, omega arith)) (λ h₁.
    by_cond (eqb c 120) (takes 4 1) _ (takes a b) h₁ (modest_as n 4 1 a b (omega arith, omega arith, omega arith, omega arith)) (λ h₂.
    by_cond (eqb c 117) (takes 6 (code_content (radix16 (take 4 (drop 1 l))))) _ (takes a b) h₂
    (modest_as n 6 (code_content (radix16 (take 4 (drop 1 l)))) a b (omega arith, omega arith, omega arith, u)) (λ h₃.
    by_cond (eqb c newline || eqb c carriage_return) (takes (1 + length (white_run l)) 0) None (takes a b) h₃
    (modest_as n (1 + length (white_run l)) 0 a b (omega arith, omega arith, omega arith, omega arith)) (λ h₄. absurd (no_takes a b h₄)))))

-- nothing stands behind a backslash at the end
slash_end : (l : List ℕ) → backslash_escape 0 l ≡ None
unfolding backslash_escape one_byte_escapes is_one_of
slash_end l = refl

double_modest : (l : List ℕ) (a b : ℕ) → double_quote_escapes l ≡ takes a b → Modest (length l) a b
unfolding double_quote_escapes
double_modest l a b h =
    let p = cond_taken (eqb (get_or l 0 0) backslash) (backslash_escape (get_or l 1 0) (drop 1 l)) None (takes a b) (no_takes a b) h in
    let i : 0 < length l = byte_inside l 0 backslash (eqb-true _ _ p.0) (omega arith) in
    let d = length-drop 1 l in
    let z : get_or l 1 0 ≡ 0 → ⊥ = (λ e. no_takes a b (sym (slash_end (drop 1 l)) ∙ ap (λ (c : ℕ). backslash_escape c (drop 1 l)) (sym e) ∙ p.1)) in
    let j : 1 < length l = by_order 1 (length l) (λ lt. lt) (λ le. absurd (z (byte_past l 1 le))) in
    slash_modest (get_or l 1 0) (drop 1 l) (length l) a b (omega arith) p.1 z j

style_modest : (style : ℕ) (l : List ℕ) (a b : ℕ) → escapes_of style l ≡ takes a b → Modest (length l) a b
unfolding escapes_of
style_modest style l a b h =
    by_cond (eqb style single_quoted) (single_quote_escapes l) _ (takes a b) h (single_modest l a b) (λ h₂.
    by_cond (eqb style double_quoted) (double_quote_escapes l) None (takes a b) h₂ (double_modest l a b) (λ h₃. absurd (no_takes a b h₃)))

pub style_fair : (style : ℕ) → FairTable (escapes_of style) escapes_reach
style_fair style =
    record {
      some_source = λ l a b h. (style_modest style l a b h).0;
      some_taken = λ l a b h. (style_modest style l a b h).1;
      few_past = λ l a b h. (style_modest style l a b h).2;
      few_content = λ l a b h. (style_modest style l a b h).3;
    }

-- no escape where no source is
pub escape_nowhere : (style : ℕ) → escapes_of style [] ≡ None
escape_nowhere style = go (escapes_of style []) refl
  where
    go : (e : Option Escape) → escapes_of style [] ≡ e → e ≡ None
    go None h = refl
    go (Some e) h = absurd (let m = style_modest style [] e.source e.content h in omega arith)

-- ---- bytes of \u that end inside a character (a listed difference: the Rust panics)

unfoldable Ascii : List ℕ → Type 0
Ascii [] = Unit {0}
Ascii (b ∷ bs) = (b < 0x80) × Ascii bs

from_ascii : (l : List ℕ) (n c : ℕ) → digits_from n l ≡ Some c → Ascii l
unfolding digits_from Ascii
from_ascii [] n c h = tt
from_ascii (b ∷ bs) n c h =
    let p = cond_taken (is_hex_digit b) (digits_from (n * 16 + hex_value b) bs) None (Some c) (none-some c) h in
    let d : b ≤ 102 = (hex_digit b p.0).high in
    (omega arith, from_ascii bs (n * 16 + hex_value b) c p.1)

digits_ascii : (l : List ℕ) (c : ℕ) → digits l ≡ Some c → Ascii l
unfolding digits
digits_ascii [] c h = absurd (none-some c h)
digits_ascii (b ∷ bs) c h = from_ascii (b ∷ bs) 0 c h

-- what can be read is ASCII
readable_ascii : (l : List ℕ) (c : ℕ) → radix16 l ≡ Some c → Ascii l
unfolding radix16 Ascii
readable_ascii [] c h = tt
readable_ascii (b ∷ bs) c h =
    by_answer (eqb b plus)
    (λ e. let z : b ≡ 43 = eqb-true b plus e in (omega arith, digits_ascii bs c (rw e at h)))
    (λ e. digits_ascii (b ∷ bs) c (rw e at h))

-- and a character begins after it
ascii_boundary : (text : List ℕ) → Utf8 text → (k i : ℕ) → Boundary text i → i + k ≤ length text → Ascii (take k (drop i text)) → Boundary text (i + k)
unfolding Ascii
ascii_boundary text u zero i b h a = let e : i + 0 ≡ i = omega arith in rw e b
ascii_boundary text u (suc k) i b h a =
    let lt : i < length text = omega arith in
    let a' = rw (drop-cons text i 0 lt) at a in
    let low : get_or text i 0 < 0x80 = a'.0 in
    let one : (first_char (drop i text)).len ≡ 1 = ap (λ (c : Char). c.len) (first_char_ascii text i lt low) in
    let e : i + (first_char (drop i text)).len ≡ suc i = omega arith in
    let next : Boundary text (suc i) = rw e at (char_at u b lt).next in
    let f : suc i + k ≡ i + suc k = omega arith in
    rw f at (ascii_boundary text u k (suc i) next (omega arith) a'.1)

pub inside_a_character : (text : List ℕ) (i : ℕ) → Utf8 text → Boundary text i → i + 4 ≤ length text → is_boundary text (i + 4) ≡ false
    → code_content (radix16 (take 4 (drop i text))) ≡ 1
unfolding code_content
inside_a_character text i u b h n = go (radix16 (take 4 (drop i text))) refl
  where
    go : (o : Option ℕ) → radix16 (take 4 (drop i text)) ≡ o → code_content o ≡ 1
    go None e = refl
    go (Some c) e = absurd (clash (sym (boundary_is (ascii_boundary text u 4 i b h (readable_ascii (take 4 (drop i text)) c e))) ∙ n))
