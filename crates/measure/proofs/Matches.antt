-- A value, matched character by character with the rest of the text: what was matched so far, and how far the match of what is left
-- reaches.
use mathlib.Core.Path.{◌≡◌, refl, sym, ◌∙◌, ap, subst}
use mathlib.Core.Logic.{⊎_elim}
use mathlib.Core.Bool.{Bool, true, false, ◌&&◌, ◌||◌}
use mathlib.Core.List.{List, [], ◌∷◌, ◌++◌}
use Prim.Native.Nat.{ℕ, zero, suc, ◌+◌, ◌-◌, ◌≤◌, ◌<◌}
use native.Mathlib.Nat.{add_assoc}
use native.Mathlib.Numerals.{add-one}
use native.Mathlib.Omega.{arith}
use borrow.Author.Tests.{eq-eqb, ne_eqb, eqb-true, lt-ltb, ltb-true}
use lib.Dec.{eqb, ltb}
use lib.ListN.{length, take, drop, get_or, length-append, length-drop, take-append-drop, get_or-append}
use lib.Seq.{take-suc, take_at, drop-drop, get_or-drop}
use Rattle.utf8.specs.Utf8.{Utf8, encode, encode_all}
use Rattle.utf8.specs.Characters.{codes, character, first_char}
use Rattle.utf8.specs.Boundary.{Boundary}
use Rattle.utf8.specs.WhiteSpace.{white_space, is_in, is_white_space}
use Rattle.utf8.proofs.Utf8Laws.{CharAt, char_at, boundary_start, boundary_splits, codes_encode, read}
use Rattle.utf8.specs.declared.utf8.Char.{Char}
use Rattle.measure.specs.Run.{bytes_of, white_space_run, after_run, holds_newline}
use Rattle.measure.specs.Counted.{run_of}
use Rattle.utf8.specs.Ascii.{newline}
use Rattle.measure.specs.Plain.{is_fold, Reach, unmatched, reaches, past_equal, past_run, begins_with, takes_run, plain_reach, measured_or, plain_measure}
use Rattle.measure.proofs.Places.{onward, bytes_cons, run_split, run_goes_on, run_stops}
use Rattle.measure.specs.declared.run.Run.{Run}
use Rattle.measure.proofs.Read.{char_read, codes_end, has_byte}
use Rattle.letters.specs.Letters.{WordByte, LetterByte, Letters}
use Rattle.letters.proofs.Words.{Dark, dark, above_blank, letter_at, solid_at, word_solid, letter_here, fits, rest_of}
use Rattle.utf8.specs.Tests.{clash, by_order, and_left, and_right}
use Rattle.measure.proofs.Reached.{reached, reached_start, reached_more, reached_on}

-- ---- a character of the value, byte by byte

-- the first k bytes from two places on are equal
abbrev pub Equal : List ℕ → ℕ → List ℕ → ℕ → ℕ → Type 0
Equal s i t j k = take k (drop i s) ≡ take k (drop j t)

has_byte_lem : (s : List ℕ) (i b : ℕ) → has_byte s i b ≡ true → (i < length s) × (get_or s i 0 ≡ b)
unfolding has_byte
has_byte_lem s i b e = (ltb-true i (length s) (and_left (ltb i (length s)) (eqb (get_or s i 0) b) e), eqb-true (get_or s i 0) b (and_right (ltb i (length s)) (eqb (get_or s i 0) b) e))

one_more_lem : (s : List ℕ) (i k : ℕ) → i + k < length s → take (k + 1) (drop i s) ≡ take k (drop i s) ++ (get_or s (i + k) 0 ∷ [])
one_more_lem s i k h = rw add-one (take-suc (drop i s) k 0 (let e = length-drop i s in omega arith) ∙ rw (get_or-drop i s k 0))

pub equal_more : (s : List ℕ) (i : ℕ) (t : List ℕ) (j k : ℕ) → Equal s i t j k → j + k < length t → has_byte s (i + k) (get_or t (j + k) 0) ≡ true → Equal s i t j (k + 1)
equal_more s i t j k e h p =
    let q = has_byte_lem s (i + k) (get_or t (j + k) 0) p in
    one_more_lem s i k q.0 ∙ ap (λ (l : List ℕ). l ++ (get_or s (i + k) 0 ∷ [])) e ∙ ap (λ (x : ℕ). take k (drop j t) ++ (x ∷ [])) q.1 ∙ sym (one_more_lem t j k h)

pub equal_all : (s : List ℕ) (i : ℕ) (t : List ℕ) (j : ℕ) {k n : ℕ} → Equal s i t j k → k ≤ n → n ≤ k → Equal s i t j n
equal_all s i t j {k} {n} e h l = let f : k ≡ n = omega arith in subst (λ (m : ℕ). Equal s i t j m) f e

-- a character stands where its bytes stand
bytes_of_char : {s : List ℕ} {i : ℕ} {k : Char} → Utf8 s → CharAt s i k → drop i s ≡ encode k.code ++ encode_all (codes (drop (i + k.len) s))
unfolding encode_all
bytes_of_char {s} {i} u a = codes_encode (boundary_splits u a.start).back ∙ ap encode_all a.forward

-- the bytes of the character c, which stands at i with more after it
module _ (s : List ℕ) (i c : ℕ) (more : List ℕ) (e : drop i s ≡ encode c ++ more) (m : ℕ) (h : m < length (encode c)) where
  byte_within : i + m < length s
  byte_within =
      let n : length s - i ≡ length (encode c) + length more = sym (length-drop i s) ∙ ap length e ∙ length-append (encode c) more in
      omega arith

  byte_in : get_or s (i + m) 0 ≡ get_or (encode c) m 0
  byte_in = sym (get_or-drop i s m 0) ∙ ap (λ (l : List ℕ). get_or l m 0) e ∙ get_or-append (encode c) more 0 m h

module _ {s : List ℕ} {i : ℕ} {t : List ℕ} {j : ℕ} {k : Char} (u : Utf8 s) (b : Boundary s i) (w : Utf8 t) (a : CharAt t j k) where
  pub equal_char : Equal s i t j k.len → CharAt s i k
  equal_char e =
      let c = encode k.code in
      let f : take k.len (drop i s) ≡ c = e ∙ ap (take k.len) (bytes_of_char w a) ∙ take_at c (encode_all (codes (drop (j + k.len) t))) k.len (sym a.size) in
      let g : drop i s ≡ c ++ drop k.len (drop i s) = sym (take-append-drop k.len (drop i s)) ∙ ap (λ (l : List ℕ). l ++ drop k.len (drop i s)) f in
      let n : length s - i ≡ length c + length (drop k.len (drop i s)) = sym (length-drop i s) ∙ ap length g ∙ length-append c (drop k.len (drop i s)) in
      let z = a.size in
      let o = a.some in
      char_read u b (omega arith) (sym (ap first_char g ∙ read k.code (drop k.len (drop i s)) a.scalar ∙ ap (character k.code) (sym z)))

  -- a byte that differs is of another character
  pub other_char : (m : ℕ) → m < k.len → has_byte s (i + m) (get_or t (j + m) 0) ≡ false → begins_with k.code (codes (drop i s)) ≡ false
  unfolding begins_with has_byte encode_all
  other_char m h p = go (codes (drop i s)) refl
    where
      same : (ds : List ℕ) → codes (drop i s) ≡ k.code ∷ ds → has_byte s (i + m) (get_or t (j + m) 0) ≡ true
      same ds e =
          let l : m < length (encode k.code) = let z = a.size in omega arith in
          let d : drop i s ≡ encode k.code ++ encode_all ds = codes_encode (boundary_splits u b).back ∙ ap encode_all e in
          rw (
            lt-ltb (i + m) (length s) (byte_within s i k.code (encode_all ds) d m l),
            byte_in s i k.code (encode_all ds) d m l,
            byte_in t j k.code (encode_all (codes (drop (j + k.len) t))) (bytes_of_char w a) m l,
          )
          (eq-eqb (get_or (encode k.code) m 0) (get_or (encode k.code) m 0) refl)

      go : (cs : List ℕ) → codes (drop i s) ≡ cs → begins_with k.code cs ≡ false
      go [] e = refl
      go (d ∷ ds) e = ne_eqb k.code d (λ q. clash (sym (same ds (e ∙ ap (λ (x : ℕ). x ∷ ds) (sym q))) ∙ p))

-- ---- how far the match reaches

-- `at` bytes were matched, the last equal character among them ends at `end`, and r is the match of what is left
abbrev pub reach_by : ℕ → ℕ → Reach → Reach
reach_by at end unmatched = unmatched
reach_by at end (reaches n) = reaches (reached at end n)

told_start : (r : Reach) → reach_by 0 0 r ≡ r
told_start unmatched = refl
told_start (reaches n) = ap reaches (reached_start n)

told_run : (at end n : ℕ) (r : Reach) → reach_by at end (past_run n r) ≡ reach_by (at + n) end r
told_run at end n unmatched = refl
told_run at end n (reaches zero) = refl
told_run at end n (reaches (suc m)) = ap reaches (reached_more at end (n + suc m) (omega arith) ∙ sym (add_assoc at n (suc m)))

told_equal : (at end n : ℕ) (r : Reach) → 0 < n → reach_by at end (past_equal n r) ≡ reach_by (at + n) (at + n) r
told_equal at end n unmatched h = refl
told_equal at end n (reaches m) h = ap reaches (reached_on at end n m h)

reach_run : (c : ℕ) (cs rest : List ℕ) → takes_run c rest ≡ true → plain_reach (c ∷ cs) rest ≡ past_run (bytes_of (white_space_run rest)) (plain_reach cs (after_run rest))
unfolding plain_reach
reach_run c cs rest e = rw e

reach_equal : (c : ℕ) (cs rest : List ℕ) → takes_run c (c ∷ rest) ≡ false → plain_reach (c ∷ cs) (c ∷ rest) ≡ past_equal (length (encode c)) (plain_reach cs rest)
unfolding plain_reach begins_with
reach_equal c cs rest e = rw (e, eq-eqb c c refl)

reach_none : (c : ℕ) (cs rest : List ℕ) → takes_run c rest ≡ false → begins_with c rest ≡ false → plain_reach (c ∷ cs) rest ≡ unmatched
unfolding plain_reach
reach_none c cs rest e f = rw (e, f)

-- ---- the white space that was last looked at

-- the run at `at` ends at `known` and holds no newline
pub record Known (s : List ℕ) (at known : ℕ) : Type 0 where
  pub ends : at + bytes_of (white_space_run (codes (drop at s))) ≡ known
  pub none : holds_newline (white_space_run (codes (drop at s))) ≡ false

or_right : (a b : Bool) → a || b ≡ false → b ≡ false
or_right true b e = absurd (clash e)
or_right false b e = e

-- a character further on
known_on : {s : List ℕ} {at known : ℕ} {k : Char} → CharAt s at k → Known s at known → at + k.len < known → Known s (at + k.len) known
unfolding encode_all holds_newline
known_on {s} {at} {known} {k} a n h = go (is_white_space k.code) refl
  where
    go : (t : Bool) → is_white_space k.code ≡ t → Known s (at + k.len) known
    go true e =
        let cs = codes (drop (at + k.len) s) in
        let f : white_space_run (codes (drop at s)) ≡ k.code ∷ white_space_run cs = ap white_space_run a.forward ∙ run_goes_on k.code cs e in
        let z : bytes_of (white_space_run (codes (drop at s))) ≡ length (encode k.code) + bytes_of (white_space_run cs) = ap bytes_of f ∙ bytes_cons k.code (white_space_run cs) in
        let g = n.ends in
        let w = a.size in
        record { ends = omega arith; none = or_right (eqb k.code newline) (holds_newline (white_space_run cs)) (sym (ap holds_newline f) ∙ n.none) }
    go false e =
        let f : bytes_of (white_space_run (codes (drop at s))) ≡ 0 = ap bytes_of (ap white_space_run a.forward ∙ run_stops k.code (codes (drop (at + k.len) s)) e) in
        let g = n.ends in
        absurd (omega arith)

-- ---- the loop over the value's characters

-- the value is matched up to v and the rest up to `at`; the last equal character ends at `end`
pub record Matching (rest value : List ℕ) (at end known v : ℕ) : Type 0 where
  pub rest_place : Boundary rest at
  pub value_place_is : Boundary value v
  pub looked : at < known → Known rest at known
  pub same : reach_by at end (plain_reach (codes (drop v value)) (codes (drop at rest))) ≡ plain_reach (codes value) (codes rest)

pub match_begins : {rest value : List ℕ} → Utf8 rest → Utf8 value → Matching rest value 0 0 0 0
match_begins {rest} {value} u w =
    record {
      rest_place = boundary_start u;
      value_place_is = boundary_start w;
      looked = λ h. absurd (omega arith);
      same = told_start (plain_reach (codes value) (codes rest));
    }

-- all of the value is matched
pub match_at-end : {rest value : List ℕ} {at end known v : ℕ} → Matching rest value at end known v → length value ≤ v → measured_or (length value) (reaches end) ≡ plain_measure rest value
unfolding plain_reach plain_measure
match_at-end {rest} {value} {at} {end} {known} {v} r h =
    ap (measured_or (length value)) (sym (ap (λ (cs : List ℕ). reach_by at end (plain_reach cs (codes (drop at rest)))) (codes_end value v h)) ∙ r.same)

-- the run m that was read lies within the text
pub run_fits : {s : List ℕ} {at : ℕ} {m : Run} → Utf8 s → Boundary s at → m ≡ run_of (codes (drop at s)) → at + m.len ≤ length s
unfolding run_of
run_fits {s} {at} u b e = rw e (onward u b (white_space_run (codes (drop at s))) (after_run (codes (drop at s))) (run_split (codes (drop at s)))).boundary.within

module _ {rest value : List ℕ} {at end known v : ℕ} {k : Char} (u : Utf8 rest) (w : Utf8 value) (r : Matching rest value at end known v) (a : CharAt value v k) where
  abbrev left : List ℕ
  left = codes (drop (v + k.len) value)

  -- the next character of the value decides
  decides : {x : Reach} → plain_reach (k.code ∷ left) (codes (drop at rest)) ≡ x → reach_by at end x ≡ plain_reach (codes value) (codes rest)
  decides e = ap (reach_by at end) (sym (ap (λ (cs : List ℕ). plain_reach cs (codes (drop at rest))) a.forward ∙ e)) ∙ r.same

  -- a blank or newline takes a run that holds a newline
  pub match_run : {m : Run} → known ≤ at → m ≡ run_of (codes (drop at rest)) → is_fold k.code ≡ true → m.newline ≡ true → Matching rest value (at + m.len) end known (v + k.len)
  unfolding run_of takes_run
  match_run l e f g =
      let cs = codes (drop at rest) in
      let o = onward u r.rest_place (white_space_run cs) (after_run cs) (run_split cs) in
      let g' : holds_newline (white_space_run cs) ≡ true = rw e at g in
      let t : takes_run k.code cs ≡ true = rw (f, g') in
      let n = bytes_of (white_space_run cs) in
      rw e (record {
        rest_place = o.boundary;
        value_place_is = a.next;
        looked = λ h. absurd (omega arith);
        same = ap (λ (x : List ℕ). reach_by (at + n) end (plain_reach left x)) o.follow ∙ sym (told_run at end n (plain_reach left (after_run cs))) ∙ decides (reach_run k.code left cs t);
      })

-- the next character of the value takes no run, so it must be equal
pub record Comparing (rest value : List ℕ) (at end known v : ℕ) (k : Char) : Type 0 where
  pub matching : Matching rest value at end known v
  pub no_run : takes_run k.code (codes (drop at rest)) ≡ false

and_false : (t : Bool) → t && false ≡ false
and_false true = refl
and_false false = refl

module _ {rest value : List ℕ} {at end known v : ℕ} {k : Char} (r : Matching rest value at end known v) where
  -- the white space here was looked at before
  pub compare_known : at < known → Comparing rest value at end known v k
  unfolding takes_run
  compare_known h = record { matching = r; no_run = rw (r.looked h).none (and_false (is_fold k.code)) }

  -- it is no blank and no newline
  pub compare_other : is_fold k.code ≡ false → Comparing rest value at end known v k
  unfolding takes_run
  compare_other e = record { matching = r; no_run = rw e }

  -- the run m here holds no newline
  pub compare_looked : {m : Run} → m ≡ run_of (codes (drop at rest)) → m.newline ≡ false → Comparing rest value at end (at + m.len) v k
  unfolding takes_run run_of
  compare_looked e f =
      let n : holds_newline (white_space_run (codes (drop at rest))) ≡ false = rw e at f in
      rw e (record {
        matching = record { rest_place = r.rest_place; value_place_is = r.value_place_is; looked = λ h. record { ends = refl; none = n }; same = r.same };
        no_run = rw n (and_false (is_fold k.code));
      })

module _ {rest value : List ℕ} {at end known v : ℕ} {k : Char} (u : Utf8 rest) (w : Utf8 value) (r : Comparing rest value at end known v k) (a : CharAt value v k) where
  -- it is equal
  pub match_equal : Equal rest at value v k.len → Matching rest value (at + k.len) (at + k.len) known (v + k.len)
  match_equal e =
      let m = r.matching in
      let b = equal_char u m.rest_place w a e in
      let xs = codes (drop (v + k.len) value) in
      let ys = codes (drop (at + k.len) rest) in
      let n : takes_run k.code (k.code ∷ ys) ≡ false = sym (ap (takes_run k.code) b.forward) ∙ r.no_run in
      record {
        rest_place = b.next;
        value_place_is = a.next;
        looked = λ h. known_on b (m.looked (let z = b.some in omega arith)) h;
        same =
            sym (told_equal at end k.len (plain_reach xs ys) a.some)
            ∙ ap (λ (l : ℕ). reach_by at end (past_equal l (plain_reach xs ys))) a.size
            ∙ decides u w m a (ap (plain_reach (k.code ∷ xs)) b.forward ∙ reach_equal k.code xs ys n);
      }

  -- a byte differs
  pub match_fails : (j : ℕ) → j < k.len → has_byte rest (at + j) (get_or value (v + j) 0) ≡ false → measured_or (length value) unmatched ≡ plain_measure rest value
  unfolding plain_measure
  match_fails j h p =
      let m = r.matching in
      ap (measured_or (length value)) (decides u w m a (reach_none k.code (codes (drop (v + k.len) value)) (codes (drop at rest)) r.no_run (other_char u m.rest_place w a j h p)))

-- ---- over letters

-- bytes that are equal one by one
take_same : (x y : List ℕ) (k : ℕ) → k ≤ length x → k ≤ length y → ((j : ℕ) → j < k → get_or x j 0 ≡ get_or y j 0) → take k x ≡ take k y
take_same x y zero a b e = refl
take_same [] y (suc k) a b e = absurd (omega arith)
take_same (c ∷ x) [] (suc k) a b e = absurd (omega arith)
take_same (c ∷ x) (d ∷ y) (suc k) a b e =
    let h : c ≡ d = e 0 (omega arith) in
    let t = take_same x y k (omega arith) (omega arith) (λ j l. e (suc j) (omega arith)) in
    ap (λ (z : ℕ). z ∷ take k x) h ∙ ap (λ (z : List ℕ). d ∷ z) t

equal_letters : (rest value : List ℕ) (at v n k : ℕ) → Letters (drop at rest) (drop v value) n → k ≤ n → Equal rest at value v k
equal_letters rest value at v n k l h =
    let a = l.run.in_source in
    let b = l.run.in_value in
    take_same (drop at rest) (drop v value) k (omega arith) (omega arith) (λ j g. (l.run.each j (omega arith)).0)

-- a character that is no white space takes no run
dark_compares : {rest value : List ℕ} {at end known v : ℕ} {k : Char} → Matching rest value at end known v → Dark k.code → Comparing rest value at end known v k
unfolding is_fold
dark_compares {k = k} r d = let h = above_blank k.code d in compare_other r (rw (ne_eqb k.code 32 (λ e. omega arith), ne_eqb k.code 10 (λ e. omega arith)))

-- and a blank none before a word
blank_run_lem : {rest : List ℕ} {at : ℕ} {k : Char} → Utf8 rest → CharAt rest at k → k ≡ character 32 1 → WordByte (get_or rest (at + 1) 0) (get_or rest (at + 2) 0) → holds_newline (white_space_run (codes (drop at rest))) ≡ false
unfolding holds_newline is_white_space is_in white_space
blank_run_lem {rest} {at} {k} u a e w =
    let n : k.len ≡ 1 = ap (λ (x : Char). x.len) e in
    let c : k.code ≡ 32 = ap (λ (x : Char). x.code) e in
    let place : at + k.len ≡ at + 1 = ap (λ (m : ℕ). at + m) n in
    let b : Boundary rest (at + 1) = subst (λ (m : ℕ). Boundary rest m) place a.next in
    let o = w.above in
    let next = char_at u b (byte_inside rest (at + 1) (omega arith)) in
    let word : WordByte (get_or rest (at + 1) 0) (get_or rest (at + 1 + 1) 0) = subst (λ (m : ℕ). WordByte (get_or rest (at + 1) 0) (get_or rest m 0)) (further at) w in
    let none = run_stops _ (codes (drop (at + 1 + (first_char (drop (at + 1) rest)).len) rest)) (dark _ (solid_at next (word_solid _ _ _ word))) in
    let f : codes (drop at rest) ≡ 32 ∷ codes (drop (at + 1) rest) = a.forward ∙ ap (λ (x : ℕ). x ∷ codes (drop (at + k.len) rest)) c ∙ ap (λ (m : ℕ). 32 ∷ codes (drop m rest)) place in
    let g : white_space_run (codes (drop at rest)) ≡ 32 ∷ [] = ap white_space_run f ∙ run_goes_on 32 (codes (drop (at + 1) rest)) refl ∙ ap (λ (l : List ℕ). 32 ∷ l) (ap white_space_run next.forward ∙ none) in
    ap holds_newline g
  where
    further : (m : ℕ) → m + 2 ≡ m + 1 + 1
    further m = omega arith

    byte_inside : (l : List ℕ) (i : ℕ) → 0 < get_or l i 0 → i < length l
    byte_inside [] i h = absurd (omega arith)
    byte_inside (x ∷ l) zero h = omega arith
    byte_inside (x ∷ l) (suc i) h = let r = byte_inside l i h in omega arith

blank_compares : {rest value : List ℕ} {at end known v : ℕ} {k : Char} → Utf8 rest → Matching rest value at end known v → CharAt rest at k → k ≡ character 32 1 → WordByte (get_or rest (at + 1) 0) (get_or rest (at + 2) 0) → Comparing rest value at end known v k
unfolding takes_run
blank_compares {k = k} u r a e w = record { matching = r; no_run = rw (blank_run_lem u a e w) (and_false (is_fold k.code)) }

letter_compares : {rest value : List ℕ} {at end known v : ℕ} {k : Char} → Utf8 rest → Matching rest value at end known v → CharAt rest at k → LetterByte (get_or rest at 0) (get_or rest (at + 1) 0) (get_or rest (at + 2) 0) → Comparing rest value at end known v k
letter_compares u r a l = ⊎_elim (λ d. dark_compares r d) (λ x. blank_compares u r a x.1 x.2) (letter_at a l)

match-some :
    (m : ℕ) (rest value : List ℕ) (at end known v n : ℕ) → Utf8 rest → Utf8 value → n ≤ m → 0 < n → Matching rest value at end known v → Letters (drop at rest) (drop v value) n →
    Matching rest value (at + n) (at + n) known (v + n)
match-some zero rest value at end known v n u w b h r l = absurd (omega arith)
match-some (suc m) rest value at end known v n u w b h r l = by (fits rest (drop v value) at n l h a) (λ j. match-some m rest value (at + j) (at + j) known (v + j) (n - j) u w)
  where
    k : Char
    k = first_char (drop at rest)

    a : CharAt rest at k
    a = char_at u r.rest_place (let i = l.run.in_source in let d = length-drop at rest in omega arith)

    Rest : Type 0
    Rest = (j : ℕ) → n - j ≤ m → 0 < n - j → Matching rest value (at + j) (at + j) known (v + j) → Letters (drop (at + j) rest) (drop (v + j) value) (n - j) → Matching rest value (at + j + (n - j)) (at + j + (n - j)) known (v + j + (n - j))

    by : k.len ≤ n → Rest → Matching rest value (at + n) (at + n) known (v + n)
    by f more =
        let o = a.some in
        let q = equal_letters rest value at v n k.len l f in
        let c = equal_char w r.value_place_is u a (sym q) in
        let g = match_equal u w (letter_compares u r a (letter_here rest (drop v value) at n l h)) c q in
        let tail = subst (λ (x : List ℕ). Letters (drop (at + k.len) rest) x (n - k.len)) (drop-drop k.len v value) (rest_of rest (drop v value) at n l h k.len f) in
        by_order k.len n
        (λ lt.
        let ea : at + k.len + (n - k.len) ≡ at + n = omega arith in
        let ev : v + k.len + (n - k.len) ≡ v + n = omega arith in
        subst (λ (x : ℕ). Matching rest value (at + n) (at + n) known x) ev (subst (λ (x : ℕ). Matching rest value x x known (v + k.len + (n - k.len))) ea (more k.len (omega arith) (omega arith) g tail)))
        (λ le. let e : k.len ≡ n = omega arith in subst (λ (x : ℕ). Matching rest value (at + x) (at + x) known (v + x)) e g)

-- any letters after an equal character
pub match_letters : {rest value : List ℕ} {at known v n : ℕ} → Utf8 rest → Utf8 value → Matching rest value at at known v → Letters (drop at rest) (drop v value) n → Matching rest value (at + n) (at + n) known (v + n)
match_letters {rest} {value} {at} {known} {v} {n} u w r l =
    by_order 0 n
    (λ lt. match-some n rest value at at known v n u w (omega arith) lt r l)
    (λ le.
    let ea : at ≡ at + n = omega arith in
    let ev : v ≡ v + n = omega arith in
    subst (λ (x : ℕ). Matching rest value (at + n) (at + n) known x) ev (subst (λ (x : ℕ). Matching rest value x x known v) ea r))
