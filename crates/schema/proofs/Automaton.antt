-- The automaton is right. Bytes that every range of the rows holds both or neither of have the same derivatives, so one byte
-- for each symbol does, `samples`. That a table of the code steps from what a state awaits to its derivatives is then one
-- computed test of the table as it stands in the code (`derives`); and that from each state a byte leads to one of the
-- states is another, which knows no table (`moved`).
use mathlib.Core.Path.{◌≡◌, refl, sym, ◌∙◌, ap, ap₂}
use mathlib.Core.Bool.{Bool, true, false, ◌&&◌, cond, beq}
use mathlib.Core.List.{List, [], ◌∷◌, map}
use Prim.Native.Nat.{ℕ, zero, suc, ◌-◌, ◌≤◌, ◌<◌}
use Prim.Native.String.{String}
use native.Mathlib.Decide.{ℕ_discrete}
use borrow.Author.Tests.{leb-true, ltb-true}
use lib.Dec.{T, leb, ltb}
use lib.ListN.{length, get_or}
use Rattle.utf8.specs.Tests.{clash, and_left, and_right}
use Rattle.utf8.proofs.Table.{all, all_at}
use Rattle.utf8.specs.Ascii.{bytes}
use Rattle.schema.specs.Regex.{Regex, none, empty, range, seq, alt, star, Regex-discrete}
use Rattle.schema.specs.Matcher.{is_none, is_empty, join, union, nullable, derivative}
use Rattle.schema.specs.Standard.{table}
use Rattle.schema.specs.Automaton.{all_rows, texts, state_count, awaited_after, states, awaits, symbol_of, entry_at}
use Rattle.schema.proofs.Bools.{is_true, and_both, beq_is}
use Rattle.schema.proofs.Lists.{every, every_at, any_entry, found, placed, placed_from_0, pairwise, pairwise-length, pairwise_at, pairwise_same}

-- ---- bytes of one symbol: every range of the rows holds both or neither, so that their derivatives are the same
abbrev alike : ℕ → ℕ → Regex → Bool
alike b c none = true
alike b c empty = true
alike b c (range lo hi) = beq (leb lo b && leb b hi) (leb lo c && leb c hi)
alike b c (seq r q) = alike b c r && alike b c q
alike b c (alt r q) = alike b c r && alike b c q
alike b c (star r) = alike b c r

module _ (b c : ℕ) where
  abbrev Alike : Regex → Type 0
  Alike r = alike b c r ≡ true

  abbrev AlikeRows : List Regex → Type 0
  AlikeRows rs = every (alike b c) rs ≡ true

  alike_cond : (t : Bool) (r q : Regex) → Alike r → Alike q → Alike (cond t r q)
  alike_cond true r q h k = h
  alike_cond false r q h k = k

  alike_join : (r q : Regex) → Alike r → Alike q → Alike (join r q)
  alike_join r q h k = alike_cond (is_none r) none (cond (is_empty r) q (seq r q)) refl (alike_cond (is_empty r) q (seq r q) k (and_both h k))

  alike_union : (r q : Regex) → Alike r → Alike q → Alike (union r q)
  alike_union r q h k = alike_cond (is_none r) q (cond (is_none q) r (alt r q)) k (alike_cond (is_none q) r (alt r q) h (and_both h k))

  alike_derivative : (d : ℕ) (r : Regex) → Alike r → Alike (derivative d r)
  unfolding derivative
  alike_derivative d none h = refl
  alike_derivative d empty h = refl
  alike_derivative d (range lo hi) h = alike_cond (leb lo d && leb d hi) empty none refl refl
  alike_derivative d (seq r q) h =
      let x = and_left (alike b c r) (alike b c q) h in
      let y = and_right (alike b c r) (alike b c q) h in
      let j = alike_join (derivative d r) q (alike_derivative d r x) y in
      alike_cond (nullable r) (union (join (derivative d r) q) (derivative d q)) (join (derivative d r) q)
      (alike_union (join (derivative d r) q) (derivative d q) j (alike_derivative d q y)) j
  alike_derivative d (alt r q) h =
      alike_union (derivative d r) (derivative d q) (alike_derivative d r (and_left (alike b c r) (alike b c q) h))
      (alike_derivative d q (and_right (alike b c r) (alike b c q) h))
  alike_derivative d (star r) h = alike_join (derivative d r) (star r) (alike_derivative d r h) h

  same_derivative : (r : Regex) → Alike r → derivative b r ≡ derivative c r
  unfolding derivative
  same_derivative none h = refl
  same_derivative empty h = refl
  same_derivative (range lo hi) h = ap (λ (t : Bool). cond t empty none) (beq_is (leb lo b && leb b hi) (leb lo c && leb c hi) h)
  same_derivative (seq r q) h =
      rw (same_derivative r (and_left (alike b c r) (alike b c q) h), same_derivative q (and_right (alike b c r) (alike b c q) h))
  same_derivative (alt r q) h =
      rw (same_derivative r (and_left (alike b c r) (alike b c q) h), same_derivative q (and_right (alike b c r) (alike b c q) h))
  same_derivative (star r) h = rw (same_derivative r h)

  same_rows_lem : (rs : List Regex) → AlikeRows rs → map (derivative b) rs ≡ map (derivative c) rs
  same_rows_lem [] h = refl
  same_rows_lem (r ∷ rs) h =
      ap₂ {A = Regex} ◌∷◌ (same_derivative r (and_left (alike b c r) (every (alike b c) rs) h))
      (same_rows_lem rs (and_right (alike b c r) (every (alike b c) rs) h))

  alike_rows : (d : ℕ) (rs : List Regex) → AlikeRows rs → AlikeRows (map (derivative d) rs)
  alike_rows d [] h = refl
  alike_rows d (r ∷ rs) h =
      and_both (alike_derivative d r (and_left (alike b c r) (every (alike b c) rs) h))
      (alike_rows d rs (and_right (alike b c r) (every (alike b c) rs) h))

  alike_after : (s : List ℕ) (rs : List Regex) → AlikeRows rs → AlikeRows (awaited_after rs s)
  alike_after [] rs h = h
  alike_after (d ∷ s) rs h = alike_after s (map (derivative d) rs) (alike_rows d rs h)

  alike_among : (ws : List String) (q : ℕ) → AlikeRows all_rows → AlikeRows (get_or (map (λ w. awaited_after all_rows (bytes w)) ws) q [])
  alike_among [] q h = refl
  alike_among (w ∷ ws) zero h = alike_after (bytes w) all_rows h
  alike_among (w ∷ ws) (suc q) h = alike_among ws q h

  same_awaited : (q : ℕ) → AlikeRows all_rows → map (derivative b) (awaits q) ≡ map (derivative c) (awaits q)
  unfolding awaits
  same_awaited q h = same_rows_lem (awaits q) (alike_among texts q h)

-- ---- expressions that are the same
abbrev is_yes : {A : Type 0} → Dec A → Bool
is_yes (yes p) = true
is_yes (no p) = false

from_yes : {A : Type 0} (d : Dec A) → is_yes d ≡ true → A
from_yes (yes p) e = p
from_yes (no p) e = absurd (clash (sym e))

abbrev same_regex : Regex → Regex → Bool
same_regex r q = is_yes (Regex-discrete ℕ_discrete r q)

abbrev pub same_rows : List Regex → List Regex → Bool
same_rows rs qs = pairwise same_regex rs qs

pub same_rows_is : (rs qs : List Regex) → same_rows rs qs ≡ true → rs ≡ qs
same_rows_is rs qs e = pairwise_same same_regex (λ r q h. from_yes (Regex-discrete ℕ_discrete r q) h) rs qs e

-- ---- a byte for each symbol
unfoldable pub samples : List ℕ
samples = bytes "!-+.018oxabefABEFiIlLnNrRsStTuU~"

sample_count : length samples ≡ 32
unfolding samples
sample_count = refl

pub state_count_lem : length states ≡ state_count
unfolding texts
state_count_lem = refl

-- ---- the code's tables
-- a symbol's letter, whose sample is like the byte
abbrev symbol_right : ℕ → ℕ → Bool
symbol_right b x = leb 46 x && (ltb (x - 46) 32 && every (alike b (get_or samples (x - 46) 0)) all_rows)

-- a state's letter, whose rows are these
abbrev state_right : List (List Regex) → List Regex → ℕ → Bool
state_right qs rs x = leb 44 x && (ltb (x - 44) state_count && same_rows (get_or qs (x - 44) []) rs)

abbrev line_right : List (List Regex) → List Regex → List ℕ → Bool
line_right qs rs line = pairwise (λ c x. state_right qs (map (derivative c) rs) x) samples line

abbrev lines_right : List (List Regex) → List (List ℕ) → Bool
lines_right qs next = pairwise (line_right qs) qs next

-- the two tests
abbrev pub SymbolsRight : List ℕ → Type 0
SymbolsRight symbols = placed symbol_right 0 symbols ≡ true

abbrev pub NextRight : List (List ℕ) → Type 0
NextRight next = lines_right states next ≡ true

module _ (symbols : List ℕ) (next : List (List ℕ)) (count : length symbols ≡ 256) (s : SymbolsRight symbols) (n : NextRight next) where
  module _ (b : ℕ) (h : b < 256) where
    symbol_right_lem : symbol_right b (get_or symbols b 0) ≡ true
    symbol_right_lem = placed_from_0 symbol_right 0 symbols s b (rw count h)

    pub symbol_from : 46 ≤ get_or symbols b 0
    symbol_from = leb-true 46 (get_or symbols b 0) (and_left (leb 46 (get_or symbols b 0)) _ symbol_right_lem)

    pub symbol_low : symbol_of symbols b < 32
    symbol_low =
        ltb-true (symbol_of symbols b) 32
        (and_left (ltb (symbol_of symbols b) 32) _ (and_right (leb 46 (get_or symbols b 0)) _ symbol_right_lem))

    sample_like : every (alike b (get_or samples (symbol_of symbols b) 0)) all_rows ≡ true
    sample_like = and_right (ltb (symbol_of symbols b) 32) _ (and_right (leb 46 (get_or symbols b 0)) _ symbol_right_lem)

    module _ (q : ℕ) (l : q < state_count) where
      entry_right : state_right states (map (derivative (get_or samples (symbol_of symbols b) 0)) (awaits q)) (entry_at symbols next q b) ≡ true
      unfolding awaits
      entry_right =
          pairwise_at (λ (c x : ℕ). state_right states (map (derivative c) (awaits q)) x) 0 0 samples (get_or next q [])
          (pairwise_at (line_right states) [] [] states next n q (rw state_count_lem l)) (symbol_of symbols b) (rw sample_count symbol_low)

      pub entry_from : 44 ≤ entry_at symbols next q b
      entry_from = leb-true 44 (entry_at symbols next q b) (and_left (leb 44 (entry_at symbols next q b)) _ entry_right)

      pub state_low : entry_at symbols next q b - 44 < state_count
      state_low =
          ltb-true (entry_at symbols next q b - 44) state_count
          (and_left (ltb (entry_at symbols next q b - 44) state_count) _ (and_right (leb 44 (entry_at symbols next q b)) _ entry_right))

      pub derives : awaits (entry_at symbols next q b - 44) ≡ map (derivative b) (awaits q)
      unfolding awaits
      derives =
          same_rows_is (awaits (entry_at symbols next q b - 44)) (map (derivative (get_or samples (symbol_of symbols b) 0)) (awaits q))
          (and_right (ltb (entry_at symbols next q b - 44) state_count) _ (and_right (leb 44 (entry_at symbols next q b)) _ entry_right))
          ∙ sym (same_awaited b (get_or samples (symbol_of symbols b) 0) q sample_like)

  pub line_count : length next ≡ state_count
  line_count = sym (pairwise-length (line_right states) states next n) ∙ state_count_lem

-- ---- from each state to one of the states
closed_under : List (List Regex) → Bool
closed_under qs = every (λ rs. every (λ c. any_entry (same_rows (map (derivative c) rs)) qs) samples) qs

closed : closed_under states ≡ true
unfolding closed_under table texts samples derivative nullable ℕ_discrete
closed = refl

all_sampled : T (all 256 (λ b. any_entry (λ c. every (alike b c) all_rows) samples))
unfolding table samples
all_sampled = tt

pub record Moved (q b : ℕ) : Type 0 where
  pub to : ℕ
  pub low : to < state_count
  pub derives : awaits to ≡ map (derivative b) (awaits q)

pub moved : (q b : ℕ) → q < state_count → b < 256 → Moved q b
unfolding closed_under awaits
moved q b l h =
    let sampled = all_at 256 (λ b. any_entry (λ c. every (alike b c) all_rows) samples) all_sampled b h in
    let like = found (λ (c : ℕ). every (alike b c) all_rows) 0 samples (is_true (any_entry (λ (c : ℕ). every (alike b c) all_rows) samples) sampled) in
    let c = get_or samples like.at 0 in
    let line = every_at (λ (rs : List Regex). every (λ (c : ℕ). any_entry (same_rows (map (derivative c) rs)) states) samples) [] states closed q (rw state_count_lem l) in
    let there =
    found (same_rows (map (derivative c) (awaits q))) [] states
    (every_at (λ (c : ℕ). any_entry (same_rows (map (derivative c) (awaits q))) states) 0 samples line like.at like.low) in
    record {
      to = there.at;
      low = rw state_count_lem at there.low;
      derives = sym (same_awaited b c q like.is ∙ same_rows_is (map (derivative c) (awaits q)) (awaits there.at) there.is);
    }
