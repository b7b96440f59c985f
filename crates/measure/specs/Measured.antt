-- What "measured" says of a length (02, (b)), told without the measures: a plain scalar is measured exactly where every character of its
-- value is matched in turn, and its span then ends after the last one that is equal; a quoted one exactly where a closing mark stands where
-- the rules say; a block always. proofs/MeasuredLaws.antt proves it.
use Rattle.std.specs.Prelude.{◌≡◌, ◌⊎◌, Bool, true, false, List, [], ◌∷◌, ◌++◌, ℕ, ◌+◌, ◌≤◌, ◌<◌, length, drop, get_or}
use Rattle.utf8.specs.Characters.{codes}
use Rattle.utf8.specs.Ascii.{single_quote, double_quote}
use Rattle.measure.specs.Run.{bytes_of, after_run}
use Rattle.measure.specs.Plain.{begins_with, takes_run}
use Rattle.measure.specs.Quoted.{passed_together}
use Rattle.measure.specs.Scalar.{plain, single_quoted, double_quoted, literal}

-- ---- plain

-- every character of the value is matched in turn: a blank or newline by the run that it takes, any other by an equal character
unfoldable pub Matched : List ℕ → List ℕ → Type 0
Matched [] rest = Unit {0}
Matched (c ∷ cs) rest =
    ((takes_run c rest ≡ true) × Matched cs (after_run rest))
    ⊎ ((takes_run c rest ≡ false) × (begins_with c rest ≡ true) × Matched cs (drop 1 rest))

-- the characters cs, of which the first n bytes are measured for the value vs: they end after a character that is equal in the value, and after
-- it the value has nothing more, or one blank or newline that takes a run
pub record EndsEqual (vs cs : List ℕ) (n : ℕ) : Type 0 where
  pub before : List ℕ
  pub last : ℕ
  pub after : List ℕ
  pub value_before : List ℕ
  pub value_after : List ℕ
  pub text_is : cs ≡ before ++ last ∷ after
  pub value_is : vs ≡ value_before ++ last ∷ value_after
  pub span_is : n ≡ bytes_of (before ++ last ∷ [])
  pub no_more : (value_after ≡ []) ⊎ ((c : ℕ) × (value_after ≡ c ∷ []) × (takes_run c after ≡ true))

-- ---- quoted

-- whether the bytes begin with two that are passed together
unfoldable pub begins_pair : ℕ → List ℕ → Bool
begins_pair quote [] = false
begins_pair quote (a ∷ []) = false
begins_pair quote (a ∷ b ∷ s) = passed_together quote a b

-- from inside a quoted scalar on: bytes that are passed, two together for each `true` and one for each `false`, then the closing mark (S6)
unfoldable pub Closed : ℕ → List ℕ → List Bool → Type 0
Closed quote s [] = (begins_pair quote s ≡ false) × (0 < length s) × (get_or s 0 0 ≡ quote)
Closed quote s (true ∷ ts) = (begins_pair quote s ≡ true) × Closed quote (drop 2 s) ts
Closed quote s (false ∷ ts) = (begins_pair quote s ≡ false) × (0 < length s) × (get_or s 0 0 ≡ quote → ⊥) × Closed quote (drop 1 s) ts

unfoldable pub bytes_passed : List Bool → ℕ
bytes_passed [] = 0
bytes_passed (true ∷ ts) = 2 + bytes_passed ts
bytes_passed (false ∷ ts) = 1 + bytes_passed ts

-- n bytes from an opening mark through a closing one
pub record Marked (rest : List ℕ) (quote n : ℕ) : Type 0 where
  pub some : 0 < length rest
  pub opening : get_or rest 0 0 ≡ quote
  pub passed : List Bool
  pub closed : Closed quote (drop 1 rest) passed
  pub size : n ≡ bytes_passed passed + 2

-- ---- document 02's sentence

pub record JustIf (t : Bool) (p : Type 0) : Type 0 where
  pub to : t ≡ true → p
  pub from : p → t ≡ true

-- t says whether a scalar of this style that stands at the start of `rest` is measured
pub record SaysMeasured (rest value : List ℕ) (style : ℕ) (t : Bool) : Type 0 where
  -- plain, when the whole value was matched
  pub in_plain : style ≡ plain → JustIf t (Matched (codes value) (codes rest))
  -- quoted, when opening and closing mark were found
  pub in_single_quotes : style ≡ single_quoted → JustIf t ((n : ℕ) × Marked rest single_quote n)
  pub in_double_quotes : style ≡ double_quoted → JustIf t ((n : ℕ) × Marked rest double_quote n)
  -- block always
  pub in_blocks : literal ≤ style → t ≡ true
