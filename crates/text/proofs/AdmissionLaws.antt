-- An admitted text is within the limit, UTF-8, and ASCII where the answer says so.
use Rattle.std.specs.Prelude.{◌≡◌, refl, Bool, true, false, ◌&&◌, ◌||◌, cond, List, ℕ, length, Ok, Err}
use Rattle.std.proofs.Common.{ltb-false}
use Rattle.utf8.specs.Utf8.{is_ascii}
use Rattle.utf8.specs.Characters.{is_utf8}
use Rattle.utf8.proofs.Utf8Laws.{utf8_sound}
use Rattle.utf8.specs.Tests.{and_left, and_right}
use Rattle.text.specs.Admission.{text_limit, is_too_long, admission, admission_of_both}
use Rattle.text.specs.Admitted.{AdmittedText}
use Rattle.text.specs.declared.admission.TextError.TheVariants.{TooLong, NotUtf8}

-- the tests that lead to an admission
record Passed (l u a x : Bool) : Type 0 where
  short : l ≡ false
  whole : u ≡ true
  told : x ≡ a

passed : (l u a x : Bool) → cond l (Err TooLong) (cond u (Ok a) (Err NotUtf8)) ≡ Ok x → Passed l u a x
passed true u a x e = record { short = cc; whole = cc; told = cc }
passed false true a x e = record { short = refl; whole = refl; told = cc }
passed false false a x e = record { short = refl; whole = cc; told = cc }

admitted : (s : List ℕ) → is_too_long s ≡ false → is_utf8 s ≡ true → AdmittedText s
admitted s h u = record { within = ltb-false text_limit (length s) h; utf8 = utf8_sound s u }

or_left : (a b : Bool) → a || b ≡ false → a ≡ false
or_left true b e = e
or_left false b e = refl

or_right : (a b : Bool) → a || b ≡ false → b ≡ false
or_right true b e = cc
or_right false b e = e

module _ (s : List ℕ) (x : Bool) (e : admission s ≡ Ok x) where
  tests : Passed (is_too_long s) (is_utf8 s) (is_ascii s) x
  unfolding admission
  tests = passed (is_too_long s) (is_utf8 s) (is_ascii s) x e

  pub admitted_text : AdmittedText s
  admitted_text = admitted s tests.short tests.whole

  pub admitted_ascii : x ≡ is_ascii s
  admitted_ascii = tests.told

module _ (s v : List ℕ) (x : Bool) (e : admission_of_both s v ≡ Ok x) where
  both_tests : Passed (is_too_long s || is_too_long v) (is_utf8 s && is_utf8 v) (is_ascii s) x
  unfolding admission_of_both
  both_tests = passed (is_too_long s || is_too_long v) (is_utf8 s && is_utf8 v) (is_ascii s) x e

  pub both_admitted_text : AdmittedText s
  both_admitted_text = admitted s (or_left (is_too_long s) (is_too_long v) both_tests.short) (and_left (is_utf8 s) (is_utf8 v) both_tests.whole)

  pub both_admitted_value : AdmittedText v
  both_admitted_value = admitted v (or_right (is_too_long s) (is_too_long v) both_tests.short) (and_right (is_utf8 s) (is_utf8 v) both_tests.whole)

  pub both_ascii : x ≡ is_ascii s
  both_ascii = both_tests.told
