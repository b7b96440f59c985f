-- The answer on a text and a value, from the answer on the text.
use Rattle.std.specs.Prelude.{◌≡◌, refl, Bool, true, false, ◌&&◌, ◌||◌, cond, List, ℕ, Result, Ok, Err}
use Rattle.utf8.specs.Utf8.{is_ascii}
use Rattle.utf8.specs.Characters.{is_utf8}
use Rattle.text.specs.Admission.{is_too_long, admission, admission_of_both}
use Rattle.text.specs.declared.admission.TextError.{TextError}
use Rattle.text.specs.declared.admission.TextError.TheVariants.{TooLong, NotUtf8}

-- the value's own tests decide where the text is admitted
admitted : (l u w a x : Bool) → cond l (Err TooLong) (cond u (Ok a) (Err NotUtf8)) ≡ Ok x
    → cond (l || false) (Err TooLong) (cond (u && w) (Ok a) (Err NotUtf8)) ≡ cond w (Ok x) (Err NotUtf8)
admitted true u w a x e = cc
admitted false true true a x e = e
admitted false true false a x e = refl
admitted false false w a x e = cc

refused : (l u w a : Bool) (x : TextError) → cond l (Err TooLong) (cond u (Ok a) (Err NotUtf8)) ≡ Err x
    → cond (l || false) (Err TooLong) (cond (u && w) (Ok a) (Err NotUtf8)) ≡ Err x
refused true u w a x e = e
refused false true w a x e = cc
refused false false w a x e = e

long_value : (l : Bool) (x : Result Bool TextError) → cond (l || true) (Err TooLong) x ≡ Err TooLong
long_value true x = refl
long_value false x = refl

module _ (s v : List ℕ) where
  pub both_long : is_too_long v ≡ true → admission_of_both s v ≡ Err TooLong
  unfolding admission_of_both
  both_long h = rw h (long_value (is_too_long s) _)

  pub both_admitted : (x : Bool) → is_too_long v ≡ false → admission s ≡ Ok x → admission_of_both s v ≡ cond (is_utf8 v) (Ok x) (Err NotUtf8)
  unfolding admission admission_of_both
  both_admitted x h e = rw h (admitted (is_too_long s) (is_utf8 s) (is_utf8 v) (is_ascii s) x e)

  -- where the text is not admitted, neither are both
  pub both_refused : (x : TextError) → is_too_long v ≡ false → admission s ≡ Err x → admission_of_both s v ≡ Err x
  unfolding admission admission_of_both
  both_refused x h e = rw h (refused (is_too_long s) (is_utf8 s) (is_utf8 v) (is_ascii s) x e)
