-- Equal bytes and standard tags, as the tests of the code tell them.
use mathlib.Core.Path.{◌≡◌, refl, sym, ◌∙◌, ap}
use mathlib.Core.Bool.{Bool, true, false, ◌&&◌, cond}
use mathlib.Core.List.{List, [], ◌∷◌}
use Prim.Native.Nat.{ℕ, ◌+◌}
use borrow.Author.Tests.{eqb-true}
use denote.Bor.{Bor}
use native.Mathlib.Omega.{arith}
use lib.Dec.{eqb}
use lib.ListN.{length, take, drop}
use lib.Pointwise.{pointwise}
use Rattle.std.specs.Prelude.{Option, Some, None, MatchOption, option_copied, option_map}
use Rattle.utf8.specs.Ascii.{bytes, same_bytes}
use Rattle.utf8.specs.Tests.{clash, and_left, and_right}
use Rattle.schema.specs.Tag.{standard_handle, standard_tag_suffix, tagged_as, tagged_schema, by_name, untagged, resolve_scalar, parts_of}
use Rattle.schema.specs.declared.plain.Resolved.TheVariants.{Str}
use Rattle.schema.specs.declared.tag.Tag.{Tag}

pub same_bytes_lem : (s t : List ℕ) → same_bytes s t ≡ true → s ≡ t
unfolding same_bytes
same_bytes_lem [] [] e = refl
same_bytes_lem [] (c ∷ t) e = absurd (clash (sym e))
same_bytes_lem (b ∷ s) [] e = absurd (clash (sym e))
same_bytes_lem (b ∷ s) (c ∷ t) e =
    let h : b ≡ c = eqb-true b c (and_left (eqb b c) (same_bytes s t) e) in
    let k : s ≡ t = same_bytes_lem s t (and_right (eqb b c) (same_bytes s t) e) in
    cc

-- the library's test of two slices answers `same_bytes`
pub pointwise_is : (s t : List ℕ) → pointwise eqb s t ≡ same_bytes s t
unfolding same_bytes
pointwise_is [] [] = refl
pointwise_is [] (c ∷ t) = refl
pointwise_is (b ∷ s) [] = refl
pointwise_is (b ∷ s) (c ∷ t) = ap (λ (r : Bool). eqb b c && r) (pointwise_is s t)

equal : (s t : List ℕ) → pointwise eqb s t ≡ true → s ≡ t
equal s t e = same_bytes_lem s t (sym (pointwise_is s t) ∙ e)

unequal : (s t : List ℕ) → pointwise eqb s t ≡ false → same_bytes s t ≡ false
unequal s t e = sym (pointwise_is s t) ∙ e

-- ---- the cases of a tag
pub by_handle : (h s : List ℕ) → pointwise eqb h standard_handle ≡ true → Some s ≡ standard_tag_suffix h s
unfolding standard_tag_suffix same_bytes
by_handle h s e = rw (equal h standard_handle e)

pub by_suffix : (h s : List ℕ) (r : Option (Bor (List ℕ))) → eqb (length h) 0 ≡ true
    → MatchOption r (pointwise eqb (take 18 s) standard_handle ≡ false)
    (λ x. (pointwise eqb (take 18 s) standard_handle ≡ true) × (x.now ≡ drop 18 s) × (length x.now + 18 ≡ length s))
    → option_copied r ≡ standard_tag_suffix h s
unfolding standard_tag_suffix same_bytes
by_suffix [] s (Some x) e p = rw (sym (pointwise_is (take 18 s) standard_handle) ∙ p.0, p.1)
by_suffix [] s None e p = rw (unequal (take 18 s) standard_handle p)
by_suffix (b ∷ h) s r e p = absurd (let k = eqb-true (length (b ∷ h)) 0 e in omega arith)

pub other_handle : (h s : List ℕ) → pointwise eqb h standard_handle ≡ false → eqb (length h) 0 ≡ false → None ≡ standard_tag_suffix h s
unfolding standard_tag_suffix same_bytes
other_handle [] s e n = absurd (clash n)
other_handle (b ∷ h) s e n = rw (unequal (b ∷ h) standard_handle e)

-- ---- the cases of a name
module _ (name s : List ℕ) where
  pub as_bool : pointwise eqb name (bytes "bool") ≡ true → tagged_as (bytes "bool") s ≡ tagged_schema name s
  unfolding tagged_schema same_bytes
  as_bool e = rw (equal name (bytes "bool") e)

  pub as_int : pointwise eqb name (bytes "int") ≡ true → tagged_as (bytes "int") s ≡ tagged_schema name s
  unfolding tagged_schema same_bytes
  as_int e = rw (equal name (bytes "int") e)

  pub as_float : pointwise eqb name (bytes "float") ≡ true → tagged_as (bytes "float") s ≡ tagged_schema name s
  unfolding tagged_schema same_bytes
  as_float e = rw (equal name (bytes "float") e)

  pub as_null : pointwise eqb name (bytes "null") ≡ true → tagged_as (bytes "null") s ≡ tagged_schema name s
  unfolding tagged_schema same_bytes
  as_null e = rw (equal name (bytes "null") e)

  either : (b : Bool) → Str ≡ cond b Str Str
  either true = refl
  either false = refl

  -- whether it is "str" or another
  pub as_other : pointwise eqb name (bytes "bool") ≡ false → pointwise eqb name (bytes "int") ≡ false → pointwise eqb name (bytes "float") ≡ false
      → pointwise eqb name (bytes "null") ≡ false → Str ≡ tagged_schema name s
  unfolding tagged_schema
  as_other e f g h =
      rw (unequal name (bytes "bool") e, unequal name (bytes "int") f, unequal name (bytes "float") g, unequal name (bytes "null") h)
      (either (same_bytes name (bytes "str")))

-- ---- a scalar, by what its tag's name was found to be
pub by_tag : (s : List ℕ) (style : ℕ) (tag : Option Tag) (name : Option (Bor (List ℕ)))
    → MatchOption tag (name ≡ None) (λ t. option_copied name ≡ standard_tag_suffix t.handle.now t.suffix.now)
    → by_name (option_copied name) s style ≡ resolve_scalar s style (option_map parts_of tag)
unfolding resolve_scalar
by_tag s style (Some t) name p = ap (λ (n : Option (List ℕ)). by_name n s style) p
by_tag s style None name p = rw p

-- another tag leaves it to its style
pub other_tag : (s : List ℕ) (style : ℕ) (handle suffix : List ℕ) → standard_tag_suffix handle suffix ≡ None
    → untagged s style ≡ resolve_scalar s style (Some (handle, suffix))
unfolding resolve_scalar
other_tag s style handle suffix t = rw t
