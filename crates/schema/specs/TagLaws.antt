-- A scalar's resolution by any number for its style: plain is 0 alone (E1, S10).
use Rattle.std.specs.Prelude.{ℕ, ◌≡◌, refl, ◌<◌, List, Option, Some, None}
use Rattle.std.proofs.Common.{arith}
use Rattle.std.proofs.lemmas.Bool.{ne_eqb}
use Rattle.style.specs.Style.{folded, style_number, style_of}
use Rattle.style.specs.StyleLaws.{as_style}
use Rattle.schema.specs.Tag.{standard_tag_suffix, by_name, untagged, resolve_scalar}

untagged_number : (s : List ℕ) (n : ℕ) → untagged s n ≡ untagged s (style_number (style_of n))
unfolding untagged
untagged_number s = as_style (untagged s) past
  where
    past : (n : ℕ) → folded < n → untagged s n ≡ untagged s folded
    past n h = rw (ne_eqb n 0 (λ e. absurd (omega arith)))

-- a number is as good as its style's, also where it has none and its style is that of a block
pub any_number : (s : List ℕ) (n : ℕ) (tag : Option (List ℕ × List ℕ)) → resolve_scalar s n tag ≡ resolve_scalar s (style_number (style_of n)) tag
unfolding resolve_scalar
any_number s n None = untagged_number s n
any_number s n (Some tag) = go (standard_tag_suffix tag.0 tag.1)
  where
    go : (name : Option (List ℕ)) → by_name name s n ≡ by_name name s (style_number (style_of n))
    go (Some name) = refl
    go None = untagged_number s n
