-- The `[`, `{` and `,` that a token begins with, counted as a prefix.
use Rattle.std.specs.Prelude.{◌≡◌, refl, Bool, true, false, cond, List, [], ◌∷◌, ℕ, suc, ◌+◌}
use Rattle.std.specs.List.{prefix_len}
use Rattle.std.proofs.Common.{arith}
use Rattle.tag.specs.Tag.{is_opening, openings}

pub prefix_openings : (s : List ℕ) → prefix_len is_opening s ≡ openings s
unfolding openings
prefix_openings [] = refl
prefix_openings (c ∷ s) = go (is_opening c) (prefix_openings s)
  where
    go : (t : Bool) → prefix_len is_opening s ≡ openings s → cond t (1 + prefix_len is_opening s) 0 ≡ cond t (suc (openings s)) 0
    go true e = omega arith
    go false e = refl
