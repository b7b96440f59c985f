-- Numbers matched in turn.
use Rattle.std.proofs.Common.{◌≡◌, refl, sym, ap, ◌∙◌, List, [], ◌∷◌, ◌++◌, ℕ, suc, ◌+◌, ◌<◌, length, take, get_or, take-suc, arith}
use Rattle.replay_accessors.specs.Matched.{Matched, match_number, match_all}

pub in_turn : (m : Matched) (xs ys : List ℕ) → match_all (match_all m xs) ys ≡ match_all m (xs ++ ys)
in_turn m [] ys = refl
in_turn m (x ∷ xs) ys = in_turn (match_number m x) xs ys

-- the first i numbers and the next
pub one_more : (m : Matched) (xs : List ℕ) (i : ℕ) → i < length xs → match_number (match_all m (take i xs)) (get_or xs i 0) ≡ match_all m (take (i + 1) xs)
one_more m xs i h =
    let e : suc i ≡ i + 1 = omega arith in
    in_turn m (take i xs) (get_or xs i 0 ∷ []) ∙ ap (match_all m) (sym (take-suc xs i 0 h) ∙ ap (λ (k : ℕ). take k xs) e)
