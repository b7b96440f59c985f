-- The laws of the distances between successive indices, and of how many characters a text has.
use Rattle.std.specs.Prelude.{◌≡◌, refl, min, List, [], ◌∷◌, ℕ, zero, suc, ◌+◌, ◌-◌, ◌≤◌, ◌<◌, map, length, drop, get_or}
use Rattle.std.proofs.Common.{sym, ◌∙◌, ap, arith, add-one, drop-cons, drop_of_length-le}
use Rattle.std.proofs.Math.ListN.{length-map}
use Rattle.utf8.specs.Characters.{first_char, codes, chars_after}
use Rattle.utf8.specs.declared.utf8.Char.{Char}
use Rattle.text.specs.Offset.{cursor_at}
use Rattle.travel.specs.Travel.{clamped, distance, distances}

-- no more characters than bytes
chars_most : (pass : ℕ) (s : List ℕ) → length (chars_after pass s) ≤ length s
unfolding chars_after
chars_most zero [] = omega arith
chars_most (suc pass) [] = omega arith
chars_most (suc pass) (b ∷ s) = let h = chars_most pass s in omega arith
chars_most zero (b ∷ s) = let h = chars_most ((first_char (b ∷ s)).len - 1) s in omega arith

pub codes_most : (s : List ℕ) → length (codes s) ≤ length s
unfolding codes
codes_most s = let h = chars_most 0 s in let e = length-map (chars_after 0 s) (λ (c : Char). c.code) in omega arith

-- how many the cursor has passed; at the end all of them
pub cursor_chars : (s : List ℕ) (m : ℕ) → (cursor_at s m).chars ≡ min m (length (codes s))
unfolding cursor_at
cursor_chars s m = refl

pub end_chars : (s : List ℕ) → (cursor_at s (length s)).chars ≡ length (codes s)
end_chars s = let h = codes_most s in let e = cursor_chars s (length s) in omega arith

-- one marker more
pub distances_at : (chars k : ℕ) (ms : List ℕ) (i : ℕ) → i < length ms
    → distances k (map (clamped chars) (drop i ms))
    ≡ distance k (clamped chars (get_or ms i 0)) + distances (clamped chars (get_or ms i 0)) (map (clamped chars) (drop (i + 1) ms))
unfolding distances
distances_at chars k ms i h =
    ap (λ (l : List ℕ). distances k (map (clamped chars) l)) (drop-cons ms i 0 h)
    ∙ ap (λ (j : ℕ). distance k (clamped chars (get_or ms i 0)) + distances (clamped chars (get_or ms i 0)) (map (clamped chars) (drop j ms))) (sym (add-one i))

-- none is left
pub distances_end : (chars k : ℕ) (ms : List ℕ) (i : ℕ) → length ms ≤ i → distances k (map (clamped chars) (drop i ms)) ≡ 0
unfolding distances
distances_end chars k ms i h = ap (λ (l : List ℕ). distances k (map (clamped chars) l)) (drop_of_length-le ms {i = i} h)
