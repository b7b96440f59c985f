-- The laws of numbers in the event bytes, over the width: a number that is read fits, what is written is read, and what is read
-- was written.
use mathlib.Core.Path.{◌≡◌, refl, sym, ◌∙◌}
use mathlib.Core.List.{List, ◌∷◌, ◌++◌, append_assoc}
use Prim.Native.Nat.{ℕ, zero, suc, ◌+◌, ◌*◌, ◌/◌, ◌%◌, ◌≤◌, ◌<◌}
use native.Mathlib.Omega.{arith}
use native.Mathlib.Nat.{add-zero, add-suc}
use lib.ListN.{length, drop, get_or, length-append}
use lib.Seq.{drop-cons, get_or-drop, get_or_at}
use Rattle.event.specs.Number.{high_first, number_at}
use Rattle.utf8.specs.Ascii.{Bytes}

-- how many numbers so many bytes have
unfoldable pub capacity : ℕ → ℕ
capacity zero = 1
capacity (suc w) = capacity w * 256

-- so many bytes are written
pub high_first-length : (w n : ℕ) → length (high_first w n) ≡ w
unfolding high_first
high_first-length zero n = refl
high_first-length (suc w) n = rw (length-append, high_first-length w (n / 256)) (omega arith)

-- a number that is read fits its bytes
pub number_fits : (s : List ℕ) → Bytes s → (i w : ℕ) → number_at s i w < capacity w
unfolding number_at capacity
number_fits s b i zero = omega arith
number_fits s b i (suc w) = omega (arith, number_fits s b i w, b (i + w))

up_to_three : (w : ℕ) → w < 4 → capacity w ≤ 0x100_0000
unfolding capacity
up_to_three zero h = omega arith
up_to_three (suc zero) h = omega arith
up_to_three (suc (suc zero)) h = omega arith
up_to_three (suc (suc (suc zero))) h = omega arith
up_to_three (suc (suc (suc (suc w)))) h = absurd (omega arith)

-- one of less than four bytes leaves room for another byte
pub number_grows : (s : List ℕ) → Bytes s → (i w : ℕ) → w < 4 → number_at s i w < 0x100_0000
number_grows s b i w h = omega (arith, number_fits s b i w, up_to_three w h)

-- what is read was written
pub number_written : (s : List ℕ) → Bytes s → (i w : ℕ) → i + w ≤ length s → drop i s ≡ high_first w (number_at s i w) ++ drop (i + w) s
unfolding high_first number_at
number_written s b i zero h = rw add-zero
number_written s b i (suc w) h =
    let small = b (i + w) in
    let high : (number_at s i w * 256 + get_or s (i + w) 0) / 256 ≡ number_at s i w = omega arith in
    let low : (number_at s i w * 256 + get_or s (i + w) 0) % 256 ≡ get_or s (i + w) 0 = omega arith in
    number_written s b i w (omega arith) ∙ rw (high, low, append_assoc, drop-cons s (i + w) 0 (omega arith), add-suc)

-- what is written is read
pub number_read : (s : List ℕ) (i w n : ℕ) (u : List ℕ) → drop i s ≡ high_first w n ++ u → n < capacity w → number_at s i w ≡ n
unfolding high_first capacity number_at
number_read s i zero n u e h = omega arith
number_read s i (suc w) n u e h =
    let from : drop i s ≡ high_first w (n / 256) ++ (n % 256 ∷ u) = e ∙ simp append_assoc in
    let high = number_read s i w (n / 256) (n % 256 ∷ u) from (omega arith) in
    let low : get_or s (i + w) 0 ≡ n % 256 = sym (get_or-drop i s w 0) ∙ rw from (get_or_at (high_first w (n / 256)) (n % 256) u 0 w (high_first-length w (n / 256))) in
    rw (high, low) (omega arith)
