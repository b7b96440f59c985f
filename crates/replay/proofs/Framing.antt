-- A case from a place on: its numbers and parts are those of the whole, so much further on.
use Rattle.std.proofs.Common.{◌≡◌, ℕ, ◌+◌, ◌-◌, ◌*◌, List, length, drop, leb, refl}
use native.Mathlib.Omega.{arith}
use native.Mathlib.Nat.{add-zero}
use Rattle.std.proofs.lemmas.List.{drop-drop, get_or-drop}
use lib.ListN.{length-drop}
use Rattle.replay.specs.Case.{number, part_of}

-- r is what is left of the case from a place on
pub record Left (s : List ℕ) (k : ℕ) (r : List ℕ) : Type 0 where
  pub is : r ≡ drop k s

-- the number that stands there
pub number_there : {s r : List ℕ} {k : ℕ} → Left s k r → number r 0 ≡ number s k
unfolding number
number_there {s} {r} {k} l =
    rw (l.is, get_or-drop k s 0 0, get_or-drop k s 1 0, get_or-drop k s 2 0, get_or-drop k s 3 0, add-zero k) refl

leb_later : (k n : ℕ) → leb 4 (n - k) ≡ leb (k + 4) n
leb_later k n = grind arith

-- the part that stands there, behind its number
pub part_there : {s r : List ℕ} {k : ℕ} (n : ℕ) → Left s k r → part_of r 4 n ≡ part_of s (k + 4) n
unfolding part_of
part_there {s} {r} {k} n l = rw (l.is, length-drop k s, leb_later k (length s), drop-drop 4 k s) grind arith

-- what stands behind a number, and behind a part
pub behind_number : {s r t : List ℕ} {k : ℕ} → Left s k r → t ≡ drop 4 r → Left s (k + 4) t
behind_number {s} {r} {t} {k} l e = record { is = rw (e, l.is, drop-drop 4 k s) refl }

pub behind_part : {s r t : List ℕ} {k : ℕ} (w : ℕ) → Left s k r → t ≡ drop (4 + w * number r 0) r → Left s (k + (4 + w * number s k)) t
behind_part {s} {r} {t} {k} w l e = record { is = rw (e, number_there l, l.is, drop-drop (4 + w * number s k) k s) refl }

-- the same place, told in another way
pub same_place : {s r : List ℕ} {k m : ℕ} → Left s k r → k ≡ m → Left s m r
same_place {s} {r} {k} {m} l e = record { is = rw (l.is, e) refl }
