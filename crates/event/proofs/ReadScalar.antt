-- What is read of a scalar's body was written.
use Rattle.std.specs.Prelude.{refl, List, ℕ, ◌+◌, ◌-◌, leb, length, get_or}
use Rattle.std.proofs.Common.{inl, inr, leb-true}
use Rattle.utf8.specs.Ascii.{Bytes}
use Rattle.utf8.specs.Characters.{is_utf8}
use Rattle.event.specs.Read.{part, part_of, read_tag, read_scalar}
use Rattle.event.proofs.ReadCases.{by_test, by_step}
use Rattle.event.proofs.ReadParts.{FoundTag, tag_found, BodyFound, found_scalar}

pub scalar_found : (s : List ℕ) → Bytes s → (m i : ℕ) → BodyFound s 5 m i (read_scalar s m i)
unfolding read_scalar
scalar_found s bytes m i =
    by_test (leb (i + 6) (length s)) _ _ (BodyFound s 5 m i)
    (λ t. by_test (leb (get_or s (i + 4) 0) 4) _ _ (BodyFound s 5 m i)
    (λ u. by_test (leb (get_or s (i + 5) 0) 1) _ _ (BodyFound s 5 m i)
    (λ v. by_step (read_tag s (i + 6)) _ (λ x. FoundTag s (i + 6) x.0 x.1) (BodyFound s 5 m i) (tag_found s bytes (i + 6))
    (λ x p. by_test (is_utf8 (part_of s (part x.1 (length s - x.1)))) _ _ (BodyFound s 5 m i)
    (λ w. inr (found_scalar s bytes m i x (leb-true (i + 6) (length s) t) (leb-true _ _ u) (leb-true _ _ v) p w)) (λ w. inl refl)) (inl refl))
    (λ v. inl refl))
    (λ u. inl refl))
    (λ t. inl refl)
