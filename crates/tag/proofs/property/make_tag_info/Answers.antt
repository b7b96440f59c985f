-- `tag::property::make_tag_info` meets its contract: a part that is not empty is the property from its offset on; else the span is the guess.
use Rattle.std.proofs.Common.{◌≡◌, sym, ◌∙◌, ap, false, List, ℕ, zero, suc, ◌+◌, ◌-◌, ◌≤◌, ◌<◌, min, eqb, length, eqb-true, arith}
use Rattle.std.proofs.lemmas.Bool.{false≢true}
use Rattle.utf8.specs.Utf8.{Utf8}
use Rattle.utf8.specs.Boundary.{Boundary}
use Rattle.utf8.proofs.Utf8Laws.{utf8_sound}
use Rattle.tag.specs.Tag.{span, tag_property, tag_offset, guess, tag_span}
use Rattle.tag.proofs.TagLaws.{part_within, part_found, part_empty}
use Rattle.tag.proofs.property.make_tag_info.Goals as goal

some : (n : ℕ) → eqb n 0 ≡ false → 0 < n
some zero e = absurd (false≢true (sym e))
some (suc n) e = omega arith

-- the part p was handed back with the offset o
module _ {s p : List ℕ} {i : ℕ} (u : Utf8 s) (b : Boundary s i) (part : p ≡ tag_property s i) where
  fits : {o : ℕ} → o ≡ tag_offset s i → o + length p ≤ length s
  fits offset = rw (part, offset) (part_within u b)

  found : {o : ℕ} → o ≡ tag_offset s i → 0 < length p → (n : ℕ) → span o (o + length p) ≡ tag_span s i n
  found offset h n = rw (part, offset) (part_found u b n (rw part at h))

  -- it is empty, and the guess ends at byte e
  guessed : length p ≡ 0 → (n e : ℕ) → e ≡ i + min (1 + n) (length s - i) → span i e ≡ tag_span s i n
  unfolding guess
  guessed h n e end = ap (span i) end ∙ part_empty u b n (let z : length (tag_property s i) ≡ 0 = rw part at h in omega arith)

pub overflow_add-result : goal.overflow_add-result
overflow_add-result c =
    let within = fits (utf8_sound _ c.args.node.text.utf8) c.args.node.boundary c.find_tag_span-property.ensures c.find_tag_offset-start.ensures in
    omega arith

pub returns-then-not-is_empty : goal.returns-then-not-is_empty
returns-then-not-is_empty c =
    found (utf8_sound _ c.args.node.text.utf8) c.args.node.boundary c.find_tag_span-property.ensures c.find_tag_offset-start.ensures (some _ (sym c.if-not-is_empty.ensures)) _

pub returns : goal.returns
returns c =
    let within = c.args.node.boundary.within in
    let fits = c.well_formed in
    guessed (utf8_sound _ c.args.node.text.utf8) c.args.node.boundary c.find_tag_span-property.ensures (eqb-true _ _ (sym c.if-not-is_empty.ensures)) _ _ (omega arith)
