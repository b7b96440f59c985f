-- What callers may count on: a property found lies before the node and within the text and begins with `!`, a guess lies within the
-- text, and no span ends before it starts.
use Rattle.std.specs.Prelude.{Option, Some, None}
use mathlib.Core.Path.{◌≡◌, refl, sym, ◌∙◌, ap, subst}
use mathlib.Core.Bool.{Bool, true, false, cond}
use mathlib.Core.List.{List, []}
use Prim.Native.Nat.{ℕ, zero, suc, ◌+◌, ◌-◌, ◌≤◌, ◌<◌}
use native.Mathlib.Omega.{arith}
use borrow.Author.Tests.{eqb-true}
use lib.Dec.{eqb}
use lib.ListN.{length, drop, get_or, length-take, length-drop}
use lib.Seq.{get_or-take, get_or-drop}
use Rattle.utf8.specs.Utf8.{Utf8}
use Rattle.utf8.specs.Boundary.{Boundary}
use Rattle.tag.specs.declared.property.TagSpan.{TagSpan}
use Rattle.tag.specs.Proved.{IsProperty, SpanWithin, TagIs}
use Rattle.tag.specs.Tag.{span, tag_before, span_or, property_span, span_bytes, tag_property, tag_offset, guess, tag_span}
use Rattle.tag.proofs.SearchLaws.{LastProperty, last_property}

-- ---- a property found

by_mark : {s : List ℕ} {i a e n m : ℕ} {p : TagSpan} → LastProperty s i a e n m
    → (a < i → tag_before s a ≡ Some p → IsProperty s a p) → tag_before s i ≡ Some p → IsProperty s i p
by_mark {s} {i} {a} {e} {n} {m} {p} k r f = go (eqb m 0x21) (eqb m 0x26) refl refl (sym k.decides ∙ f)
  where
    go : (x y : Bool) → eqb m 0x21 ≡ x → eqb m 0x26 ≡ y → cond x (Some (span (a + n) e)) (cond y (tag_before s a) None) ≡ Some p → IsProperty s i p
    go true y ex ey g =
        let is : span (a + n) e ≡ p = cc in
        let tag = eqb-true m 0x21 ex in
        let back = k.back in
        let some = k.left (omega arith) in
        let bang : get_or s (a + n) 0 ≡ 0x21 = k.first (omega arith) ∙ tag in
        let within = k.end.within in
        let from : Boundary s (a + n) = record { within = omega arith; edge = rw bang } in
        subst (IsProperty s i) is (record { some = some; before = back; within = within; bang = bang; from = from; to = k.end })
    go false true ex ey g =
        let anchor = eqb-true m 0x26 ey in
        let some = k.left (omega arith) in
        let back = k.back in
        let t = r (omega arith) g in
        let before = t.before in
        record { some = t.some; before = omega arith; within = t.within; bang = t.bang; from = t.from; to = t.to }
    go false false ex ey g = absurd (let z : ◌≡◌ {A = ℕ} 0 1 = cc in omega arith)

pub found_tagged : {s : List ℕ} {i : ℕ} {p : TagSpan} → Utf8 s → Boundary s i → tag_before s i ≡ Some p → IsProperty s i p
found_tagged {s} {i} {p} u b f = go (suc i) i (omega arith) b f
  where
    go : (n i : ℕ) → i < n → Boundary s i → tag_before s i ≡ Some p → IsProperty s i p
    go zero i h b f = absurd (omega arith)
    go (suc n) i h b f =
        let k = last_property u b refl refl refl refl in
        by_mark k (λ l g. go n _ (omega arith) k.start g) f

-- ---- every span

tagged_within : {s : List ℕ} {i : ℕ} {p : TagSpan} → IsProperty s i p → SpanWithin s p
tagged_within t = let l = t.some in record { order = omega arith; end = t.within }

pub guess_within : (s : List ℕ) (i n : ℕ) → i ≤ length s → SpanWithin s (guess s i n)
unfolding guess
guess_within s i n h = record { order = omega arith; end = omega arith }

or_within : {s : List ℕ} {i : ℕ} {q : TagSpan} → Utf8 s → Boundary s i → SpanWithin s q → SpanWithin s (span_or (tag_before s i) q)
or_within {s} {i} {q} u b w = go (tag_before s i) refl
  where
    go : (f : Option TagSpan) → tag_before s i ≡ f → SpanWithin s (span_or f q)
    go (Some p) e = tagged_within (found_tagged u b e)
    go None e = w

pub tag_span_within : {s : List ℕ} {i : ℕ} → Utf8 s → Boundary s i → (n : ℕ) → SpanWithin s (tag_span s i n)
unfolding tag_span
tag_span_within {s} {i} u b n = or_within u b (guess_within s i n b.within)

pub property_within : {s : List ℕ} {i : ℕ} → Utf8 s → Boundary s i → SpanWithin s (property_span s i)
unfolding property_span
property_within {s} {i} u b = or_within u b (record { order = omega arith; end = b.within })

-- ---- found or not

-- where there is no property the part is empty, and where there is one it begins with `!`
pub none_empty : (s : List ℕ) (i : ℕ) → tag_before s i ≡ None → tag_property s i ≡ []
unfolding tag_property property_span span_bytes
none_empty s i e = let z : i - i ≡ 0 = omega arith in rw (e, z)

pub found_begins : {s : List ℕ} {i : ℕ} {p : TagSpan} → Utf8 s → Boundary s i → tag_before s i ≡ Some p → get_or (tag_property s i) 0 0 ≡ 0x21
unfolding tag_property property_span span_bytes
found_begins {s} {i} {p} u b e =
    let t = found_tagged u b e in
    let l = t.some in
    let z : p.start + 0 ≡ p.start = omega arith in
    rw e (get_or-take (p.end - p.start) (drop p.start s) 0 0 (omega arith) ∙ get_or-drop p.start s 0 0 ∙ rw z t.bang)

-- a span of the property that is not empty is the tag's span, and where it is empty the span is guessed
some_found : (s : List ℕ) (i n : ℕ) → (property_span s i).start < (property_span s i).end → property_span s i ≡ tag_span s i n
unfolding property_span tag_span
some_found s i n h = go (tag_before s i) h
  where
    go : (f : Option TagSpan) → (span_or f (span i i)).start < (span_or f (span i i)).end → span_or f (span i i) ≡ span_or f (guess s i n)
    go (Some p) h = refl
    go None h = absurd (omega arith)

empty_guessed : {s : List ℕ} {i : ℕ} → Utf8 s → Boundary s i → (n : ℕ) → (property_span s i).end ≤ (property_span s i).start → guess s i n ≡ tag_span s i n
unfolding property_span tag_span
empty_guessed {s} {i} u b n h = go (tag_before s i) refl h
  where
    go : (f : Option TagSpan) → tag_before s i ≡ f → (span_or f (span i i)).end ≤ (span_or f (span i i)).start → guess s i n ≡ span_or f (guess s i n)
    go (Some p) e h = absurd (let l = (found_tagged u b e).some in omega arith)
    go None e h = refl

-- from its offset on, the part handed back is as long as the property's span
part_ends : {s : List ℕ} {i : ℕ} → Utf8 s → Boundary s i → tag_offset s i + length (tag_property s i) ≡ (property_span s i).end
unfolding tag_offset tag_property span_bytes
part_ends {s} {i} u b =
    let p = property_span s i in
    let order = (property_within u b).order in
    let end = (property_within u b).end in
    rw (length-take (p.end - p.start) (drop p.start s), length-drop p.start s) (omega arith)

pub part_within : {s : List ℕ} {i : ℕ} → Utf8 s → Boundary s i → tag_offset s i + length (tag_property s i) ≤ length s
part_within u b = rw (part_ends u b) (property_within u b).end

-- where that part is not empty it is the tag's span, and where it is empty the span is guessed
pub part_found : {s : List ℕ} {i : ℕ} → Utf8 s → Boundary s i → (n : ℕ) → 0 < length (tag_property s i)
    → span (tag_offset s i) (tag_offset s i + length (tag_property s i)) ≡ tag_span s i n
unfolding tag_offset
part_found {s} {i} u b n h =
    let ends = part_ends u b in
    ap (span (tag_offset s i)) ends ∙ some_found s i n (omega arith)

pub part_empty : {s : List ℕ} {i : ℕ} → Utf8 s → Boundary s i → (n : ℕ) → length (tag_property s i) ≤ 0 → guess s i n ≡ tag_span s i n
unfolding tag_offset
part_empty {s} {i} u b n h = let ends = part_ends u b in empty_guessed u b n (omega arith)

-- ---- in one statement

pub tag_is : {s : List ℕ} {i : ℕ} → Utf8 s → Boundary s i → TagIs s i
tag_is {s} {i} u b =
    record {
      found_tagged = λ p e. found_tagged u b e;
      found_begins = λ p e. found_begins u b e;
      none_empty = none_empty s i;
      part_found = part_found u b;
      part_empty = part_empty u b;
      span_within = tag_span_within u b;
      guess_within = λ n. guess_within s i n b.within;
      property_within = property_within u b;
    }
