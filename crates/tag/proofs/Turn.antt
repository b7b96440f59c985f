-- One token of the search: what its bytes say of the property before the node.
use Rattle.std.specs.Prelude.{Some, None}
use mathlib.Core.Path.{◌≡◌, sym, ◌∙◌}
use mathlib.Core.List.{List}
use Prim.Native.Nat.{ℕ, ◌+◌, ◌-◌, ◌≤◌, ◌<◌}
use native.Mathlib.Omega.{arith}
use borrow.Author.Tests.{ne_eqb}
use lib.ListN.{length, take, drop, get_or}
use Rattle.utf8.specs.Utf8.{Utf8}
use Rattle.utf8.specs.Boundary.{Boundary}
use Rattle.tag.specs.Tag.{openings, span, tag_before}
use Rattle.tag.proofs.TokenLaws.{token_end, token_start}
use Rattle.tag.proofs.SearchLaws.{LastProperty, last_property}

-- the search has gone back from the node to byte i
pub record Searching (s : List ℕ) (node i : ℕ) : Type 0 where
  pub edge : Boundary s i
  pub same : tag_before s i ≡ tag_before s node

-- it has read the last token before byte i, from byte a to byte e: n of its bytes are dropped, and m is the next
pub record Turn (s : List ℕ) (node i a e n m : ℕ) : Type 0 where
  pub property : LastProperty s i a e n m
  pub same : tag_before s i ≡ tag_before s node

pub turn : {s : List ℕ} {node i e a n m : ℕ} → Utf8 s → Searching s node i → e ≡ token_end s i → a ≡ token_start s e
    → n ≡ openings (take (e - a) (drop a s)) → m ≡ get_or (take (e - a) (drop a s)) n 0 → Turn s node i a e n m
turn u g he ha hn hm = record { property = last_property u g.edge he ha hn hm; same = g.same }

module _ {s : List ℕ} {node i a e n m : ℕ} (t : Turn s node i a e n m) where
  pub tag_fits : m ≡ 0x21 → a + n ≤ length s
  tag_fits tag = let l = t.property.left (omega arith) in let w = t.property.end.within in omega arith

  pub tag_found : m ≡ 0x21 → Some (span (a + n) e) ≡ tag_before s node
  tag_found tag = sym (rw tag at t.property.decides) ∙ t.same

  pub none_found : (m ≡ 0x21 → ⊥) → (m ≡ 0x26 → ⊥) → None ≡ tag_before s node
  none_found no_tag_is no-anchor = sym (rw (ne_eqb m 0x21 no_tag_is, ne_eqb m 0x26 no-anchor) at t.property.decides) ∙ t.same

  -- a token that is passed over has a byte at least
  pub anchor_less : m ≡ 0x26 → a < i
  anchor_less anchor = let l = t.property.left (omega arith) in let w = t.property.back in omega arith

  pub anchor_passed : m ≡ 0x26 → Searching s node a
  anchor_passed anchor = record { edge = t.property.start; same = sym (t.property.decides ∙ rw anchor) ∙ t.same }
