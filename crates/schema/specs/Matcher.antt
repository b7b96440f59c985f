-- A matcher that computes, by Brzozowski's derivatives: `derivative b r` matches what may follow the byte b in a match of r.
-- `accepts r s` is true exactly where `Matches r s` holds (`accepts_sound`, `accepts_complete` of proofs/Derivative.antt);
-- contracts cite it because it computes. `join` and `union` drop what matches nothing, so that derivatives stay small.
--
use Rattle.std.specs.Prelude.{ℕ, Bool, true, false, ◌&&◌, ◌||◌, cond, List, [], ◌∷◌, leb}
use Rattle.schema.specs.Regex.{Regex, none, empty, range, seq, alt, star}

abbrev pub is_none : Regex → Bool
is_none none = true
is_none empty = false
is_none (range lo hi) = false
is_none (seq r q) = false
is_none (alt r q) = false
is_none (star r) = false

abbrev pub is_empty : Regex → Bool
is_empty none = false
is_empty empty = true
is_empty (range lo hi) = false
is_empty (seq r q) = false
is_empty (alt r q) = false
is_empty (star r) = false

-- `seq` and `alt`, where a part that is `none` or `empty` is left out
abbrev pub join : Regex → Regex → Regex
join r q = cond (is_none r) none (cond (is_empty r) q (seq r q))

abbrev pub union : Regex → Regex → Regex
union r q = cond (is_none r) q (cond (is_none q) r (alt r q))

-- whether r matches the list of no bytes
unfoldable pub nullable : Regex → Bool
nullable none = false
nullable empty = true
nullable (range lo hi) = false
nullable (seq r q) = nullable r && nullable q
nullable (alt r q) = nullable r || nullable q
nullable (star r) = true

unfoldable pub derivative : ℕ → Regex → Regex
derivative b none = none
derivative b empty = none
derivative b (range lo hi) = cond (leb lo b && leb b hi) empty none
derivative b (seq r q) = cond (nullable r) (union (join (derivative b r) q) (derivative b q)) (join (derivative b r) q)
derivative b (alt r q) = union (derivative b r) (derivative b q)
derivative b (star r) = join (derivative b r) (star r)

unfoldable pub accepts : Regex → List ℕ → Bool
accepts r [] = nullable r
accepts r (b ∷ s) = accepts (derivative b r) s
