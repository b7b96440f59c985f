-- What is read ends in time: no string and no YAML tag ends past the bytes that it was read from, which go up to the body's end.
use Rattle.std.specs.Prelude.{◌≡◌, List, ℕ, ◌+◌, ◌≤◌, ltb, eqb, length, get_or, Option, Result, Ok, IfOk}
use Rattle.std.proofs.Common.{subst, arith, ltb-true}
use Rattle.event.specs.Read.{read_string, read_parts, read_tag}
use Rattle.event.specs.declared.malformed.Malformed.{Malformed}
use Rattle.event.specs.declared.string.Part.{Part}
use Rattle.event.specs.declared.tag.YamlTag.{YamlTag}
use Rattle.event.proofs.ReadCases.{by_test, by_step, StringEnds, string_ends}

-- a string
pub string_ended : (s : List ℕ) (i : ℕ) (p : Part) → read_string s i ≡ Ok p → p.at + p.len ≤ length s
string_ended s i p q = subst (StringEnds (length s)) q (string_ends s i)

-- and so does a YAML tag
abbrev pub TagEnds : ℕ → Result (Option YamlTag × ℕ) Malformed → Type 0
TagEnds e r = IfOk r (λ t. t.1 ≤ e)

pub tag_ends : (s : List ℕ) (i : ℕ) → TagEnds (length s) (read_tag s i)
unfolding read_tag
tag_ends s i =
    by_test (ltb i (length s)) _ _ (TagEnds (length s))
    (λ t. by_test (eqb (get_or s i 0) 0) _ _ (TagEnds (length s)) (λ u. let h = ltb-true i (length s) t in omega arith)
    (λ u. by_test (eqb (get_or s i 0) 1) _ _ (TagEnds (length s)) (λ v. parts) (λ v. tt)))
    (λ t. tt)
  where
    parts : TagEnds (length s) (read_parts s (i + 1))
    parts =
        by_step (read_string s (i + 1)) _ (λ h. h.at + h.len ≤ length s) (TagEnds (length s)) (string_ends s (i + 1))
        (λ h p. by_step (read_string s (h.at + h.len)) _ (λ x. x.at + x.len ≤ length s) (TagEnds (length s)) (string_ends s (h.at + h.len)) (λ x q. q) tt)
        tt

pub tag_ended : (s : List ℕ) (i : ℕ) (t : Option YamlTag) (n : ℕ) → read_tag s i ≡ Ok (t, n) → n ≤ length s
tag_ended s i t n q = subst (TagEnds (length s)) q (tag_ends s i)
