-- `schema::tag::standard_tag_suffix` meets its contract: by the handle, else by the suffix if there is no handle.
use Rattle.std.proofs.Common.{sym, ◌∙◌}
use Rattle.schema.proofs.Tags.{by_handle, by_suffix, other_handle}
use Rattle.schema.proofs.tag.standard_tag_suffix.Goals as goal

pub returns-then-eq : goal.returns-then-eq
returns-then-eq c = by_handle _ _ (sym c.eq.ensures ∙ c.if-eq.true)

pub returns-then-is_empty : goal.returns-then-is_empty
returns-then-is_empty c = by_suffix _ _ _ (sym c.is_empty.ensures ∙ c.if-is_empty.true) c.strip_prefix.ensures.cases

pub returns-else-is_empty : goal.returns-else-is_empty
returns-else-is_empty c = other_handle _ _ (sym c.eq.ensures ∙ c.if-eq.false) (sym c.is_empty.ensures ∙ c.if-is_empty.false)
