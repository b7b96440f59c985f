-- `schema::tag::resolve_scalar` meets its contract: a standard tag's name decides, and without one the style.
use Rattle.std.proofs.Common.{◌≡◌, ◌∙◌, option_copied, option_map, rules}
use Rattle.schema.specs.Tag.{by_name, resolve_scalar, parts_of}
use Rattle.schema.proofs.Tags.{by_tag}
use Rattle.schema.proofs.tag.resolve_scalar.Goals as goal
use Rattle.schema.proofs.tag.resolve_scalar.Goals.{After-and_then}

found : (c : After-and_then) → by_name (option_copied c.and_then.result) c.args.value.now c.args.style ≡ resolve_scalar c.args.value.now c.args.style (option_map parts_of c.args.tag)
found c = by_tag _ _ c.args.tag c.and_then.result (search rules)

pub returns-in-Some : goal.returns-in-Some
returns-in-Some c = c.resolve_tagged_scalar.ensures ∙ (rw c.in-Some.is at (found (goal.at.returns-in-Some c).After-and_then))

pub returns-in-None : goal.returns-in-None
returns-in-None c = c.resolve_untagged.ensures ∙ (rw c.in-None.is at (found (goal.at.returns-in-None c).After-and_then))
