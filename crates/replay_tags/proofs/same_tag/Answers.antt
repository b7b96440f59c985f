-- `replay_tags::same_tag` is safe: a tag is searched only from a boundary.
use Rattle.std.proofs.Common.{sym, ◌∙◌}
use Rattle.utf8.proofs.Utf8Laws.{is_boundary_lem}
use Rattle.replay_tags.proofs.same_tag.Goals as goal

pub invariant_of-make_tag_info : goal.invariant_of-make_tag_info
invariant_of-make_tag_info c = record { boundary = is_boundary_lem (sym c.is_boundary.ensures ∙ c.if-not-is_boundary.false) }
