use Rattle.provenance.proofs.Escapes.{is_one_of_is}
use Rattle.provenance.specs.Escape.{one_byte_escapes}
use Rattle.provenance.proofs.escape.is_one_byte_escape.Goals as goal

pub returns : goal.returns
unfolding one_byte_escapes
returns c = rw (is_one_of_is one_byte_escapes c.args.c) c.contains.ensures.value
