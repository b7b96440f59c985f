-- `quarto_yaml_last_child` is `last_child` in 32 bits: the record that it answers has a number of at most the one it is asked about.
use Rattle.std.proofs.Common.{arith}
use Rattle.quarto_yaml.proofs.Records.{fits, last_at_most}
use Rattle.quarto_yaml.proofs.child.quarto_yaml_last_child.Goals as goal

pub or_none-requires : goal.or_none-requires
or_none-requires c =
    fits c.args.n (omega arith) c.last_child.ensures
    (last_at_most c.args.records.now c.args.n)
