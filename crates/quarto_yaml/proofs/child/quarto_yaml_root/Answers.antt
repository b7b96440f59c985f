-- `quarto_yaml_root` is `record_before` in 32 bits: the record that it answers has a number of at most the one it is asked about.
use Rattle.std.proofs.Common.{arith}
use Rattle.quarto_yaml.proofs.Records.{fits, before_at_most}
use Rattle.quarto_yaml.proofs.child.quarto_yaml_root.Goals as goal

pub or_none-requires : goal.or_none-requires
or_none-requires c =
    fits c.args.nodes (omega arith) c.record_before.ensures
    (before_at_most c.args.records.now c.args.nodes)
