-- `quarto_yaml_get_hash_value` is `get_hash_value` in 32 bits: the record answered has a number of at most the one asked about.
use Rattle.std.proofs.Common.{arith}
use Rattle.quarto_yaml.proofs.Records.{fits, value_at_most}
use Rattle.quarto_yaml.proofs.child.quarto_yaml_get_hash_value.Goals as goal

pub or_none-requires : goal.or_none-requires
or_none-requires c =
    fits c.args.n (omega arith) c.get_hash_value.ensures
    (value_at_most c.args.records.now c.args.events.now c.args.key.now c.args.n)
