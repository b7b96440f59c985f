-- `quarto_yaml_get_array_item` is `get_array_item` in 32 bits: the record answered has a number of at most the one asked about.
use Rattle.std.proofs.Common.{arith}
use Rattle.quarto_yaml.proofs.Records.{fits, item_at_most}
use Rattle.quarto_yaml.proofs.child.quarto_yaml_get_array_item.Goals as goal

pub or_none-requires : goal.or_none-requires
or_none-requires c =
    fits c.args.n (omega arith) c.get_array_item.ensures
    (item_at_most c.args.records.now c.args.n c.args.i)
