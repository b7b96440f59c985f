-- `quarto_yaml_hash_entry` is `hash_entry` in 32 bits: the records of the pair have numbers of at most the hash's.
use Rattle.std.proofs.Common.{arith}
use Rattle.quarto_yaml.proofs.Records.{entry_fits}
use Rattle.quarto_yaml.proofs.source.quarto_yaml_hash_entry.Goals as goal

pub overflow_cast-result : goal.overflow_cast-result
overflow_cast-result c = let h = entry_fits c.args.records.now c.args.n c.args.i (omega arith) c.in-Some.ensures in record { fits = omega arith }

pub overflow_cast-result-2 : goal.overflow_cast-result-2
overflow_cast-result-2 c = let h = entry_fits c.args.records.now c.args.n c.args.i (omega arith) c.in-Some.ensures in record { fits = omega arith }
