-- `schema::form::scanned` meets its contract: its tables are right, each by a computed test of the table as the code has it.
use mathlib.Core.Path.{refl}
use native.Mathlib.Decide.{ℕ_discrete}
use Rattle.schema.specs.Matcher.{nullable, derivative}
use Rattle.schema.specs.Standard.{table}
use Rattle.schema.specs.Automaton.{texts}
use Rattle.schema.proofs.Automaton.{samples}
use Rattle.schema.proofs.Flags.{form_by, tables}
use Rattle.schema.proofs.form.scanned.Goals as goal

pub run_automaton-requires : goal.run_automaton-requires
unfolding table texts samples form_by derivative nullable ℕ_discrete
run_automaton-requires c = tables _ _ _ refl refl refl refl
