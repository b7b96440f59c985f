use Rattle.std.proofs.Common.{◌∙◌, sym, rules, eqb}
use borrow.Author.Tests.{tests}
use Rattle.std.proofs.lemmas.Iterator.{YieldsList-from_slice}
use Rattle.std.proofs.lemmas.Iterator.Search.{all_from_yields_List}
use Rattle.utf8.specs.Ascii.{newline}
use Rattle.provenance.proofs.Runs.{only_newlines_is}
use Rattle.provenance.proofs.run.only_newlines.Goals as goal

pub returns : goal.returns
returns c =
    all_from_yields_List (λ b. eqb b newline) _ _ _ c.all.ensures.ran (YieldsList-from_slice c.args.tail.now (cc)) (λ x b q k. search (rules, tests))
    ∙ sym (only_newlines_is c.args.tail.now)
