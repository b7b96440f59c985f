use Rattle.std.proofs.Common.{◌∙◌, sym, ap, length-take, take, min, rules}
use borrow.Author.Tests.{tests}
use Rattle.std.proofs.lemmas.Iterator.{YieldsList-from_slice, YieldsList-from_take}
use Rattle.std.proofs.lemmas.Iterator.Consumers.{YieldsList-at, count_from_yields_List}
use Rattle.std.proofs.lemmas.Iterator.Search.{YieldsList-from_take_while}
use Rattle.std.proofs.lemmas.List.Folds.{length-prefix_len}
use Rattle.std.specs.List.{prefix_len}
use Rattle.measure.specs.Plain.{is_fold}
use Rattle.provenance.proofs.Runs.{blank_run_is}
use Rattle.provenance.proofs.run.folds.Goals as goal

pub returns : goal.returns
returns c =
    let tail = c.args.tail.now in
    count_from_yields_List c.take.result _ c.count.ensures.ran
    (YieldsList-from_take c.args.most
    (YieldsList-at c.take.ensures.source
    (YieldsList-from_take_while _ is_fold (YieldsList-from_slice tail (cc)) c.take_while.ensures.closure c.take_while.ensures.done (λ x b q k. search (rules, tests))))
    c.take.ensures.count)
    ∙ length-take c.args.most (take (prefix_len is_fold tail) tail)
    ∙ ap (min c.args.most) (length-prefix_len is_fold tail ∙ sym (blank_run_is tail))
