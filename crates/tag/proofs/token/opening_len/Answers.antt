-- `tag::token::opening_len` meets its contract: it counts the token's longest prefix of such bytes.
use Rattle.std.proofs.Common.{rules, tests, ◌∙◌}
use Rattle.std.proofs.lemmas.Iterator.{YieldsList-from_slice}
use Rattle.std.proofs.lemmas.Iterator.Search.{YieldsList-from_take_while}
use Rattle.std.proofs.lemmas.Iterator.Consumers.{count_from_yields_List}
use Rattle.std.proofs.lemmas.List.Folds.{length-prefix_len}
use Rattle.tag.specs.Tag.{is_opening}
use Rattle.tag.proofs.Openings.{prefix_openings}
use Rattle.tag.proofs.token.opening_len.Goals as goal

pub returns : goal.returns
returns c =
    let s = c.args.token.now in
    count_from_yields_List c.take_while.result _ c.count.ensures.ran
    (YieldsList-from_take_while _ is_opening (YieldsList-from_slice s (cc)) c.take_while.ensures.closure c.take_while.ensures.done (λ x b q k. search (rules, tests)))
    ∙ length-prefix_len is_opening s
    ∙ prefix_openings s
