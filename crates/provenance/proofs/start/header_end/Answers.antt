use Rattle.std.proofs.Common.{◌≡◌, ◌∙◌, sym, ap, ℕ, rules, eqb}
use borrow.Author.Tests.{tests}
use Rattle.std.proofs.lemmas.Iterator.{YieldsList-from_slice}
use Rattle.std.proofs.lemmas.Iterator.Search.{position_from_yields_List}
use Rattle.std.specs.Prelude.{Option, unwrap_or}
use Rattle.std.specs.List.{position}
use Rattle.utf8.specs.Ascii.{newline}
use Rattle.provenance.proofs.Runs.{header_end_is}
use Rattle.provenance.proofs.start.header_end.Goals as goal

pub returns : goal.returns
returns c =
    let h : c.position.result ≡ position (λ b. eqb b newline) c.args.rest.now =
    position_from_yields_List (λ b. eqb b newline) _ _ c.position.result c.position.ensures.ran (YieldsList-from_slice c.args.rest.now (cc)) (λ x b q k. search (rules, tests)) in
    c.unwrap_or.ensures ∙ ap (λ (o : Option ℕ). unwrap_or o c.args.len) h ∙ sym (header_end_is c.args.rest.now c.args.len)
