-- `utf8::white_space::is_listed` meets its contract: the table is the ranges spelt out.
use Rattle.std.specs.Prelude.{◌≡◌, eqb}
use Rattle.std.specs.List.{list_any}
use Rattle.std.proofs.Common.{◌∙◌}
use Rattle.utf8.specs.WhiteSpace.{white_space}
use Rattle.utf8.proofs.WhiteSpace.{spelt, white_space_found}
use Rattle.utf8.proofs.white_space.is_listed.Goals as goal

pub returns : goal.returns
unfolding white_space
returns c =
    let found : c.contains.result ≡ list_any (λ w. eqb w c.args.code) (spelt white_space) = c.contains.ensures.value in
    found ∙ white_space_found c.args.code
