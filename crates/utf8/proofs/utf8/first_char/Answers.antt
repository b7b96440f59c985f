-- `utf8::utf8::first_char` meets its contract: the four bytes from the place on.
use Rattle.std.proofs.Common.{arith, rules, ◌≡◌, ◌<◌, ◌≤◌, length, get_or, ◌∙◌, drop_of_length-le}
use Rattle.std.proofs.lemmas.Grind.{common_steps}
use Rattle.utf8.specs.Characters.{first_char}
use Rattle.utf8.proofs.Utf8Laws.{first_char_ascii, first_char_multi}
use Rattle.utf8.proofs.utf8.first_char.Goals as goal

pub returns-in_err-a : goal.returns-in_err-a
unfolding first_char
returns-in_err-a c = let past : length c.args.s.now ≤ c.args.i = grind (arith, common_steps) in rw (c.from_residual.ensures, drop_of_length-le c.args.s.now past)

pub returns-then-a-lt128 : goal.returns-then-a-lt128
returns-then-a-lt128 c =
    let there : c.args.i < length c.args.s.now = grind (arith, common_steps) in
    let is : c.in_ok-a.field-0.now ≡ get_or c.args.s.now c.args.i 0 = search rules in
    rw (first_char_ascii c.args.s.now c.args.i there (omega arith)) (cc)

pub returns : goal.returns
returns c =
    let there : c.args.i < length c.args.s.now = grind (arith, common_steps) in
    let is : c.in_ok-a.field-0.now ≡ get_or c.args.s.now c.args.i 0 = search rules in
    c.multi_byte.ensures ∙ rw (first_char_multi c.args.s.now c.args.i there (omega arith)) (cc)
