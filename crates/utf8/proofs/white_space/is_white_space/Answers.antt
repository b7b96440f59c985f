-- `utf8::white_space::is_white_space` meets its contract: no range reaches into the gaps.
use Rattle.std.proofs.Common.{arith, sym}
use Rattle.utf8.proofs.WhiteSpace.{blank_is, all_within, all_within_wide, none_below, none_between, none_between_wide, none_past}
use Rattle.utf8.proofs.white_space.is_white_space.Goals as goal

pub returns-then-code-lt133 : goal.returns-then-code-lt133
returns-then-code-lt133 c = sym (none_between c.args.code (omega arith) (omega arith))

pub returns-in-9-to-13 : goal.returns-in-9-to-13
returns-in-9-to-13 c = sym (blank_is c.args.code (omega arith))

pub returns-in-9-to-13-2 : goal.returns-in-9-to-13-2
returns-in-9-to-13-2 c = sym (all_within c.args.code (omega arith) (omega arith))

pub returns-in-9-to-13-3 : goal.returns-in-9-to-13-3
returns-in-9-to-13-3 c = sym (all_within_wide c.args.code (omega arith) (omega arith))

pub returns-in-14-to-31 : goal.returns-in-14-to-31
returns-in-14-to-31 c = sym (none_below c.args.code (omega arith) (omega arith))

pub returns-in-14-to-31-2 : goal.returns-in-14-to-31-2
returns-in-14-to-31-2 c = sym (none_between_wide c.args.code (omega arith) (omega arith))

pub returns-in-14-to-31-3 : goal.returns-in-14-to-31-3
returns-in-14-to-31-3 c = sym (none_past c.args.code (omega arith))
