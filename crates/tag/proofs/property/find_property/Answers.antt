use Rattle.std.proofs.Common.{◌∙◌, sym, rules, tests, arith}
use Rattle.utf8.specs.WhiteSpace.{is_white_space}
use Rattle.utf8.proofs.Utf8Laws.{utf8_sound}
use Rattle.tag.specs.Back.{is_token_char}
use Rattle.tag.specs.Tag.{property_span}
use Rattle.tag.proofs.TokenLaws.{LastToken, last_token}
use Rattle.tag.proofs.Turn.{Turn, turn, tag_found, none_found, anchor_less, anchor_passed}
use Rattle.tag.proofs.property.find_property.Goals as goal
use Rattle.tag.proofs.property.find_property.Goals.{After-back_over-start, After-byte_at}

-- the token that was cut out, where both its ends are known
token-at : (c : After-back_over-start) → LastToken c.args.text.bytes.now c.loop-before.before c.back_over-start.result.at c.back_over-end.result.at
token-at c =
    let end = c.back_over-end.ensures in
    let start = c.back_over-start.ensures in
    last_token (utf8_sound _ c.args.text.utf8) c.loop-before.invariant.edge
    (end.value is_white_space (λ x b p. search rules))
    (rw end.same_text at (start.value is_token_char (λ x b p. search (rules, tests))))

-- what it says, where its mark is known
turn_at :
    (c : After-byte_at)
    → Turn c.args.text.bytes.now c.args.at c.loop-before.before c.back_over-start.result.at c.back_over-end.result.at c.opening_len-dropped.result c.byte_at.result
turn_at c =
    let end = c.back_over-end.ensures in
    let start = c.back_over-start.ensures in
    turn (utf8_sound _ c.args.text.utf8) c.loop-before.invariant
    (end.value is_white_space (λ x b p. search rules))
    (rw end.same_text at (start.value is_token_char (λ x b p. search (rules, tests))))
    c.opening_len-dropped.ensures c.byte_at.ensures

pub slice_bounds-token-count : goal.slice_bounds-token-count
slice_bounds-token-count c = let whole = (token-at (goal.at.slice_bounds-token-count c).After-back_over-start).whole in omega arith

pub slice_bounds-token-start : goal.slice_bounds-token-start
slice_bounds-token-start c = let whole = (token-at (goal.at.slice_bounds-token-start c).After-back_over-start).whole in omega arith

pub slice_bounds-token-end : goal.slice_bounds-token-end
slice_bounds-token-end c = (token-at (goal.at.slice_bounds-token-end c).After-back_over-start).end.within

pub returns-in-33 : goal.returns-in-33
unfolding property_span
returns-in-33 c = rw (sym (tag_found (turn_at (goal.at.returns-in-33 c).After-byte_at) c.in-33.is))

pub loop-before-smaller : goal.loop-before-smaller
loop-before-smaller c = anchor_less (turn_at (goal.at.loop-before-smaller c).After-byte_at) c.in-38.is

pub loop-before-preserved : goal.loop-before-preserved
loop-before-preserved c = anchor_passed (turn_at (goal.at.loop-before-preserved c).After-byte_at) c.in-38.is

pub returns-in_default : goal.returns-in_default
unfolding property_span
returns-in_default c = rw (sym (none_found (turn_at (goal.at.returns-in_default c).After-byte_at) (λ e. omega arith) (λ e. omega arith)))
