-- `travel::travel::cursor_travel` meets its contract: an admitted text has no more characters than bytes.
use Rattle.std.proofs.Common.{arith}
use Rattle.travel.proofs.TravelLaws.{codes_most}
use Rattle.travel.proofs.travel.cursor_travel.Goals as goal

pub distances-requires-clause-chars_bound : goal.distances-requires-clause-chars_bound
distances-requires-clause-chars_bound c =
    let t = c.in_ok-text.text.content in
    omega (arith, codes_most t.bytes.now, t.within, c.char_count.ensures)
