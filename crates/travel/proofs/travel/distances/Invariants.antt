-- `travel::travel::distances` meets its contract. The loop's invariant: what is summed and what is left are the whole, from the index where
-- the cursor stands; and the sum is at most a text's length for each marker passed.
use Rattle.std.proofs.Common.{◌≡◌, ◌≤◌, map, ℕ, ◌+◌, ◌*◌, List, drop}
use Rattle.text.specs.Admission.{text_limit}
use Rattle.travel.specs.Travel.{clamped, distances}
use Rattle.travel.proofs.travel.distances.Given as goal

pub record Passed (chars : ℕ) (markers : List ℕ) (i sum from : ℕ) : Type 0 where
  pub total : sum + distances from (map (clamped chars) (drop i markers)) ≡ distances 0 (map (clamped chars) markers)
  pub inside : from ≤ chars
  pub most : sum ≤ i * text_limit

abbrev pub invariant-loop-marker : goal.invariant-loop-marker
invariant-loop-marker l = Passed l.chars l.markers l.marker-index l.sum l.from
