-- What holds of the open collections at every step, the innermost first. Cited by the inner calls' contracts only.
use Rattle.std.specs.Prelude.{ℕ, ◌+◌, ◌≤◌, ◌<◌, List, [], ◌∷◌, IfSome}
use Rattle.utf8.specs.Boundary.{Boundary}
use Rattle.event.specs.Read.{events_limit}
use Rattle.spans.specs.declared.open.Open.{Open}

-- none counts more children than nodes were completed since it was opened
abbrev pub Below : List Open → ℕ → Type 0
Below [] n = Unit {0}
Below (o ∷ os) n = (o.before + o.children ≤ n) × Below os n

-- so no count of children is at its largest
pub record Countable (os : List Open) : Type 0 where
  pub nodes : ℕ
  pub below : Below os nodes
  pub few : nodes < events_limit

-- every start, and every first child's where there is one, is a boundary of the text
abbrev pub OnBoundaries : List ℕ → List Open → Type 0
OnBoundaries text [] = Unit {0}
OnBoundaries text (o ∷ os) = Boundary text o.start × IfSome o.first (λ first. Boundary text first) × OnBoundaries text os
