-- What holds of every open collection still holds after a child more.
use Rattle.std.specs.Prelude.{Option, None, Some, IfSome}
use Rattle.std.specs.Option.{option_or}
use mathlib.Core.List.{List, [], ◌∷◌}
use Prim.Native.Nat.{ℕ, ◌+◌, ◌≤◌}
use native.Mathlib.Omega.{arith}
use Rattle.utf8.specs.Boundary.{Boundary}
use Rattle.spans.specs.Collection.{with_child}
use Rattle.spans.specs.declared.open.Open.{Open}
use Rattle.parser.specs.Opens.{Below, OnBoundaries}

pub below_up : (os : List Open) (n m : ℕ) → n ≤ m → Below os n → Below os m
below_up [] n m h b = tt
below_up (o ∷ os) n m h b = (omega arith, below_up os n m h b.1)

pub below_more : (i : ℕ) (os : List Open) (n : ℕ) → Below os n → Below (with_child i os) (n + 1)
below_more i [] n b = tt
below_more i (o ∷ os) n b = (omega arith, below_up os n (n + 1) (omega arith) b.1)

pub boundaries_more : (text : List ℕ) (i : ℕ) (os : List Open) → Boundary text i → OnBoundaries text os → OnBoundaries text (with_child i os)
boundaries_more text i [] x b = tt
boundaries_more text i (o ∷ os) x b = (b.0, first o.first b.1, b.2)
  where
    first : (f : Option ℕ) → IfSome f (λ j. Boundary text j) → IfSome (option_or f (Some i)) (λ j. Boundary text j)
    first None h = x
    first (Some j) h = h
