-- The numbers of a row of the table fit 32 bits.
use mathlib.Core.Path.{◌≡◌, sym, subst}
use Prim.Native.Nat.{ℕ, ◌≤◌}
use mathlib.Core.List.{List}
use native.Mathlib.Omega.{arith}
use Rattle.parser.specs.Machine.{Outcome, built, refused}
use Rattle.parser.specs.Call.{table_row}
use Rattle.parser.specs.Bounds.{Bounded}
use Rattle.quarto_yaml.specs.None.{largest}
use Rattle.quarto_yaml.specs.Fit.{Fit}

row_fits : (n r : ℕ) (o : Outcome) → n ≤ largest → r ≤ largest → Bounded n r o → Fit (table_row o)
row_fits n r (built xs ps) l h b = (omega arith, (omega arith, (omega arith, tt)))
row_fits n r (refused number place) l h b = (omega arith, (omega arith, tt))

-- of an answer that tells the row
pub told_fits : (n r : ℕ) (o : Outcome) (row : List ℕ) → n ≤ largest → r ≤ largest → Bounded n r o → row ≡ table_row o → Fit row
told_fits n r o row l h b e = subst (λ (x : List ℕ). Fit x) (sym e) (row_fits n r o l h b)
