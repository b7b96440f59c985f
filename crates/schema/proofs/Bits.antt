-- The integer's payload (E2): its bits are the machine's two's complement, and its two halves make them up.
use mathlib.Core.Path.{◌≡◌, refl}
use Prim.Native.Nat.{◌+◌, ◌*◌, ◌/◌, ◌%◌, ◌^◌}
use native.Mathlib.Nat.{div-add-mod'}
use lib.IntN.{ℤ, pos, negsuc}
use mir.Syntax.{w64}
use mir.Val.{of_z}
use Rattle.schema.specs.Record.{twos_complement}

pub machine_bits : (z : ℤ) → twos_complement z ≡ of_z w64 z
machine_bits (pos m) = refl
machine_bits (negsuc m) = refl

pub halves : (z : ℤ) → twos_complement z / 2 ^ 32 * 2 ^ 32 + twos_complement z % 2 ^ 32 ≡ twos_complement z
halves z = div-add-mod' (twos_complement z) (2 ^ 32)
