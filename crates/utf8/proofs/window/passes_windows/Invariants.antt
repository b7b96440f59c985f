-- `utf8::window::passes_windows` meets its contract. The loop's invariant: as long as nothing misfits, each byte met fits those before it.
use Rattle.std.proofs.Common.{◌≡◌, ℕ, ◌≤◌, ◌<◌}
use Rattle.utf8.specs.Window.{FitsAt}
use Rattle.utf8.proofs.window.passes_windows.Given as goal

abbrev pub invariant-loop-i : goal.invariant-loop-i
invariant-loop-i l = l.misfits ≡ 0 → (j : ℕ) → 3 ≤ j → j < l.i → FitsAt l.s j
