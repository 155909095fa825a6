use mathlib.Core.Path.{◌≡◌}
use Prim.Native.Nat.{◌*◌, ◌-◌}
use Rattle.format.specs.Traces.{padded_at, well_formed}
use Rattle.checking.proofs.well_formed.Given as goal

abbrev pub invariant-loop-i : goal.invariant-loop-i
invariant-loop-i l = padded_at l.part (12 * l.i) (l.count - l.i) ≡ well_formed l.part
