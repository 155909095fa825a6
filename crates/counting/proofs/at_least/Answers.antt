-- `counting::at_least` meets its contract. The loop's invariant: the bytes passed are counted. Assumes nothing.
use mathlib.Core.Path.{refl, ap₂, sym, ◌∙◌}
use Prim.Native.Nat.{ℕ, ◌+◌}
use native.Mathlib.Omega.{arith}
use Rattle.span.specs.Fragments.{counted}
use Rattle.span.proofs.Counted.{counted_step}
use Rattle.counting.proofs.Places.{as_value}
use Rattle.counting.proofs.at_least.Goals as goal

pub loop-i-init : goal.loop-i-init
unfolding counted
loop-i-init c = (omega arith, refl)

pub loop-i-preserved : goal.loop-i-preserved
loop-i-preserved c =
    let l = c.loop-i in
    let one = as_value _ in (
      omega (arith, one.0),
      ap₂ (λ (x y : ℕ). x + y) l.invariant.1 one.1 ∙ sym (counted_step l.i _),
    )
