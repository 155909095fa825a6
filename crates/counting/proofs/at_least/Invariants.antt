use mathlib.Core.Path.{◌≡◌}
use Prim.Native.Nat.{◌≤◌}
use lib.Dec.{leb}
use lib.ListN.{get_or}
use Rattle.span.specs.Fragments.{counted}
use Rattle.counting.proofs.at_least.Given as goal

abbrev pub invariant-loop-i : goal.invariant-loop-i
invariant-loop-i l = (l.n ≤ l.i) × (l.n ≡ counted l.i (λ k. leb l.least (get_or l.a k 0)))
