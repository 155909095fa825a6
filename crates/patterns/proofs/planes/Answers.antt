-- `patterns::planes` meets its contract, byte by byte. Assumes nothing.
use Prim.Native.Nat.{◌%◌}
use native.Mathlib.Omega.{arith}
use Rattle.rules.specs.Modes.{effective_by}
use Rattle.patterns.proofs.Held.{cleared}
use Rattle.patterns.proofs.planes.Goals as goal

pub returns : goal.returns
unfolding effective_by
returns c = λ p. cleared c.args.plane c.args.held (p % 4) (omega arith)
