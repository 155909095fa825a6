-- `patterns::solid` meets its contract: the register twice, turned. Assumes nothing.
use mathlib.Core.Path.{◌∙◌}
use Prim.Native.Nat.{◌+◌}
use Rattle.span.proofs.Patterns.{tiled_solid}
use Rattle.patterns.proofs.Chosen.{turned_pair}
use Rattle.patterns.proofs.solid.Goals as goal

pub returns : goal.returns
returns c =
    let a = c.args in
    λ j. turned_pair a.x a.x a.at _ _ c.pair.ensures c.turned.ensures j ∙ tiled_solid a.x (a.at + j)
