-- `checking::well_formed` meets its contract. The loop's invariant: the padding of the entries that are left decides.
-- Assumes nothing.
use mathlib.Core.Path.{◌∙◌}
use native.Mathlib.Omega.{arith}
use Rattle.format.proofs.Padding.{next_pads}
use Rattle.checking.proofs.well_formed.Goals as goal

pub loop-i-preserved : goal.loop-i-preserved
loop-i-preserved c =
    let l = c.loop-i in
    next_pads _ l.i _ (omega arith) c.if-part-at-ne0.false c.if-part-at-ne0-2.false ∙ l.invariant
