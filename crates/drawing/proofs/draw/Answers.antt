-- `drawing::draw` meets its contract. Assumes nothing.
use mathlib.Core.Path.{sym}
use Rattle.span.proofs.Changed.{differing-none}
use Rattle.rules.proofs.Tests.{said}
use Rattle.drawing.proofs.Fitting.{fits}
use Rattle.drawing.proofs.draw.Goals as goal

pub planned-requires : goal.planned-requires
planned-requires c = fits _ _ (said c.drawable.ensures c.if-drawable.true)

pub returns-else-drawable : goal.returns-else-drawable
returns-else-drawable c = let d = said c.drawable.ensures c.if-drawable.false in
    record { shows = rw d; counts = rw d; changes = sym (differing-none _) }
