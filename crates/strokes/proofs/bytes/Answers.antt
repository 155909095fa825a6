-- `strokes::bytes` meets its contract: four stores. Assumes nothing.
use mathlib.Core.Path.{refl}
use Rattle.strokes.proofs.Stored.{four_stored}
use Rattle.strokes.proofs.bytes.Goals as goal

pub returns : goal.returns
returns c = four_stored c.args.words _ refl c.store.ensures c.store-2.ensures c.store-3.ensures c.store-4.ensures
