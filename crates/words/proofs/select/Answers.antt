-- `words::select` meets its contract: the exclusive-or trick picks bit by bit. Assumes nothing.
use native.Mathlib.Omega.{arith}
use Rattle.raster.proofs.Reducing.{selected}
use Rattle.words.proofs.select.Goals as goal

pub returns : goal.returns
returns c = selected 64 c.args.c c.args.a c.args.b (omega arith) (omega arith) (omega arith)
