-- `words::pair` meets its contract. Assumes nothing.
use native.Mathlib.Omega.{arith}
use Rattle.words.proofs.Spread.{paired}
use Rattle.words.proofs.pair.Goals as goal

pub returns : goal.returns
returns c = λ k h. paired c.args.low c.args.high k (omega arith) (omega arith) h
