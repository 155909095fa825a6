-- `words::differing` meets its contract. Assumes nothing.
use native.Mathlib.Omega.{arith}
use Rattle.words.proofs.Marks.{marked}
use Rattle.words.proofs.differing.Goals as goal

pub returns : goal.returns
returns c = record { marks = marked c.args.a c.args.b (omega arith) (omega arith) }
