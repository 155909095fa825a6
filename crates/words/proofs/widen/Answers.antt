-- `words::widen` meets its contract: one computed test. Assumes nothing.
use native.Mathlib.Omega.{arith}
use Rattle.words.proofs.Spread.{widened}
use Rattle.words.proofs.widen.Goals as goal

pub returns : goal.returns
returns c = λ k h. widened c.args.bits k (omega arith) h
