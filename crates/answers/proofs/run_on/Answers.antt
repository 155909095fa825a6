-- `answers::run_on` meets its contract. Assumes nothing.
use native.Mathlib.Omega.{arith}
use Rattle.answers.proofs.Runs.{rest_fits, replayed}
use Rattle.answers.proofs.run_on.Goals as goal

pub overflow_mul-result : goal.overflow_mul-result
overflow_mul-result c = omega (arith, rest_fits _ _ _ _ c.run-ran.result c.run-ran.ensures)

pub returns : goal.returns
returns c = rw c.number.ensures (replayed _ _ _ _ c.run-ran.result c.run-ran.ensures)
