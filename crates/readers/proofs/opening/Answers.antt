-- `readers::opening` meets its contract. Assumes nothing.
use mathlib.Core.Path.{◌∙◌}
use native.Mathlib.Omega.{arith}
use Rattle.rules.proofs.Tests.{said}
use Rattle.format.proofs.Inside.{word_inside}
use Rattle.line.specs.Serial.{new_reader}
use Rattle.readers.proofs.opening.Goals as goal

pub returns-clause-answers : goal.returns-clause-answers
unfolding new_reader
returns-clause-answers c =
    simp (said c.good_header.ensures c.if-not-good_header.false, c.new.ensures, c.word_at.ensures ∙ word_inside _ 0 (omega arith))
