use lib.ListN.{length}
use Rattle.line.proofs.Turns.{Going}
use Rattle.serial.specs.Steps.{before}
use Rattle.serial.proofs.read.Given as goal

abbrev pub invariant-loop-rest : goal.invariant-loop-rest
invariant-loop-rest l = Going l.bytes (before l.initial.r l.initial.card l.initial.vram) l.rest (before l.r l.card l.vram)

abbrev pub decreases-loop-rest : goal.decreases-loop-rest
decreases-loop-rest l = length l.rest
