use Rattle.trace.proofs.Turns.{Going}
use Rattle.trace.proofs.replay.run.Given as goal

abbrev pub invariant-loop-i : goal.invariant-loop-i
invariant-loop-i l = Going l.part l.count l.budget l.i l.initial.card l.initial.vram l.ran l.card l.vram
