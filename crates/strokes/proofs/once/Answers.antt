-- `strokes::once` meets its contract: four words. Assumes nothing.
use native.Mathlib.Omega.{arith}
use Rattle.strokes.proofs.Tallies.{marks_small, once_turn}
use Rattle.strokes.proofs.once.Goals as goal

pub overflow_add-a : goal.overflow_add-a
overflow_add-a c = omega (arith, marks_small c.word-a.ensures.1, marks_small c.word-b.ensures.1)

pub overflow_add-a-2 : goal.overflow_add-a-2
overflow_add-a-2 c = omega (arith, marks_small c.word-a.ensures.1, marks_small c.word-b.ensures.1, marks_small c.word-c.ensures.1)

pub overflow_add-a-3 : goal.overflow_add-a-3
overflow_add-a-3 c = omega (arith, marks_small c.word-a.ensures.1, marks_small c.word-b.ensures.1, marks_small c.word-c.ensures.1, marks_small c.word-d.ensures.1)

pub returns : goal.returns
returns c =
    once_turn c.args.t c.args.part.now c.word-a.new.part c.word-b.new.part c.word-c.new.part c.word-a.ensures c.word-b.ensures c.word-c.ensures c.word-d.ensures c.total.ensures
    (λ i. (c.slice_known-1.given i).fits) (λ i. (c.slice_known-2-1.given i).fits) (λ i. (c.slice_known-3-1.given i).fits) (λ i. (c.slice_known-4-1.given i).fits) c.requires
