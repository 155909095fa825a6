-- `trace::replay::run` meets its contract. The loop's invariant: what is left of the entries, run from the state now, gives what the
-- whole gives. Assumes nothing.
use mathlib.Core.Path.{sym}
use Prim.Native.Nat.{◌<◌, ◌≤◌}
use native.Mathlib.Omega.{arith}
use Rattle.std.proofs.Common.{min}
use Rattle.rules.proofs.Tests.{said}
use Rattle.format.specs.Traces.{largest, entry_count}
use Rattle.format.proofs.Tested.{formed}
use Rattle.trace.proofs.Runs.{run-malformed, run_bad}
use Rattle.trace.proofs.Turns.{begins, ends, read_inside, turn_refused, turn_applied}
use Rattle.trace.proofs.replay.run.Goals as goal

pub returns-then-not-well_formed : goal.returns-then-not-well_formed
returns-then-not-well_formed c = rw c.nothing.ensures (sym (run-malformed _ _ _ _ (said c.well_formed-2.ensures c.if-not-well_formed.true)))

pub returns-then-bad_length : goal.returns-then-bad_length
returns-then-bad_length c =
    rw c.nothing-then-bad_length.ensures (sym
    (run_bad _ _ _ _ (said c.well_formed-2.ensures c.if-not-well_formed.false)
    (said c.bad_length.ensures c.if-bad_length.true)))

pub overflow_cast-count : goal.overflow_cast-count
overflow_cast-count c =
    let few : entry_count c.args.part.now ≤ largest = (formed _ (said c.well_formed-2.ensures c.if-not-well_formed.false)).few in
    omega (arith, few)

pub loop-i-init : goal.loop-i-init
loop-i-init c =
    rw c.nothing-ran.ensures (begins _ _ _ _ (said c.well_formed-2.ensures c.if-not-well_formed.false) (said c.bad_length.ensures c.if-bad_length.false))

pub overflow_add-ran-in-Ok : goal.overflow_add-ran-in-Ok
overflow_add-ran-in-Ok c =
    let more : c.loop-i.i < min (entry_count c.args.part.now) c.args.budget = omega (arith, c.min-i-end.ensures, c.loop-i-test.true) in
    let g = turn_applied c.loop-i.invariant more (read_inside _ _ _ more c.entry_at-w.ensures) c.in-Ok.ensures.wrote in
    omega (arith, g.few, g.pixels)

pub overflow_add-ran-in-Ok-2 : goal.overflow_add-ran-in-Ok-2
overflow_add-ran-in-Ok-2 c =
    let more : c.loop-i.i < min (entry_count c.args.part.now) c.args.budget = omega (arith, c.min-i-end.ensures, c.loop-i-test.true) in
    let g = turn_applied c.loop-i.invariant more (read_inside _ _ _ more c.entry_at-w.ensures) c.in-Ok.ensures.wrote in
    omega (arith, g.few, g.pixels, g.changed)

pub returns-in-Err : goal.returns-in-Err
returns-in-Err c =
    let more : c.loop-i.i < min (entry_count c.args.part.now) c.args.budget = omega (arith, c.min-i-end.ensures, c.loop-i-test.true) in
    turn_refused c.loop-i.invariant more (read_inside _ _ _ more c.entry_at-w.ensures) c.in-Err.ensures.wrote

pub loop-i-preserved : goal.loop-i-preserved
loop-i-preserved c =
    let more : c.loop-i.i < min (entry_count c.args.part.now) c.args.budget = omega (arith, c.min-i-end.ensures, c.loop-i-test.true) in
    turn_applied c.loop-i.invariant more (read_inside _ _ _ more c.entry_at-w.ensures) c.in-Ok.ensures.wrote

pub returns : goal.returns
returns c = ends c.loop-i.invariant (omega (arith, c.min-i-end.ensures, c.loop-i-test.false))
