-- `drawing::halves` meets its contract: the lower half and then the upper half are the whole. Assumes nothing.
use native.Mathlib.Omega.{arith}
use Rattle.drawing.proofs.Halved.{few_enabled, few_changed, whole}
use Rattle.drawing.proofs.halves.Goals as goal

pub overflow_add-enabled : goal.overflow_add-enabled
overflow_add-enabled c =
    let a = c.args in
    let q = c.requires in
    let few = few_enabled a.p.now a.card.now a.vram.now q.0 q.2 c.half_strokes-low.ensures c.draw_at-lower.ensures c.half_strokes-high.ensures c.draw_at-upper.ensures in
    omega (arith, few)

pub overflow_add-changed : goal.overflow_add-changed
overflow_add-changed c =
    let a = c.args in
    let q = c.requires in
    let few = few_changed a.p.now a.card.now a.vram.now q.0 q.2 c.half_strokes-low.ensures c.draw_at-lower.ensures c.half_strokes-high.ensures c.draw_at-upper.ensures in
    omega (arith, few)

pub returns : goal.returns
returns c =
    let a = c.args in
    let q = c.requires in
    whole a.p.now a.card.now a.vram.now q.0 q.2 c.half_strokes-low.ensures c.draw_at-lower.ensures c.half_strokes-high.ensures c.draw_at-upper.ensures
