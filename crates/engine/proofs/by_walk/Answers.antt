-- `engine::by_walk` meets its contract: the walk is gone, and refused or drawn. Assumes nothing.
use borrow.Author.Tests.{eq-eqb, ne_eqb}
use Rattle.rules.proofs.Numbers.{passed_up}
use Rattle.engine.proofs.Walking.{walk_refused, walk_continue, walk_line}
use Rattle.engine.proofs.by_walk.Goals as goal

pub returns-in_err-tally : goal.returns-in_err-tally
returns-in_err-tally c =
    let a = c.args in
    let p = c.requires in
    rw (passed_up c.from_residual.result _ c.from_residual.ensures.1) (walk_refused a.card.now a.w p.0 a.vram.now p.1 c.in_err-tally.ensures)

pub returns-then-w-eq-REGISTERS : goal.returns-then-w-eq-REGISTERS
returns-then-w-eq-REGISTERS c =
    let a = c.args in
    let p = c.requires in
    walk_continue a.card.now a.w p.0 a.vram.now p.1 (eq-eqb _ _ c.if-w-eq-REGISTERS.true) c.in_ok-tally.ensures

pub returns : goal.returns
returns c =
    let a = c.args in
    let p = c.requires in
    walk_line a.card.now a.w p.0 a.vram.now p.1 (ne_eqb _ _ c.if-w-eq-REGISTERS.false) c.in_ok-tally.ensures _ c.mask_used.ensures
