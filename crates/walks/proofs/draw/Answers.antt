-- `walks::draw` meets its contract: the walk is judged, and refused or drawn. Assumes nothing.
use native.Mathlib.Omega.{arith}
use Rattle.rules.proofs.Numbers.{passed_up}
use Rattle.walks.proofs.Fields.{start_near, count_few}
use Rattle.walks.proofs.Outcomes.{refused, had_none, was_drawn}
use Rattle.walks.proofs.draw.Goals as goal

pub invariant_of-walk : goal.invariant_of-walk
invariant_of-walk c =
    let a = c.args in
    record { near = rw c.start_of.ensures (start_near a.card.now a.w (omega arith)); few = rw c.visits_of.ensures (count_few a.card.now a.w) }

pub returns-in_err-end : goal.returns-in_err-end
returns-in_err-end c =
    let a = c.args in
    rw (passed_up c.from_residual.result _ c.from_residual.ensures.1)
    (refused a.card.now a.w a.vram.now _ _ c.start_of.ensures c.visits_of.ensures _ c.in_err-end.ensures.number)

pub returns-then-walk-eq0 : goal.returns-then-walk-eq0
returns-then-walk-eq0 c =
    let a = c.args in
    had_none a.card.now a.w a.vram.now _ _ c.start_of.ensures c.visits_of.ensures c.in_ok-end.ensures.number c.if-walk-eq0.true

pub returns : goal.returns
returns c =
    let a = c.args in
    rw (c.word.ensures, c.word-2.ensures)
    (was_drawn a.card.now a.w a.vram.now _ _ c.start_of.ensures c.visits_of.ensures c.in_ok-end.ensures.number c.if-walk-eq0.false c.draw-tally.ensures _ c.in_ok-end.ensures.end)
