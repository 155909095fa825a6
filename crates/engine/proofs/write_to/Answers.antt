-- `engine::write_to` meets its contract, for every card, write and picture: the plan is made and judged, and one of the ways is gone. Assumes nothing.
use mathlib.Core.Path.{refl}
use Rattle.rules.proofs.Numbers.{passed_up}
use Rattle.rules.proofs.Tests.{said}
use Rattle.engine.proofs.Letters.{text_still, kept_of}
use Rattle.engine.proofs.Walking.{write_refused, kept_back, still_accepted}
use Rattle.engine.proofs.write_to.Goals as goal

pub returns-in_err-refuse-clause-wrote : goal.returns-in_err-refuse-clause-wrote
returns-in_err-refuse-clause-wrote c =
    let a = c.args in
    rw (passed_up c.from_residual.result _ c.from_residual.ensures.1) (write_refused a.card.now a.w a.vram.now c.plan_of-p.ensures _ c.in_err-refuse.ensures)

pub text-requires : goal.text-requires
text-requires c =
    let a = c.args in
    let t = said c.is_text.ensures c.if-is_text.true in
    (t, still_accepted a.card.now a.w _ c.plan_of-p.ensures c.in_ok-refuse.ensures refl (text_still a.card.now a.w t))

pub returns-then-is_walk-clause-refused : goal.returns-then-is_walk-clause-refused
returns-then-is_walk-clause-refused c = kept_back c.args.card.now c.args.w c.args.vram.now _ c.by_walk.ensures

pub by_plan-requires : goal.by_plan-requires
by_plan-requires c =
    let a = c.args in
    let of = c.plan_of-p.ensures in
    let still = said c.is_walk.ensures c.if-is_walk.false in
    (of, still, still_accepted a.card.now a.w _ of c.in_ok-refuse.ensures refl still)

pub returns-then-is_text-clause-kept : goal.returns-then-is_text-clause-kept
returns-then-is_text-clause-kept c = kept_of c.args.card.now c.args.w c.args.vram.now _ _ _ c.text.ensures

pub returns-then-is_walk-clause-kept : goal.returns-then-is_walk-clause-kept
returns-then-is_walk-clause-kept c = kept_of c.args.card.now c.args.w c.args.vram.now _ _ _ c.by_walk.ensures

pub returns-clause-kept : goal.returns-clause-kept
returns-clause-kept c = kept_of c.args.card.now c.args.w c.args.vram.now _ _ _ c.by_plan.ensures
