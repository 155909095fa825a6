-- `walks::steps::Walk::judge` meets its contract. The loop's invariant: what was found so far and what the rest has is what the whole has. Assumes nothing.
use mathlib.Core.Path.{◌≡◌, sym, ◌∙◌}
use mathlib.Core.Bool.{Bool, false, ◌||◌}
use Prim.Native.Nat.{◌+◌, ◌-◌, ◌^◌, ◌<◌}
use native.Mathlib.Omega.{arith}
use Rattle.rules.specs.Lines as Lines
use Rattle.rules.proofs.Tests.{or_false}
use Rattle.walks.proofs.Fields.{nearer, stepped_near}
use Rattle.walks.proofs.Visits.{walked_next, strays_turn, wild_turn}
use Rattle.walks.proofs.steps.Walk.judge.Goals as goal

pub too_far-requires-in-loop-i : goal.too_far-requires-in-loop-i
too_far-requires-in-loop-i c =
    let l = c.loop-i in
    let k = c.args.self.now in
    rw c.step-next.ensures
    (nearer _ (2 ^ 40) (Lines.stepped k.bresenham1 k.bresenham2 l.at) (omega (arith, k.few)) (stepped_near k.bresenham1 k.bresenham2 _ l.at l.invariant.0)).1

pub loop-i-preserved : goal.loop-i-preserved
loop-i-preserved c =
    let l = c.loop-i in
    let k = c.args.self.now in
    let x = k.bresenham1 in
    let y = k.bresenham2 in
    let e = c.step-next.ensures in
    let left = k.visits - l.i in
    let one : k.visits - (l.i + 1) ≡ left - 1 = omega arith in
    let more : 0 < left = omega arith in (
      rw e (nearer _ _ (Lines.stepped x y l.at) (omega arith) (stepped_near x y _ l.at l.invariant.0)),
      rw (c.outside-strays.ensures, e, one) (strays_turn x y c.args.n left l.at l.strays more ∙ l.invariant.1),
      rw (c.too_far.ensures, c.too_far-in-loop-i.ensures, e, one) (wild_turn x y left l.at l.wild more ∙ l.invariant.2),
      rw (e, one) (sym (walked_next x y left l.at more) ∙ l.invariant.3),
    )

-- what was found, where nothing is left
found : (b : Bool) {t : Bool} → b || false ≡ t → t ≡ b
found b e = sym e ∙ or_false b

pub returns-then-wild-clause-number : goal.returns-then-wild-clause-number
unfolding Lines.visits
returns-then-wild-clause-number c =
    let l = c.loop-i in
    let done : c.args.self.now.visits - l.i ≡ 0 = omega arith in
    rw (found l.strays (rw done at l.invariant.1), c.if-strays.false, found l.wild (rw done at l.invariant.2), c.if-wild.true)

pub returns-clause-number : goal.returns-clause-number
unfolding Lines.visits
returns-clause-number c =
    let l = c.loop-i in
    let done : c.args.self.now.visits - l.i ≡ 0 = omega arith in
    rw (found l.strays (rw done at l.invariant.1), c.if-strays.false, found l.wild (rw done at l.invariant.2), c.if-wild.false)

pub returns-clause-end : goal.returns-clause-end
unfolding Lines.walked
returns-clause-end c =
    let l = c.loop-i in
    let done : c.args.self.now.visits - l.i ≡ 0 = omega arith in
    rw done at l.invariant.3
