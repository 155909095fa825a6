-- `walks::dots::draw` meets its contract. The loop's invariant: what the rest draws on the picture now is what all draw on the first. Assumes nothing.
use mathlib.Core.Path.{◌≡◌, refl, ap, ◌∙◌}
use mathlib.Core.Bool.{Bool, not, ◌||◌}
use Prim.Native.Nat.{◌+◌, ◌-◌, ◌/◌, ◌%◌, ◌<◌}
use native.Mathlib.Omega.{arith}
use lib.Dec.{eqb}
use lib.ListN.{length}
use Rattle.span.specs.Layers.{drawn_all, changed_all}
use Rattle.raster.specs.Pixel.{bit}
use Rattle.span.proofs.Drawn.{drawn-length}
use Rattle.rules.specs.Modes.{mode_of, is_opaque_line}
use Rattle.rules.specs.Lines.{stepped, visits as visits_from, dots}
use Rattle.walks.proofs.Fields.{nearer, stepped_near}
use Rattle.walks.proofs.Visits.{inside_next}
use Rattle.walks.proofs.Dotting.{turn_shows, turn_changes, turn_counts, single, same_eq}
use Rattle.walks.proofs.dots.draw.Goals as goal

pub overflow_sub-p : goal.overflow_sub-p
overflow_sub-p c =
    let l = c.loop-i in
    (inside_next _ _ _ (c.args.walk.now.visits - l.i) l.at (omega arith) l.invariant.4).0

pub visit-one-requires : goal.visit-one-requires
visit-one-requires c =
    let l = c.loop-i in
    let i = inside_next _ _ _ (c.args.walk.now.visits - l.i) l.at (omega arith) l.invariant.4 in
    (rw l.invariant.3 i.1, omega (arith, c.args.walk.now.few))

pub overflow_add-enabled : goal.overflow_add-enabled
overflow_add-enabled c =
    let l = c.loop-i in
    let small = single _ refl c.visit-one.ensures in
    record { fits = omega (arith, c.args.walk.now.few, l.invariant.0, small.0) }

pub overflow_add-changed : goal.overflow_add-changed
overflow_add-changed c =
    let l = c.loop-i in
    let small = single _ refl c.visit-one.ensures in
    record { fits = omega (arith, c.args.walk.now.few, l.invariant.1, small.1) }

pub loop-i-preserved : goal.loop-i-preserved
loop-i-preserved c =
    let l = c.loop-i in
    let a = c.args in
    let k = a.walk.now in
    let e = c.step-at.ensures in
    let left = k.visits - l.i in
    let one : k.visits - (l.i + 1) ≡ left - 1 = omega arith in
    let more : 0 < left = omega arith in
    let d = c.visit-one.ensures in
    let o = c.is_opaque-opaque.result in
    let cap = eqb (a.card.now.registers.mode / 32768 % 2) 1 in
    let last : cap || not (eqb (l.i + 1) k.visits) ≡ cap || not (eqb left 1)
    = ap (λ (t : Bool). cap || not t) (same_eq (l.i + 1) k.visits left 1 (λ h. omega arith) (λ h. omega arith)) in
    let x = k.bresenham1 in
    let y = k.bresenham2 in
    let small = single _ refl d in (
      omega (arith, l.invariant.0, small.0),
      omega (arith, l.invariant.1, small.1),
      rw e (nearer _ _ (stepped x y l.at) (omega arith) (stepped_near x y _ l.at l.invariant.2)),
      ap length d.shows ∙ (drawn-length _ _ l.vram ∙ l.invariant.3),
      rw (e, one) (inside_next x y _ left l.at more l.invariant.4).2,
      rw (e, one) (turn_shows a.card.now a.w o cap x y l.i left l.at more _ last l.vram _ _ d ∙ l.invariant.5),
      rw (e, one) (turn_counts a.card.now a.w o cap x y l.i left l.at more _ last l.vram _ _ d l.enabled ∙ l.invariant.6),
      rw (e, one) (turn_changes a.card.now a.w o cap x y l.i left l.at more _ last l.vram _ _ d l.changed ∙ l.invariant.7),
    )

pub returns : goal.returns
unfolding visits_from dots drawn_all changed_all bit
returns c =
    let l = c.loop-i in
    let a = c.args in
    let o : c.is_opaque-opaque.result ≡ is_opaque_line (mode_of a.card.now.registers.mode)
    = c.is_opaque-opaque.ensures ∙ ap is_opaque_line c.mode_of.ensures in
    let done : a.walk.now.visits - l.i ≡ 0 = omega arith in
    let i = l.invariant in
    record {
      shows = rw (← o) (rw done at i.5);
      counts = rw (← o) (let e = rw done at i.6 in omega arith);
      changes = rw (← o) (let e = rw done at i.7 in omega arith);
    }
