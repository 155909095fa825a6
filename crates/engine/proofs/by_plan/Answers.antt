-- `engine::by_plan` meets its contract: the plan is carried out. Assumes nothing.
use mathlib.Core.Path.{ap, sym, ◌∙◌}
use Rattle.span.specs.Fragments.{differing}
use Rattle.demands.proofs.Changed.{whole}
use Rattle.demands.proofs.Demand3.{visits-none}
use Rattle.plan.specs.Plan.{left}
use Rattle.plan.specs.declared.Plan.{Plan}
use Rattle.plan.proofs.PlanEffect.{planned-drawable, planned-shows, planned-counts, planned-leaves}
use Rattle.drawing.proofs.Fitting.{carried}
use Rattle.engine.proofs.Carried.{left_after}
use Rattle.engine.proofs.by_plan.Goals as goal

pub returns : goal.returns
returns c =
    let a = c.args in
    let d = a.card.now in
    let v = a.vram.now in
    let of = c.requires.0 in
    let still = c.requires.1 in
    let ok = c.requires.2 in
    let drew = carried d v of (planned-drawable d a.w still v ok) c.draw-tally.ensures in
    let shown = drew.shows ∙ sym (planned-shows d a.w still v ok) in
    record {
      number = sym ok;
      counts = drew.counts ∙ sym (planned-counts d a.w still v ok);
      changes = drew.changes ∙ (ap (differing v) shown ∙ sym (whole d a.w v (visits-none d a.w _ still)));
      leaves = c.left.ensures ∙ (ap (λ (p : Plan). left p.effect d a.w c.draw-tally.new.vram) of
          ∙ (left_after d a.w v c.draw-tally.new.vram drew.shows ∙ sym (planned-leaves d a.w still v ok)));
      shows = shown;
    }
