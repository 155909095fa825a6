-- `drawing::planned` meets its contract. Assumes nothing.
use mathlib.Core.Path.{◌≡◌, refl, ap, sym, ◌∙◌}
use mathlib.Core.Bool.{false}
use Prim.Native.Nat.{ℕ, ◌%◌}
use Rattle.raster.specs.Pixel.{bit}
use Rattle.raster.proofs.Below.{bit_zeros}
use Rattle.span.specs.Fragments.{counted}
use Rattle.span.proofs.Changed.{differing-none}
use Rattle.span.proofs.Counted.{counted_none}
use Rattle.span.proofs.Drawn.{drawn-none}
use Rattle.span.proofs.Spans.{spanned_off, drew}
use Rattle.rules.specs.Modes.{effective}
use Rattle.plan.specs.Plan.{planned}
use Rattle.drawing.proofs.planned.Goals as goal

pub returns-then-p-eq0 : goal.returns-then-p-eq0
unfolding counted
returns-then-p-eq0 c =
    let a = c.args in
    let off : (j : ℕ) → (planned a.p.now a.card.now).on j ≡ false
    = λ j. ap (λ (x : ℕ). bit x (j % 32)) c.if-p-eq0.true ∙ bit_zeros (j % 32)
    in record {
      shows = sym (drawn-none a.p.now.op _ a.vram.now (λ p _. spanned_off (effective a.card.now) (planned a.p.now a.card.now) (λ j _. off j) p));
      counts = sym (counted_none a.p.now.width (planned a.p.now a.card.now).on (λ j _. off j));
      changes = sym (differing-none a.vram.now);
    }

pub returns-in_default : goal.returns-in_default
returns-in_default c =
    let a = c.args in
    let e = drew _ a.p.now.op (effective a.card.now) (planned a.p.now a.card.now) c.strokes-s.ensures a.p.now.first a.vram.now c.draw_at.ensures refl c.requires.0 in
    record { shows = e.0; counts = e.1; changes = e.2 }
