-- `walks::dots::visit` meets its contract. Assumes nothing.
use mathlib.Core.Path.{◌≡◌, ap, ◌∙◌}
use mathlib.Core.Bool.{Bool, cond}
use Prim.Native.Nat.{ℕ, ◌%◌}
use borrow.Author.Tests.{eq-eqb, ne_eqb}
use Rattle.raster.specs.Pixel.{bit}
use Rattle.span.specs.Fragments.{byte}
use Rattle.walks.proofs.Dotting.{chosen, dot-drawn, dot-left}
use Rattle.walks.proofs.dots.visit.Goals.{then-bit, else-bit}
use Rattle.walks.proofs.dots.visit.Goals as goal

taken : {b t : Bool} (x y : ℕ) → b ≡ t → cond t x y ≡ cond b x y
taken x y e = rw e

pub returns-after-bit : goal.returns-after-bit
unfolding bit
returns-after-bit c =
    let a = c.args in
    let r = a.card.now.registers in
    let e : c.if-bit.colour ≡ cond (bit a.w.«data» a.i) r.foreground r.background
    = elim c.if-bit.branch [ then-bit w ↦ w.colour-is ∙ taken r.foreground r.background (eq-eqb _ _ w.if-bit.true) | else-bit w ↦ w.colour-is ∙ taken r.foreground r.background (ne_eqb _ _ w.if-bit.false) ] in
    dot-drawn a.card.now a.w a.opaque a.shown a.i a.p a.vram.now c.if-shown-opaque.true c.requires.0 _ _ _ _
    (c.byte_at-mask.ensures ∙ c.planes-planes.ensures a.p)
    (c.byte_at-source.ensures ∙ (ap (λ (x : ℕ). byte x (a.p % 4)) e ∙ chosen (bit a.w.«data» a.i) r.foreground r.background (a.p % 4)))
    c.dot-changed.ensures.0 c.dot-changed.ensures.1

pub returns-else-shown-opaque : goal.returns-else-shown-opaque
unfolding bit
returns-else-shown-opaque c =
    let a = c.args in
    dot-left a.card.now a.w a.opaque a.shown a.i a.p a.vram.now c.if-shown-opaque.false
