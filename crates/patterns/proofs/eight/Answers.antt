-- `patterns::eight` meets its contract, byte by byte. Assumes nothing.
use mathlib.Core.Path.{ap, ◌∙◌}
use Prim.Native.Nat.{ℕ}
use Rattle.raster.specs.Pixel.{bit}
use Rattle.span.specs.Fragments.{byte}
use Rattle.patterns.proofs.Chosen.{picked}
use Rattle.patterns.proofs.eight.Goals as goal

pub returns : goal.returns
returns c =
    let a = c.args in
    λ k h. ap (λ (n : ℕ). byte n k) c.select.ensures ∙ picked _ a.x a.y k (bit a.bits k) h (c.widen.ensures k h)
