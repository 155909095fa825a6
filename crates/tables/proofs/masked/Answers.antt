-- `tables::masked` meets its contract, byte by byte. Assumes nothing.
use mathlib.Core.Path.{ap, ◌∙◌}
use Prim.Native.Nat.{ℕ}
use Rattle.raster.specs.Pixel.{bit}
use Rattle.span.specs.Fragments.{byte}
use Rattle.tables.proofs.Reducing.{word_keeps, word-flips}
use Rattle.tables.proofs.masked.Goals as goal

pub returns : goal.returns
returns c =
    let a = c.args in
    let e = c.widen.ensures in
    λ k h. (
      ap (λ (n : ℕ). byte n k) c.reduce.ensures.1 ∙ word_keeps a.op a.mask a.source _ k (bit a.bits k) h (e k h),
      ap (λ (n : ℕ). byte n k) c.reduce.ensures.0 ∙ word-flips a.op a.mask a.source _ k (bit a.bits k) h (e k h),
    )
