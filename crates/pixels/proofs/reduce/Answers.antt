-- `pixels::reduce` meets its contract: what the operation makes of a word of zeros and of a word of ones. Assumes nothing.
use mathlib.Core.Path.{◌≡◌, ap₂}
use mathlib.Core.Bool.{true, false}
use Prim.Native.Nat.{ℕ, ◌-◌, ◌^◌}
use lib.Bits.{bit_xor}
use Rattle.raster.specs.Pixel.{made}
use Rattle.raster.proofs.Below.{bit_zeros}
use Rattle.raster.proofs.Bits.{bit-ones}
use Rattle.raster.proofs.Reducing.{made_constant, result_bits}
use Rattle.pixels.proofs.reduce.Goals as goal

pub returns : goal.returns
returns c =
    let a = c.args in
    let b = result_bits a.op in
    let zeros : c.select-zeros.result ≡ made 64 a.op a.mask a.source 0
    = rw (
      c.select-zeros.ensures,
      c.select-of_zeros.ensures,
      c.spread-2.ensures,
      c.spread.ensures,
    )
    (made_constant 64 a.op a.mask a.source 0 false _ _ (λ k _. bit_zeros k) b.1 b.3)
    in
    let ones : c.select-ones.result ≡ made 64 a.op a.mask a.source (2 ^ 64 - 1)
    = rw
    (c.select-ones.ensures, c.select-of_ones.ensures, c.spread-4.ensures, c.spread-3.ensures)
    (made_constant 64 a.op a.mask a.source (2 ^ 64 - 1) true _ _ (bit-ones 64) b.0 b.2)
    in
    (zeros, ap₂ (λ (x y : ℕ). bit_xor x y) zeros ones)
