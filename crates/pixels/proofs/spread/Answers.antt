-- `pixels::spread` meets its contract: the lowest bit, 64 times. Assumes nothing.
use Prim.Native.Nat.{◌%◌}
use native.Mathlib.Omega.{arith}
use Rattle.raster.proofs.Bits.{bit-zero, number_spread}
use Rattle.pixels.proofs.spread.Goals as goal

pub returns : goal.returns
returns c = simp bit-zero (number_spread 64 (c.args.n % 2) (omega arith))
