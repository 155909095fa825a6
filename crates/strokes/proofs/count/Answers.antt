-- `strokes::count` meets its contract: whole turns of the word, and what is left. Assumes nothing.
use Prim.Native.Nat.{◌/◌, ◌%◌}
use native.Mathlib.Nat.{mul-le-mul_left}
use native.Mathlib.Omega.{arith}
use lib.Count.{ones-le}
use Rattle.raster.specs.Pixel.{bit}
use Rattle.span.proofs.Counted.{counted_le}
use Rattle.strokes.proofs.SetBits.{one_shifted, repeated}
use Rattle.strokes.proofs.count.Goals as goal

pub overflow_mul-turns : goal.overflow_mul-turns
overflow_mul-turns c = omega (arith, mul-le-mul_left (c.args.n / 32) (ones-le 32 c.args.enable (omega arith)))

pub overflow_add-result : goal.overflow_add-result
overflow_add-result c =
    let a = c.args in
    let e = repeated a.enable a.n (omega arith) in
    rw (one_shifted (a.n % 32) (omega arith)) (omega (arith, e, counted_le a.n (λ j. bit a.enable (j % 32))))

pub returns : goal.returns
returns c =
    let a = c.args in
    rw (one_shifted (a.n % 32) (omega arith)) (repeated a.enable a.n (omega arith))
