-- A truth value added is the one that is counted. Assumes nothing.
use mathlib.Core.Path.{◌≡◌, refl}
use mathlib.Core.Bool.{Bool, true, false}
use Prim.Native.Nat.{◌≤◌}
use native.Mathlib.Omega.{arith}
use mir.Val.{bool_byte}
use Rattle.raster.specs.Pixel.{value}

pub as_value : (b : Bool) → (bool_byte b ≤ 1) × (bool_byte b ≡ value b)
as_value true = (omega arith, refl)
as_value false = (omega arith, refl)
