-- Sample S9 of the scope paper: four composites. Assumes nothing.
use mathlib.Core.Path.{◌≡◌, refl}
use Rattle.raster.specs.Pixel.{bit, number, result, composite}

pub s9 : (composite 6 6 ≡ 5) × (composite 3 6 ≡ 0) × (composite 1 7 ≡ 3) × (composite 6 1 ≡ 2)
unfolding composite result number bit
s9 = (refl, refl, refl, refl)
