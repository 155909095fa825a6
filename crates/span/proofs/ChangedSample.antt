-- Why each layer is judged on the picture before it, and why a number of 0 needs layers that lie apart: a pixel painted 1 and then 0 again. Assumes nothing.
use mathlib.Core.Path.{◌≡◌, refl}
use mathlib.Core.List.{List, [], ◌∷◌}
use Prim.Native.Nat.{ℕ}
use Rattle.raster.specs.Pixel.{bit, number, result, made}
use Rattle.span.specs.Fragments.{Fragment, paint, drawn, counted, differing}
use Rattle.span.specs.Layers.{drawn_all, changed_all}

abbrev layers : List (ℕ → Fragment)
layers = (λ p. paint 255 1) ∷ (λ p. paint 255 0) ∷ []

-- two pixels are changed, and the picture is as it was
pub changed_back : (changed_all 3 layers (0 ∷ []) ≡ 2) × (drawn_all 3 layers (0 ∷ []) ≡ 0 ∷ [])
unfolding drawn drawn_all changed_all counted differing made number result bit
changed_back = (refl, refl)
