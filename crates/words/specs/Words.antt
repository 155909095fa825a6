-- Bytes joined to one number, and added up; and eight pixels of which some are marked.
use Rattle.std.specs.Prelude.{◌≡◌, Bool, List, [], ◌∷◌, ℕ, ◌+◌, ◌*◌}
use Rattle.raster.specs.Pixel.{value}
use Rattle.span.specs.Fragments.{listed}

-- the first is the lowest
unfoldable pub joined : List ℕ → ℕ
joined [] = 0
joined (x ∷ xs) = x + 256 * joined xs

unfoldable pub added : List ℕ → ℕ
added [] = 0
added (x ∷ xs) = x + added xs

-- byte k of the word w is one where the test passes at k, else 0
pub record Marks (on : ℕ → Bool) (w : ℕ) : Type 0 where
  pub marks : w ≡ joined (listed 8 (λ k. value (on k)))
