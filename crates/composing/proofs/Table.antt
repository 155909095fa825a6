-- The rule of the table of composites: one test over all 256 entries, which antt computes, carried to each index. Assumes nothing.
use mathlib.Core.Path.{◌≡◌, ◌∙◌}
use mathlib.Core.Bool.{Bool}
use mathlib.Core.List.{List, []}
use Prim.Native.Nat.{ℕ, ◌%◌}
use native.Mathlib.Omega.{arith}
use lib.Dec.{T, eqb, eqb→eq}
use lib.ListN.{get_or}
use Rattle.raster.specs.Pixel.{composite}
use Rattle.raster.proofs.Below.{all_below, all_are_below}
use Rattle.raster.proofs.Composite.{composite_low}

abbrev entry : List (List ℕ) → ℕ → ℕ → Bool
entry t a b = eqb (get_or (get_or t a []) b 0) (composite a b)

-- row a and column b of the table hold the composite of a then b
abbrev pub right : List (List ℕ) → Bool
right t = all_below 16 (λ a. all_below 16 (entry t a))

pub found : (t : List (List ℕ)) → T (right t) → (a b : ℕ) → get_or (get_or t (a % 16) []) (b % 16) 0 ≡ composite a b
found t passed a b =
    eqb→eq _ _
    (all_are_below 16 (entry t (a % 16)) (all_are_below 16 (λ r. all_below 16 (entry t r)) passed (a % 16) (omega arith)) (b % 16) (omega arith))
    ∙ composite_low a b
