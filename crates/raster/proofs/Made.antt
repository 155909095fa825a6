-- One pixel as it is made, over any width: each law once. `made_five` and `made_restores` assume an old pixel of that width.
use mathlib.Core.Path.{◌≡◌, refl, ap, sym, ◌∙◌}
use mathlib.Core.Bool.{Bool, true, false, cond}
use Prim.Native.Nat.{ℕ, ◌^◌, ◌<◌}
use Rattle.raster.specs.Pixel.{bit, result, made, composite}
use Rattle.raster.proofs.Bits.{bit-number, number_below, same_bits}
use Rattle.raster.proofs.Composite.{result-composite, result_five}

-- the new bit k
pub made-bit : (w op mask source old k : ℕ) → k < w
    → bit (made w op mask source old) k ≡ cond (bit mask k) (result op (bit source k) (bit old k)) (bit old k)
unfolding made
made-bit w op mask source old k h = bit-number w (λ j. cond (bit mask j) (result op (bit source j) (bit old j)) (bit old j)) k h

-- a made pixel has w bits
pub made_below : (w op mask source old : ℕ) → made w op mask source old < 2 ^ w
unfolding made
made_below w op mask source old = number_below w (λ k. cond (bit mask k) (result op (bit source k) (bit old k)) (bit old k))

-- a bit outside the mask stays
pub made-outside : (w op mask source old k : ℕ) → k < w → bit mask k ≡ false → bit (made w op mask source old) k ≡ bit old k
made-outside w op mask source old k h e = made-bit w op mask source old k h ∙ rw e

-- bit k of the new pixel depends on bit k of the old pixel alone
pub made_plane : (w op mask source old old' k : ℕ) → k < w → bit old k ≡ bit old' k
    → bit (made w op mask source old) k ≡ bit (made w op mask source old') k
made_plane w op mask source old old' k h e = simp (made-bit w op mask source old k h, made-bit w op mask source old' k h, e)

-- made with a, then with b, is made with the composite
pub made_then : (w a b mask source old : ℕ)
    → made w b mask source (made w a mask source old) ≡ made w (composite a b) mask source old
made_then w a b mask source old =
    same_bits w _ _ (made_below w b mask source (made w a mask source old)) (made_below w (composite a b) mask source old) each
  where
    pick : (m s d : Bool) → cond m (result b s (cond m (result a s d) d)) (cond m (result a s d) d) ≡ cond m (result (composite a b) s d) d
    pick true s d = sym (result-composite a b s d)
    pick false s d = refl

    each : (k : ℕ) → k < w → bit (made w b mask source (made w a mask source old)) k ≡ bit (made w (composite a b) mask source old) k
    each k h =
        simp (made-bit w b mask source (made w a mask source old) k h, made-bit w a mask source old k h, made-bit w (composite a b) mask source old k h)
        (pick (bit mask k) (bit source k) (bit old k))

-- 5 is no operation
pub made_five : (w mask source old : ℕ) → old < 2 ^ w → made w 5 mask source old ≡ old
made_five w mask source old h = same_bits w _ _ (made_below w 5 mask source old) h each
  where
    pick : (m s d : Bool) → cond m (result 5 s d) d ≡ d
    pick true s d = result_five s d
    pick false s d = refl

    each : (k : ℕ) → k < w → bit (made w 5 mask source old) k ≡ bit old k
    each k hk = made-bit w 5 mask source old k hk ∙ pick (bit mask k) (bit source k) (bit old k)

-- an operation whose composite with itself is 5 restores the pixel when it is made twice
pub made_restores : (w op mask source old : ℕ) → composite op op ≡ 5 → old < 2 ^ w
    → made w op mask source (made w op mask source old) ≡ old
made_restores w op mask source old e h = made_then w op op mask source old ∙ (ap (λ (a : ℕ). made w a mask source old) e ∙ made_five w mask source old h)
