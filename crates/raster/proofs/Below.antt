-- A test that antt computes at every number below a bound, carried to each of them; and the bits of 0. Assumes nothing.
use mathlib.Core.Path.{◌≡◌, refl, subst}
use mathlib.Core.Bool.{Bool, true, false, ◌&&◌}
use Prim.Native.Nat.{ℕ, zero, suc, ◌<◌}
use native.Mathlib.Nat.{zero-div, not-suc-le-zero}
use native.Mathlib.Decide.{dec_lt}
use native.Mathlib.Omega.{arith}
use lib.Dec.{T}
use Rattle.raster.specs.Pixel.{bit}

-- the test p passes at every number below n
abbrev pub all_below : ℕ → (ℕ → Bool) → Bool
all_below zero p = true
all_below (suc n) p = p n && all_below n p

pub left : (a b : Bool) → T (a && b) → T a
left true b t = tt
left false b t = t

pub right : (a b : Bool) → T (a && b) → T b
right true b t = t
right false b t = absurd t

pub all_are_below : (n : ℕ) (p : ℕ → Bool) → T (all_below n p) → (k : ℕ) → k < n → T (p k)
all_are_below zero p t k h = absurd (not-suc-le-zero h)
all_are_below (suc n) p t k h = go (dec_lt k n) (all_are_below n p (right (p n) (all_below n p) t) k)
  where
    go : Dec (k < n) → (k < n → T (p k)) → T (p k)
    go (yes l) below = below l
    go (no l) below = subst (λ (m : ℕ). T (p m)) (omega arith) (left (p n) (all_below n p) t)

pub is_true : (b : Bool) → T b → b ≡ true
is_true true t = refl
is_true false t = absurd t

pub bit_zeros : (k : ℕ) → bit 0 k ≡ false
unfolding bit
bit_zeros k = simp zero-div
