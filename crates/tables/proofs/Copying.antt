-- Operation 3 takes the source: what it makes of a word of zeros and of a word of ones, over any width. Each assumes that its numbers have that width.
use mathlib.Core.Path.{◌≡◌, refl}
use mathlib.Core.Bool.{Bool, true, false, cond, not}
use Prim.Native.Nat.{ℕ, ◌-◌, ◌^◌, ◌<◌}
use native.Mathlib.Omega.{arith}
use lib.Bits.{bit_and, bit_xor, and_lt, xor_lt}
use lib.Pow.{pow_pos}
use Rattle.raster.specs.Pixel.{bit, result, made}
use Rattle.raster.proofs.Below.{bit_zeros}
use Rattle.raster.proofs.Bits.{same_bits, bit-ones}
use Rattle.raster.proofs.Bitwise.{bit-and, bit-xor}
use Rattle.raster.proofs.Made.{made-bit, made_below}

takes : (s d : Bool) → result 3 s d ≡ s
unfolding result bit
takes true true = refl
takes true false = refl
takes false true = refl
takes false false = refl

pub copy_flips : (w mask source : ℕ) → mask < 2 ^ w → source < 2 ^ w → bit_and mask source ≡ made w 3 mask source 0
copy_flips w mask source hm hs =
    same_bits w _ _ (and_lt w mask source hm hs) (made_below w 3 mask source 0)
    (λ k h. simp (bit-and, made-bit w 3 mask source 0 k h, takes, bit_zeros))

-- where the mask has a one the two are alike, else they differ
differ : (m s : Bool) → cond m (not true) true ≡ cond (cond m s false) (not (cond m s true)) (cond m s true)
differ true true = refl
differ true false = refl
differ false s = refl

pub copy_keeps : (w mask source : ℕ) → mask < 2 ^ w → bit_xor mask (2 ^ w - 1) ≡ bit_xor (made w 3 mask source 0) (made w 3 mask source (2 ^ w - 1))
copy_keeps w mask source hm =
    same_bits w _ _ (xor_lt w mask (2 ^ w - 1) hm (omega (arith, pow_pos w)))
    (xor_lt w _ _ (made_below w 3 mask source 0) (made_below w 3 mask source (2 ^ w - 1)))
    (λ k h.
    simp (bit-xor, bit-ones w k h, made-bit w 3 mask source 0 k h, made-bit w 3 mask source (2 ^ w - 1) k h, takes, bit_zeros)
    (differ (bit mask k) (bit source k)))
