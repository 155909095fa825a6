-- A raster operation reduced to two numbers, over any width: what settles an old pixel of zeros and one of ones settles every old pixel.
-- `reduced_made` assumes that the old pixel has that width, `selected` that its three numbers have it.
use mathlib.Core.Path.{◌≡◌, refl, ◌∙◌}
use mathlib.Core.Bool.{Bool, true, false, cond, not}
use Prim.Native.Nat.{ℕ, ◌-◌, ◌/◌, ◌^◌, ◌<◌}
use native.Mathlib.Nat.{div-one}
use lib.Bits.{bit_and, bit_xor, xor_lt, and_lt}
use Rattle.raster.specs.Pixel.{bit, number, result, made}
use Rattle.raster.proofs.Bits.{bit-number, number_below, number_same, same_bits, bit-ones}
use Rattle.raster.proofs.Bitwise.{bit-and, bit-xor}
use Rattle.raster.proofs.Made.{made-bit, made_below}
use Rattle.raster.proofs.Below.{bit_zeros}

-- what becomes of a pixel whose bits are all b, put together from the two bits t and f that the operation gives for b
pub made_constant : (w op mask source old : ℕ) (b t f : Bool) → ((k : ℕ) → k < w → bit old k ≡ b) → t ≡ result op true b → f ≡ result op false b
    → number w
    (λ k.
    cond (bit mask k) (bit (number w (λ j. cond (bit source j) (bit (number w (λ i. t)) j) (bit (number w (λ i. f)) j))) k) (bit old k))
    ≡ made w op mask source old
unfolding made
made_constant w op mask source old b t f e et ef =
    number_same w
    (λ k h.
    simp (
      bit-number w (λ j. cond (bit source j) (bit (number w (λ i. t)) j) (bit (number w (λ i. f)) j)) k h,
      bit-number w (λ i. t) k h,
      bit-number w (λ i. f) k h,
      e k h,
    )
    (pick (bit mask k) (bit source k)))
  where
    pick : (m s : Bool) → cond m (cond s t f) b ≡ cond m (result op s b) b
    pick true true = et
    pick true false = ef
    pick false s = refl

-- the operation's bits, found at the bottom of its quotients
pub result_bits : (op : ℕ)
    → (bit op 0 ≡ result op true true) × (bit (op / 2) 0 ≡ result op true false) × (bit (op / 4) 0 ≡ result op false true)
    × (bit (op / 8) 0 ≡ result op false false)
unfolding result bit
result_bits op = (refl, simp div-one, simp div-one, simp div-one)

-- each bit of a where c has a one, else of b, as the code picks it
picks : (c a b : Bool) → cond b (not (cond c (cond a (not b) b) false)) (cond c (cond a (not b) b) false) ≡ cond c a b
picks true true true = refl
picks true true false = refl
picks true false true = refl
picks true false false = refl
picks false a true = refl
picks false a false = refl

pub selected : (w c a b : ℕ) → c < 2 ^ w → a < 2 ^ w → b < 2 ^ w
    → bit_xor b (bit_and c (bit_xor a b)) ≡ number w (λ k. cond (bit c k) (bit a k) (bit b k))
selected w c a b hc ha hb =
    same_bits w _ _ (xor_lt w b (bit_and c (bit_xor a b)) hb (and_lt w c (bit_xor a b) hc (xor_lt w a b ha hb)))
    (number_below w (λ k. cond (bit c k) (bit a k) (bit b k)))
    (λ k h. simp (bit-xor, bit-and, bit-number w (λ j. cond (bit c j) (bit a j) (bit b j)) k h) (picks (bit c k) (bit a k) (bit b k)))

both : (d z o : Bool)
    → cond (cond d (cond z (not o) o) false) (not z) z ≡ cond d o z
both true true true = refl
both true true false = refl
both true false true = refl
both true false false = refl
both false true o = refl
both false false o = refl

pub reduced_made : (w op mask source old : ℕ) → old < 2 ^ w
    → bit_xor (bit_and old (bit_xor (made w op mask source 0) (made w op mask source (2 ^ w - 1)))) (made w op mask source 0)
    ≡ made w op mask source old
reduced_made w op mask source old h =
    same_bits w _ _
    (xor_lt w _ _ (and_lt w _ _ h (xor_lt w _ _ (made_below w op mask source 0) (made_below w op mask source (2 ^ w - 1)))) (made_below w op mask source 0))
    (made_below w op mask source old)
    each
  where
    pick : (m s d : Bool) → cond d (cond m (result op s true) true) (cond m (result op s false) false) ≡ cond m (result op s d) d
    pick true s true = refl
    pick true s false = refl
    pick false s true = refl
    pick false s false = refl

    each : (k : ℕ) → k < w
        → bit (bit_xor (bit_and old (bit_xor (made w op mask source 0) (made w op mask source (2 ^ w - 1)))) (made w op mask source 0)) k
        ≡ bit (made w op mask source old) k
    each k hk =
        simp (
          bit-xor,
          bit-and,
          made-bit w op mask source 0 k hk,
          made-bit w op mask source (2 ^ w - 1) k hk,
          made-bit w op mask source old k hk,
          bit-ones w k hk,
          bit_zeros k,
        )
        (both (bit old k) (cond (bit mask k) (result op (bit source k) false) false) (cond (bit mask k) (result op (bit source k) true) true)
        ∙ pick (bit mask k) (bit source k) (bit old k))
