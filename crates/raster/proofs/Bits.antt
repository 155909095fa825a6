-- Bits of a number, and numbers made of bits, over any width. Assumes nothing.
use mathlib.Core.Path.{◌≡◌, refl, ap, sym, ◌∙◌}
use mathlib.Core.Bool.{Bool, true, false}
use Prim.Native.Nat.{ℕ, zero, suc, ◌+◌, ◌-◌, ◌*◌, ◌/◌, ◌%◌, ◌^◌, ◌<◌, suc-le-suc}
use native.Mathlib.Nat.{le_of_suc-le-suc, not-suc-le-zero, div-one, zero-lt-suc, zero-mul, one-mul}
use native.Mathlib.Omega.{arith}
use lib.Dec.{eqb}
use lib.Pow.{field, mod-mod-pow, shr-shr, pow_pos}
use Rattle.raster.specs.Pixel.{bit, value, number}

pub bit-zero : (n : ℕ) → bit n 0 ≡ eqb (n % 2) 1
unfolding bit
bit-zero n = simp div-one

-- the low w bits of a number are those of the remainder
pub bit_low : (w n k : ℕ) → k < w → bit (n % 2 ^ w) k ≡ bit n k
unfolding bit
bit_low w n k h =
    let e : w ≡ w - suc k + 1 + k = omega arith in
    ap (λ (m : ℕ). eqb (m % 2) 1) (ap (λ (v : ℕ). n % 2 ^ v / 2 ^ k) e ∙ field n (w - suc k + 1) k)
    ∙ ap (λ (m : ℕ). eqb m 1) (mod-mod-pow (n / 2 ^ k) (w - suc k) 1)

-- and the bits above are those of the quotient
pub bit_high : (w n k : ℕ) → bit (n / 2 ^ w) k ≡ bit n (w + k)
unfolding bit
bit_high w n k = ap (λ (m : ℕ). eqb (m % 2) 1) (shr-shr n w k)

bit-suc : (n k : ℕ) → bit n (suc k) ≡ bit (n / 2) k
bit-suc n k = ap (λ (e : ℕ). bit n e) (omega arith) ∙ sym (bit_high 1 n k)

low : (b : Bool) (m : ℕ) → (value b + 2 * m) % 2 ≡ value b
low true m = omega arith
low false m = omega arith

high : (b : Bool) (m : ℕ) → (value b + 2 * m) / 2 ≡ m
high true m = omega arith
high false m = omega arith

is_value : (b : Bool) → eqb (value b) 1 ≡ b
is_value true = refl
is_value false = refl

-- bit k of the number made of f is f k
pub bit-number : (w : ℕ) (f : ℕ → Bool) (k : ℕ) → k < w → bit (number w f) k ≡ f k
unfolding number
bit-number zero f k h = absurd (not-suc-le-zero h)
bit-number (suc w) f zero h = simp (bit-zero, low, is_value)
bit-number (suc w) f (suc k) h = simp (bit-suc, high) (bit-number w (λ j. f (suc j)) k (le_of_suc-le-suc h))

pub number_below : (w : ℕ) (f : ℕ → Bool) → number w f < 2 ^ w
unfolding number
number_below zero f = omega arith
number_below (suc w) f = go (f 0) (number_below w (λ k. f (suc k)))
  where
    go : (b : Bool) → number w (λ k. f (suc k)) < 2 ^ w → value b + 2 * number w (λ k. f (suc k)) < 2 ^ suc w
    go true h = omega arith
    go false h = omega arith

pub number_same : (w : ℕ) {f g : ℕ → Bool} → ((k : ℕ) → k < w → f k ≡ g k) → number w f ≡ number w g
unfolding number
number_same zero e = refl
number_same (suc w) {f} {g} e = rw (e 0 (zero-lt-suc w), number_same w {f = λ k. f (suc k)} {g = λ k. g (suc k)} (λ k h. e (suc k) (suc-le-suc h)))

value-bit : (m : ℕ) → m < 2 → value (eqb m 1) ≡ m
value-bit zero h = refl
value-bit (suc zero) h = refl
value-bit (suc (suc m)) h = absurd (omega arith)

-- a number below 2 ^ w is made of its own bits
number_bits : (w n : ℕ) → n < 2 ^ w → number w (bit n) ≡ n
unfolding number
number_bits zero n h = omega arith
number_bits (suc w) n h =
    let e : number w (λ k. bit n (suc k)) ≡ n / 2 = number_same w (λ k _. bit-suc n k) ∙ number_bits w (n / 2) (omega arith) in
    simp (bit-zero, value-bit (n % 2) (omega arith), e) (omega arith)

-- two numbers below 2 ^ w whose bits agree are one number
pub same_bits : (w a b : ℕ) → a < 2 ^ w → b < 2 ^ w → ((k : ℕ) → k < w → bit a k ≡ bit b k) → a ≡ b
same_bits w a b ha hb e = sym (number_bits w a ha) ∙ (number_same w e ∙ number_bits w b hb)

number_zeros : (w : ℕ) → number w (λ k. false) ≡ 0
unfolding number
number_zeros zero = refl
number_zeros (suc w) = rw (number_zeros w)

number-ones : (w : ℕ) → number w (λ k. true) ≡ 2 ^ w - 1
unfolding number
number-ones zero = refl
number-ones (suc w) = rw (number-ones w) (omega (arith, pow_pos w))

-- the number whose w bits are all set
pub bit-ones : (w k : ℕ) → k < w → bit (2 ^ w - 1) k ≡ true
bit-ones w k h = ap (λ (n : ℕ). bit n k) (sym (number-ones w)) ∙ bit-number w (λ j. true) k h

-- one bit, w times
pub number_spread : (w m : ℕ) → m < 2 → m * (2 ^ w - 1) ≡ number w (λ k. eqb m 1)
number_spread w zero h = zero-mul (2 ^ w - 1) ∙ sym (number_zeros w)
number_spread w (suc zero) h = one-mul (2 ^ w - 1) ∙ sym (number-ones w)
number_spread w (suc (suc m)) h = absurd (omega arith)
