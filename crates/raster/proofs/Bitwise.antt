-- Bit k of the machine's bitwise operations, at any width. Assumes nothing.
use mathlib.Core.Path.{◌≡◌, refl, ap, ◌∙◌}
use mathlib.Core.Bool.{false, cond, not}
use Prim.Native.Nat.{ℕ, zero, suc, ◌/◌, ◌%◌, ◌^◌, ◌<◌}
use native.Mathlib.Omega.{arith}
use lib.Dec.{eqb}
use lib.Bits.{bit_and, bit_xor, and_shr, and_mod, xor_shr, xor_mod}
use Rattle.raster.specs.Pixel.{bit}

and_digit : (a b : ℕ) → a < 2 → b < 2 → eqb (bit_and a b) 1 ≡ cond (eqb a 1) (eqb b 1) false
and_digit zero b ha hb = refl
and_digit (suc zero) zero ha hb = refl
and_digit (suc zero) (suc zero) ha hb = refl
and_digit (suc zero) (suc (suc b)) ha hb = absurd (omega arith)
and_digit (suc (suc a)) b ha hb = absurd (omega arith)

xor_digit : (a b : ℕ) → a < 2 → b < 2 → eqb (bit_xor a b) 1 ≡ cond (eqb a 1) (not (eqb b 1)) (eqb b 1)
xor_digit zero b ha hb = refl
xor_digit (suc zero) zero ha hb = refl
xor_digit (suc zero) (suc zero) ha hb = refl
xor_digit (suc zero) (suc (suc b)) ha hb = absurd (omega arith)
xor_digit (suc (suc a)) b ha hb = absurd (omega arith)

pub bit-and : (a b k : ℕ) → bit (bit_and a b) k ≡ cond (bit a k) (bit b k) false
unfolding bit
bit-and a b k =
    ap (λ (n : ℕ). eqb n 1) (ap (λ (n : ℕ). n % 2) (and_shr a b k) ∙ and_mod (a / 2 ^ k) (b / 2 ^ k) 1)
    ∙ and_digit (a / 2 ^ k % 2) (b / 2 ^ k % 2) (omega arith) (omega arith)

pub bit-xor : (a b k : ℕ) → bit (bit_xor a b) k ≡ cond (bit a k) (not (bit b k)) (bit b k)
unfolding bit
bit-xor a b k =
    ap (λ (n : ℕ). eqb n 1) (ap (λ (n : ℕ). n % 2) (xor_shr a b k) ∙ xor_mod (a / 2 ^ k) (b / 2 ^ k) 1)
    ∙ xor_digit (a / 2 ^ k % 2) (b / 2 ^ k % 2) (omega arith) (omega arith)
