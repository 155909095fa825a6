-- Composing two operations: what the composite gives, and the monoid laws. Assumes nothing.
use mathlib.Core.Path.{◌≡◌, refl}
use mathlib.Core.Bool.{Bool, true, false}
use Prim.Native.Nat.{ℕ, zero, suc, ◌/◌, ◌%◌, ◌<◌}
use native.Mathlib.Omega.{arith}
use lib.Dec.{lit<}
use Rattle.raster.specs.Pixel.{bit, result, composite}
use Rattle.raster.proofs.Bits.{bit-number, number_below, same_bits}

-- 5 is no operation
pub result_five : (s d : Bool) → result 5 s d ≡ d
unfolding result bit
result_five true true = refl
result_five true false = refl
result_five false true = refl
result_five false false = refl

-- the composite gives what b gives after a
pub result-composite : (a b : ℕ) (s d : Bool) → result (composite a b) s d ≡ result b s (result a s d)
unfolding result composite
result-composite a b true true = bit-number 4 _ 0 (lit< tt)
result-composite a b true false = bit-number 4 _ 1 (lit< tt)
result-composite a b false true = bit-number 4 _ 2 (lit< tt)
result-composite a b false false = bit-number 4 _ 3 (lit< tt)

composite_below : (a b : ℕ) → composite a b < 16
unfolding composite
composite_below a b = number_below 4 _

-- two operations below 16 that give the same bits are one operation
same_result : (a b : ℕ) → a < 16 → b < 16 → ((s d : Bool) → result a s d ≡ result b s d) → a ≡ b
unfolding result
same_result a b ha hb e = same_bits 4 a b ha hb each
  where
    each : (k : ℕ) → k < 4 → bit a k ≡ bit b k
    each zero h = e true true
    each (suc zero) h = e true false
    each (suc (suc zero)) h = e false true
    each (suc (suc (suc zero))) h = e false false
    each (suc (suc (suc (suc k)))) h = absurd (omega arith)

pub composite_assoc : (a b c : ℕ) → composite (composite a b) c ≡ composite a (composite b c)
composite_assoc a b c =
    same_result _ _ (composite_below (composite a b) c) (composite_below a (composite b c)) (λ s d. simp result-composite)

pub composite_five_left : (a : ℕ) → a < 16 → composite 5 a ≡ a
composite_five_left a h = same_result _ _ (composite_below 5 a) h (λ s d. simp (result-composite, result_five))

pub composite_five_right : (a : ℕ) → a < 16 → composite a 5 ≡ a
composite_five_right a h = same_result _ _ (composite_below a 5) h (λ s d. simp (result-composite, result_five))

-- of an operation's number only bits 3:0 count
pub result_low : (op : ℕ) (s d : Bool) → result (op % 16) s d ≡ result op s d
unfolding result bit
result_low op true true = let e : op % 16 / 1 % 2 ≡ op / 1 % 2 = omega arith in rw e
result_low op true false = let e : op % 16 / 2 % 2 ≡ op / 2 % 2 = omega arith in rw e
result_low op false true = let e : op % 16 / 4 % 2 ≡ op / 4 % 2 = omega arith in rw e
result_low op false false = let e : op % 16 / 8 % 2 ≡ op / 8 % 2 = omega arith in rw e

pub composite_low : (a b : ℕ) → composite (a % 16) (b % 16) ≡ composite a b
composite_low a b =
    same_result _ _ (composite_below (a % 16) (b % 16)) (composite_below a b) (λ s d. simp (result-composite, result_low))
