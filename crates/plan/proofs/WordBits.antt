-- Bits of the words that a span goes by. Assumes nothing.
use mathlib.Core.Path.{◌≡◌, refl, ap, sym, ◌∙◌}
use mathlib.Core.Bool.{Bool, true, false, cond, ◌&&◌}
use Prim.Native.Nat.{ℕ, ◌+◌, ◌*◌, ◌/◌, ◌%◌, ◌^◌, ◌<◌}
use native.Mathlib.Decide.{dec_lt}
use native.Mathlib.Omega.{arith}
use lib.Bits.{bit_and}
use lib.Pow.{high, low}
use Rattle.raster.specs.Pixel.{bit}
use Rattle.raster.proofs.Bits.{bit-number, bit_low, bit_high, number_below, same_bits, bit-ones}
use Rattle.raster.proofs.Bitwise.{bit-and}
use Rattle.plan.specs.Plan.{rotated}

-- the first 32 pixels go by the word itself
pub first_turn : (x j : ℕ) → j < 32 → bit x (j % 32) ≡ bit x j
first_turn x j h = let e : j % 32 ≡ j = omega arith in ap (λ (k : ℕ). bit x k) e

-- every bit of a word of ones is set
pub bit_word : (j : ℕ) → bit 4294967295 (j % 32) ≡ true
bit_word j = bit-ones 32 (j % 32) (omega arith)

both : (a b : Bool) → cond a b false ≡ a && b
both true b = refl
both false b = refl

-- a lane and its pixel-mask bit
pub bit_both : (x y j : ℕ) → j < 4 → bit (bit_and x y) (j % 32) ≡ bit x j && bit y j
bit_both x y j h = first_turn (bit_and x y) j (omega arith) ∙ (bit-and x y j ∙ both (bit x j) (bit y j))

-- a rotated word by pixel j
pub bit-rotated : (x l j : ℕ) → bit (rotated x l) (j % 32) ≡ bit x ((j + l) % 32)
unfolding rotated
bit-rotated x l j =
    let e : (j % 32 + l) % 32 ≡ (j + l) % 32 = omega arith in
    bit-number 32 (λ k. bit x ((k + l) % 32)) (j % 32) (omega arith) ∙ ap (λ (k : ℕ). bit x k) e

-- a word and itself above it
bit_twice : (x k : ℕ) → x < 2 ^ 32 → k < 64 → bit (x * 2 ^ 32 + x) k ≡ bit x (k % 32)
bit_twice x k hx hk = go (dec_lt k 32)
  where
    go : Dec (k < 32) → bit (x * 2 ^ 32 + x) k ≡ bit x (k % 32)
    go (yes h) =
        let e : k ≡ k % 32 = omega arith in
        sym (bit_low 32 (x * 2 ^ 32 + x) k h) ∙ (ap (λ (n : ℕ). bit n k) (low x 32 hx) ∙ ap (λ (i : ℕ). bit x i) e)
    go (no h) =
        let e : k ≡ 32 + k % 32 = omega arith in
        ap (λ (i : ℕ). bit (x * 2 ^ 32 + x) i) e
        ∙ (sym (bit_high 32 (x * 2 ^ 32 + x) (k % 32)) ∙ ap (λ (n : ℕ). bit n (k % 32)) (high x 32 hx))

-- the word rotated is 32 bits of that, from bit low on
pub rotated_twice : (x l : ℕ) → x < 2 ^ 32 → (x * 2 ^ 32 + x) / 2 ^ (l % 32) % 2 ^ 32 ≡ rotated x l
unfolding rotated
rotated_twice x l hx = same_bits 32 _ _ (omega arith) (number_below 32 (λ k. bit x ((k + l) % 32))) at
  where
    at : (k : ℕ) → k < 32 → bit ((x * 2 ^ 32 + x) / 2 ^ (l % 32) % 2 ^ 32) k ≡ bit (rotated x l) k
    at k h =
        let e : (l % 32 + k) % 32 ≡ (k + l) % 32 = omega arith in
        bit_low 32 ((x * 2 ^ 32 + x) / 2 ^ (l % 32)) k h
        ∙ (bit_high (l % 32) (x * 2 ^ 32 + x) k
        ∙ (bit_twice x (l % 32 + k) hx (omega arith)
        ∙ (ap (λ (i : ℕ). bit x i) e ∙ sym (bit-number 32 (λ i. bit x ((i + l) % 32)) k h))))
