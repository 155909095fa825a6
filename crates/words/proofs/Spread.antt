-- The bits of a byte spread over a word, and two registers side by side. `widened` assumes a byte, `paired` registers of 32 bits.
use mathlib.Core.Path.{◌≡◌, refl, ap, ap₂, sym, ◌∙◌}
use mathlib.Core.Bool.{Bool, cond}
use mathlib.Core.List.{[], ◌∷◌}
use Prim.Native.Nat.{ℕ, ◌+◌, ◌*◌, ◌/◌, ◌%◌, ◌^◌, ◌<◌}
use native.Mathlib.Decide.{dec_lt}
use native.Mathlib.Omega.{arith}
use lib.Bits.{bit_and, bit_or}
use lib.Dec.{eqb, eqb→eq}
use lib.ListN.{get_or}
use lib.Pow as Pow
use Rattle.std.proofs.lemmas.Grind.{or_after_shift}
use Rattle.raster.specs.Pixel.{bit}
use Rattle.raster.proofs.Below.{all_below, all_are_below}
use Rattle.span.specs.Fragments.{byte}
use Rattle.span.proofs.Bytes.{byte_low, byte_high}

-- what the code computes
abbrev pub wide : ℕ → ℕ
wide b = bit_and ((bit_and (b * 0x0101010101010101) 0x8040201008040201 + 0x7F7F7F7F7F7F7F7F) / 0x80) 0x0101010101010101 * 0xFF

abbrev right : ℕ → ℕ → Bool
right b k = eqb (byte (wide b) k) (cond (bit b k) 255 0)

-- one test over every byte and each of its bits
pub widened : (b k : ℕ) → b < 256 → k < 8 → byte (wide b) k ≡ cond (bit b k) 255 0
unfolding byte bit
widened b k hb hk = eqb→eq _ _ (all_are_below 8 (right b) (all_are_below 256 (λ n. all_below 8 (right n)) tt b hb) k hk)

-- two registers side by side
pub paired : (low high k : ℕ) → low < 2 ^ 32 → high < 2 ^ 32 → k < 8
    → byte (bit_or (high * 2 ^ 32 % 2 ^ 64) low) k ≡ byte (get_or (low ∷ high ∷ []) (k / 4) 0) (k % 4)
paired low high k l t h = ap (λ (n : ℕ). byte n k) (or_after_shift high (2 ^ 32) (2 ^ 64) low refl l (omega arith)) ∙ go (dec_lt k 4)
  where
    go : Dec (k < 4) → byte (high * 0x100000000 + low) k ≡ byte (get_or (low ∷ high ∷ []) (k / 4) 0) (k % 4)
    go (yes q) =
        let d : 0 ≡ k / 4 = omega arith in
        let m : k ≡ k % 4 = omega arith in
        sym (byte_low _ 4 k q)
        ∙ (ap (λ (n : ℕ). byte n k) (Pow.low high 32 l) ∙ ap₂ (λ (i j : ℕ). byte (get_or (low ∷ high ∷ []) i 0) j) d m)
    go (no q) =
        let e : k ≡ 4 + k % 4 = omega arith in
        let d : 1 ≡ k / 4 = omega arith in
        ap (λ (j : ℕ). byte (high * 0x100000000 + low) j) e
        ∙ (sym (byte_high _ 4 (k % 4))
        ∙ (ap (λ (n : ℕ). byte n (k % 4)) (Pow.high high 32 l) ∙ ap (λ (i : ℕ). byte (get_or (low ∷ high ∷ []) i 0) (k % 4)) d))
