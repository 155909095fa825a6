-- The plane mask without the held planes, all four bytes at once. Assumes nothing.
use mathlib.Core.Path.{◌≡◌, refl, ap, sym, ◌∙◌}
use mathlib.Core.Bool.{Bool, true, false, cond, not}
use Prim.Native.Nat.{ℕ, zero, suc, ◌+◌, ◌-◌, ◌*◌, ◌/◌, ◌%◌, ◌^◌, ◌<◌}
use native.Mathlib.Omega.{arith}
use lib.Bits.{bit_and, bit_xor, and_self, xor_disjoint}
use Rattle.std.proofs.lemmas.Nat.{and-not}
use Rattle.raster.specs.Pixel.{bit, number}
use Rattle.raster.proofs.Bits.{bit_low, bit-number, bit-ones, number_below, same_bits}
use Rattle.raster.proofs.Bitwise.{bit-and, bit-xor}
use Rattle.span.specs.Fragments.{byte}
use Rattle.span.proofs.Bytes.{bit_byte, byte_below}

-- a byte four times
four_times : (h k : ℕ) → h < 256 → k < 4 → byte (h * 0x01010101) k ≡ h
unfolding byte
four_times h zero l q = omega arith
four_times h (suc zero) l q = let e : h * 0x01010101 / 0x100 ≡ h * 0x010101 = omega arith in rw e (omega arith)
four_times h (suc (suc zero)) l q = let e : h * 0x01010101 / 0x10000 ≡ h * 0x0101 = omega arith in rw e (omega arith)
four_times h (suc (suc (suc zero))) l q = let e : h * 0x01010101 / 0x1000000 ≡ h = omega arith in rw e (omega arith)
four_times h (suc (suc (suc (suc k)))) l q = absurd (omega arith)

-- all the bits of a register that another has not
complement : (m k : ℕ) → m < 2 ^ 32 → k < 32 → bit (2 ^ 32 - 1 - m) k ≡ not (bit m k)
complement m k h l =
    let rest : ℕ = 2 ^ 32 - 1 - m in
    let apart : bit_and m rest ≡ 0 = omega (arith, and-not 32 m rest h (omega arith), and_self rest) in
    let whole : bit_xor m rest ≡ 2 ^ 32 - 1 = xor_disjoint m rest apart ∙ omega arith in
    turn (bit m k) (bit rest k) (sym (bit-xor m rest k) ∙ (ap (λ (n : ℕ). bit n k) whole ∙ bit-ones 32 k l))
  where
    turn : (a b : Bool) → cond a (not b) b ≡ true → b ≡ not a
    turn true false e = refl
    turn true true e = sym e
    turn false b e = e

pick : (b h : Bool) → cond b (not h) false ≡ cond h false b
pick true true = refl
pick true false = refl
pick false true = refl
pick false false = refl

-- only bits 7:0 of the held planes count
pub cleared : (plane held k : ℕ) → k < 4
    → byte (bit_and plane (2 ^ 32 - 1 - held % 256 * 0x01010101)) k ≡ number 8 (λ i. cond (bit held i) false (bit (byte plane k) i))
cleared plane held k q =
    same_bits 8 _ _ (byte_below _ k) (number_below 8 (λ i. cond (bit held i) false (bit (byte plane k) i)))
    (λ i b.
    let e : bit (held % 256 * 0x01010101) (8 * k + i) ≡ bit held i
    = sym (bit_byte (held % 256 * 0x01010101) k i b) ∙ (ap (λ (n : ℕ). bit n i) (four_times (held % 256) k (omega arith) q) ∙ bit_low 8 held i b)
    in
    let f : bit (2 ^ 32 - 1 - held % 256 * 0x01010101) (8 * k + i) ≡ not (bit held i)
    = complement (held % 256 * 0x01010101) (8 * k + i) (omega arith) (omega arith) ∙ ap not e
    in
    bit_byte _ k i b
    ∙ simp (bit-and, f, bit-number 8 (λ j. cond (bit held j) false (bit (byte plane k) j)) i b, bit_byte plane k i b)
    (pick (bit plane (8 * k + i)) (bit held i)))
