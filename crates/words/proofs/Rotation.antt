-- A word turned by whole bytes: what is shifted out below comes in above. `rotated` assumes a word of eight bytes and a turn of 1 to 7.
use mathlib.Core.Path.{◌≡◌, ap, ap₂, ◌∙◌}
use Prim.Native.Nat.{ℕ, ◌+◌, ◌-◌, ◌*◌, ◌/◌, ◌%◌, ◌^◌, ◌<◌}
use native.Mathlib.Decide.{dec_lt}
use native.Mathlib.Omega.{arith}
use lib.Bits.{bit_xor, xor_zero_r, xor_zero_l}
use Rattle.span.specs.Fragments.{byte}
use Rattle.span.proofs.Bytes.{byte-xor, byte_low, byte_high, byte_past, byte_lifted, byte-under}

pub rotated : (w s k : ℕ) → w < 2 ^ 64 → 0 < s → s < 8 → k < 8
    → byte (bit_xor (w / 2 ^ (8 * s)) (w * 2 ^ (8 * (8 - s)) % 2 ^ 64)) k ≡ byte w ((s + k) % 8)
rotated w s k l lo hi h =
    byte-xor _ _ k
    ∙ (ap₂ (λ (a b : ℕ). bit_xor a b) (byte_high w s k) (byte_low (w * 2 ^ (8 * (8 - s))) 8 k h) ∙ go (dec_lt k (8 - s)))
  where
    go : Dec (k < 8 - s) → bit_xor (byte w (s + k)) (byte (w * 2 ^ (8 * (8 - s))) k) ≡ byte w ((s + k) % 8)
    go (yes q) =
        let e : s + k ≡ (s + k) % 8 = omega arith in
        ap (λ (b : ℕ). bit_xor (byte w (s + k)) b) (byte-under w (8 - s) k q) ∙ (xor_zero_r (byte w (s + k)) ∙ ap (λ (j : ℕ). byte w j) e)
    go (no q) =
        let e : k ≡ 8 - s + (s + k) % 8 = omega arith in
        let p : s + k ≡ 8 + (s + k) % 8 = omega arith in
        ap₂ (λ (a b : ℕ). bit_xor a b)
        (ap (λ (j : ℕ). byte w j) p ∙ byte_past w 8 ((s + k) % 8) l)
        (ap (λ (j : ℕ). byte (w * 2 ^ (8 * (8 - s))) j) e ∙ byte_lifted w (8 - s) ((s + k) % 8))
        ∙ xor_zero_l (byte w ((s + k) % 8))
