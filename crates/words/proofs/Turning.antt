-- A word rotated by whole bytes, as the library does it. `turned` assumes a word of eight bytes and a turn of at most 7.
use mathlib.Core.Path.{◌≡◌, ap, ap₂, ◌∙◌}
use Prim.Native.Nat.{ℕ, ◌+◌, ◌-◌, ◌*◌, ◌/◌, ◌%◌, ◌^◌, ◌<◌}
use native.Mathlib.Decide.{dec_lt}
use native.Mathlib.Omega.{arith}
use lib.Bits.{bit_or, or_self, or_zero_r, or_zero_l}
use Rattle.span.specs.Fragments.{byte}
use Rattle.span.proofs.Bytes.{byte_or, byte_low, byte_high, byte_past, byte_lifted, byte-under}

pub turned : (w s k : ℕ) → w < 2 ^ 64 → s < 8 → k < 8
    → byte (bit_or (w / 2 ^ (8 * s)) (w * 2 ^ (8 * ((8 - s) % 8)) % 2 ^ 64)) k ≡ byte w ((s + k) % 8)
turned w s k l hi h =
    byte_or _ _ k
    ∙ (ap₂ (λ (a b : ℕ). bit_or a b) (byte_high w s k) (byte_low (w * 2 ^ (8 * ((8 - s) % 8))) 8 k h) ∙ go (dec_lt 0 s) (dec_lt k (8 - s)))
  where
    go : Dec (0 < s) → Dec (k < 8 - s) → bit_or (byte w (s + k)) (byte (w * 2 ^ (8 * ((8 - s) % 8))) k) ≡ byte w ((s + k) % 8)
    go (no z) _ =
        let e : s + k ≡ (s + k) % 8 = omega arith in
        let f : k ≡ (s + k) % 8 = omega arith in
        let g : 8 * ((8 - s) % 8) ≡ 0 = omega arith in
        ap₂ (λ (a b : ℕ). bit_or a b)
        (ap (λ (j : ℕ). byte w j) e)
        (ap₂ (λ (m j : ℕ). byte (w * 2 ^ m) j) g f ∙ ap (λ (n : ℕ). byte n ((s + k) % 8)) (omega arith))
        ∙ or_self (byte w ((s + k) % 8))
    go (yes p) (yes q) =
        let e : s + k ≡ (s + k) % 8 = omega arith in
        let g : (8 - s) % 8 ≡ 8 - s = omega arith in
        ap (λ (b : ℕ). bit_or (byte w (s + k)) b)
        (ap (λ (m : ℕ). byte (w * 2 ^ (8 * m)) k) g ∙ byte-under w (8 - s) k q)
        ∙ (or_zero_r (byte w (s + k)) ∙ ap (λ (j : ℕ). byte w j) e)
    go (yes p) (no q) =
        let g : (8 - s) % 8 ≡ 8 - s = omega arith in
        let e : k ≡ 8 - s + (s + k) % 8 = omega arith in
        let f : s + k ≡ 8 + (s + k) % 8 = omega arith in
        ap₂ (λ (a b : ℕ). bit_or a b)
        (ap (λ (j : ℕ). byte w j) f ∙ byte_past w 8 ((s + k) % 8) l)
        (ap₂ (λ (m j : ℕ). byte (w * 2 ^ (8 * m)) j) g e ∙ byte_lifted w (8 - s) ((s + k) % 8))
        ∙ or_zero_l (byte w ((s + k) % 8))
