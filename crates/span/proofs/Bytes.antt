-- The bytes of a number: what is done to a word bit by bit is done to each of its bytes. Over any number of bytes. `byte_past` assumes a number of so many bytes.
use mathlib.Core.Path.{◌≡◌, refl, ap, sym, ◌∙◌}
use mathlib.Core.Bool.{Bool}
use mathlib.Core.List.{List}
use Prim.Native.Nat.{ℕ, zero, suc, ◌+◌, ◌-◌, ◌*◌, ◌/◌, ◌%◌, ◌^◌, ◌<◌}
use native.Mathlib.Nat.{div-one, pow-succ', zero-div, div-eq_of_lt, mul-mod_left}
use native.Mathlib.Omega.{arith}
use lib.Bits.{bit_and, bit_or, bit_xor, and_shr, and_mod, or_shr, or_mod, xor_shr, xor_mod}
use lib.ListN.{get_or}
use lib.Pow.{pow-add, shr-shr, shl-shr}
use Rattle.std.specs.Int.{w32, to_le_bytes}
use Rattle.raster.specs.Pixel.{bit, number, made}
use Rattle.raster.proofs.Bits.{bit_low, bit_high, bit-number, number_below, number_same, same_bits, bit-ones}
use Rattle.span.specs.Fragments.{byte}

pub byte-zero : (n : ℕ) → byte n 0 ≡ n % 256
unfolding byte
byte-zero n = simp div-one

pub byte_below : (n k : ℕ) → byte n k < 256
unfolding byte
byte_below n k = omega arith

-- byte k of four, as the code has them
pub byte_of : (n k : ℕ) {bytes : List ℕ} → bytes ≡ to_le_bytes w32 n → k < 4 → get_or bytes k 0 ≡ byte n k
unfolding byte
byte_of n zero e h = ap (λ (l : List ℕ). get_or l 0 0) e ∙ sym (byte-zero n)
byte_of n (suc zero) e h = ap (λ (l : List ℕ). get_or l 1 0) e
byte_of n (suc (suc zero)) e h = ap (λ (l : List ℕ). get_or l 2 0) e
byte_of n (suc (suc (suc zero))) e h = ap (λ (l : List ℕ). get_or l 3 0) e
byte_of n (suc (suc (suc (suc k)))) e h = absurd (omega arith)

-- k bytes are 8 k bits
by_eight : (k : ℕ) → 256 ^ k ≡ 2 ^ (8 * k)
by_eight zero = refl
by_eight (suc k) =
    pow-succ' 256 k ∙ (ap (λ (x : ℕ). 256 * x) (by_eight k) ∙ (sym (pow-add 2 8 (8 * k)) ∙ ap (λ (e : ℕ). 2 ^ e) (omega arith)))

-- a byte found by a shift
pub byte_shifted : (n k : ℕ) → n / 2 ^ (8 * k) % 256 ≡ byte n k
unfolding byte
byte_shifted n k = ap (λ (e : ℕ). n / e % 256) (sym (by_eight k))

-- bit i of byte k is bit 8 k + i
pub bit_byte : (n k i : ℕ) → i < 8 → bit (byte n k) i ≡ bit n (8 * k + i)
unfolding byte
bit_byte n k i h =
    bit_low 8 (n / 256 ^ k) i h ∙ (ap (λ (e : ℕ). bit (n / e) i) (by_eight k) ∙ bit_high (8 * k) n i)

pub byte-none : (k : ℕ) → byte 0 k ≡ 0
unfolding byte
byte-none k = simp zero-div

pub byte-and : (a b k : ℕ) → byte (bit_and a b) k ≡ bit_and (byte a k) (byte b k)
unfolding byte
byte-and a b k =
    rw (by_eight k)
    (ap (λ (n : ℕ). n % 2 ^ 8) (and_shr a b (8 * k)) ∙ and_mod (a / 2 ^ (8 * k)) (b / 2 ^ (8 * k)) 8)

pub byte-xor : (a b k : ℕ) → byte (bit_xor a b) k ≡ bit_xor (byte a k) (byte b k)
unfolding byte
byte-xor a b k =
    rw (by_eight k)
    (ap (λ (n : ℕ). n % 2 ^ 8) (xor_shr a b (8 * k)) ∙ xor_mod (a / 2 ^ (8 * k)) (b / 2 ^ (8 * k)) 8)

pub byte_or : (a b k : ℕ) → byte (bit_or a b) k ≡ bit_or (byte a k) (byte b k)
unfolding byte
byte_or a b k =
    rw (by_eight k)
    (ap (λ (n : ℕ). n % 2 ^ 8) (or_shr a b (8 * k)) ∙ or_mod (a / 2 ^ (8 * k)) (b / 2 ^ (8 * k)) 8)

-- byte k of a word of n bytes that is made of f
byte-number : (n : ℕ) (f : ℕ → Bool) (k : ℕ) → k < n → byte (number (8 * n) f) k ≡ number 8 (λ i. f (8 * k + i))
byte-number n f k h =
    same_bits 8 _ _ (byte_below (number (8 * n) f) k) (number_below 8 (λ i. f (8 * k + i)))
    (λ i l. bit_byte (number (8 * n) f) k i l ∙ (bit-number (8 * n) f (8 * k + i) (omega arith) ∙ sym (bit-number 8 (λ j. f (8 * k + j)) i l)))

pub byte-ones : (n k : ℕ) → k < n → byte (2 ^ (8 * n) - 1) k ≡ 255
byte-ones n k h =
    same_bits 8 _ _ (byte_below (2 ^ (8 * n) - 1) k) (omega arith)
    (λ i l. bit_byte (2 ^ (8 * n) - 1) k i l ∙ (bit-ones (8 * n) (8 * k + i) (omega arith) ∙ sym (bit-ones 8 i l)))

-- the bytes of a made word are made pixels
pub byte-made : (n op mask source old k : ℕ) → k < n
    → byte (made (8 * n) op mask source old) k ≡ made 8 op (byte mask k) (byte source k) (byte old k)
unfolding made
byte-made n op mask source old k h =
    byte-number n _ k h ∙ number_same 8 (λ i l. simp (bit_byte mask k i l, bit_byte source k i l, bit_byte old k i l))

-- ---- Shifts by whole bytes.

pub byte_high : (n s k : ℕ) → byte (n / 2 ^ (8 * s)) k ≡ byte n (s + k)
unfolding byte
byte_high n s k =
    let e : 8 * s + 8 * k ≡ 8 * (s + k) = omega arith in
    ap (λ (m : ℕ). m % 256)
    (ap (λ (d : ℕ). n / 2 ^ (8 * s) / d) (by_eight k) ∙ (shr-shr n (8 * s) (8 * k) ∙ ap (λ (d : ℕ). n / d) (ap (λ (m : ℕ). 2 ^ m) e ∙ sym (by_eight (s + k)))))

pub byte_low : (n s k : ℕ) → k < s → byte (n % 2 ^ (8 * s)) k ≡ byte n k
byte_low n s k h =
    same_bits 8 _ _ (byte_below (n % 2 ^ (8 * s)) k) (byte_below n k)
    (λ i l. bit_byte (n % 2 ^ (8 * s)) k i l ∙ (bit_low (8 * s) n (8 * k + i) (omega arith) ∙ sym (bit_byte n k i l)))

pub byte_past : (n s k : ℕ) → n < 2 ^ (8 * s) → byte n (s + k) ≡ 0
byte_past n s k h = sym (byte_high n s k) ∙ (ap (λ (m : ℕ). byte m k) (div-eq_of_lt h) ∙ byte-none k)

pub byte_lifted : (n s k : ℕ) → byte (n * 2 ^ (8 * s)) (s + k) ≡ byte n k
byte_lifted n s k = sym (byte_high (n * 2 ^ (8 * s)) s k) ∙ ap (λ (m : ℕ). byte m k) (shl-shr n (8 * s))

pub byte-under : (n s k : ℕ) → k < s → byte (n * 2 ^ (8 * s)) k ≡ 0
byte-under n s k h = sym (byte_low (n * 2 ^ (8 * s)) s k h) ∙ (ap (λ (m : ℕ). byte m k) (mul-mod_left n (2 ^ (8 * s))) ∙ byte-none k)
