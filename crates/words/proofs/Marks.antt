-- Which bytes are not the same, marked by a one, and the bytes of a word added up. `marked` assumes words of eight bytes, `totalled` a sum of one byte.
use mathlib.Core.Path.{◌≡◌, refl, ap, sym, ◌∙◌}
use mathlib.Core.Bool.{Bool, not}
use Prim.Native.Nat.{ℕ, ◌+◌, ◌*◌, ◌/◌, ◌%◌, ◌^◌, ◌<◌}
use native.Mathlib.Decide.{ℕ_discrete}
use native.Mathlib.Omega.{arith}
use lib.Bits.{bit_and, bit_or, bit_xor, and_le_l, and_le_r, xor_self, xor_add_and}
use lib.Dec.{eqb, eqb→eq}
use borrow.Author.Tests.{eq-eqb, ne_eqb}
use Rattle.raster.specs.Pixel.{value}
use Rattle.raster.proofs.Below.{all_are_below}
use Rattle.span.specs.Fragments.{byte, listed}
use Rattle.span.proofs.Bytes.{byte_below, byte-and, byte_or, byte-xor}
use Rattle.span.proofs.Listed.{listed_same}
use Rattle.words.specs.Words.{joined, added}
use Rattle.words.proofs.Joined.{byte-joined, joined_bytes, joined_add, joined_times}

-- the exclusive-or of two numbers is 0 exactly where they are the same
xor_same : (a b : ℕ) → eqb (bit_xor a b) 0 ≡ eqb b a
xor_same a b = go (ℕ_discrete b a)
  where
    go : Dec (b ≡ a) → eqb (bit_xor a b) 0 ≡ eqb b a
    go (yes e) = rw (e, xor_self a, eq-eqb a a refl)
    go (no e) = ne_eqb (bit_xor a b) 0 (λ z. e (omega (arith, xor_add_and a b, and_le_l a b, and_le_r a b))) ∙ sym (ne_eqb b a e)

-- bits 6:0 of each of eight bytes, and bit 7
abbrev lows : ℕ
lows = 0x7F7F7F7F7F7F7F7F

abbrev highs : ℕ
highs = 0x8080808080808080

-- a byte's bit 7, once 7Fh is added to bits 6:0: set unless the byte is 0. One test over every byte
abbrev right : ℕ → Bool
right b = eqb (bit_and (bit_or (bit_and b 127 + 127) b) 128) (128 * value (not (eqb b 0)))

carried : (b : ℕ) → b < 256 → bit_and (bit_or (bit_and b 127 + 127) b) 128 ≡ 128 * value (not (eqb b 0))
carried b h = eqb→eq _ _ (all_are_below 256 right tt b h)

-- the bytes of a word that has one byte eight times
all_alike : (a n : ℕ) → a < 256 → n ≡ joined (listed 8 (λ k. a)) → (k : ℕ) → k < 8 → byte n k ≡ a
all_alike a n h e k l = ap (λ (m : ℕ). byte m k) e ∙ byte-joined 8 (λ j. a) (λ j _. h) k l

seven : lows ≡ joined (listed 8 (λ k. 127))
unfolding joined listed
seven = refl

eighth : highs ≡ joined (listed 8 (λ k. 128))
unfolding joined listed
eighth = refl

-- eight bytes
pub marked : (a b : ℕ) → a < 2 ^ 64 → b < 2 ^ 64
    → bit_and (bit_or (bit_and (bit_xor a b) lows + lows) (bit_xor a b)) highs / 128 ≡ joined (listed 8 (λ k. value (not (eqb (byte b k) (byte a k)))))
marked a b ha hb =
    let ones : joined (listed 8 (byte y)) ≡ 128 * joined (listed 8 (λ k. value (not (eqb (byte b k) (byte a k)))))
    = ap joined (listed_same 8 each) ∙ joined_times 8 128 (λ k. value (not (eqb (byte b k) (byte a k))))
    in omega (arith, joined_bytes 8 y (omega (arith, and_le_r (bit_or (bit_and x lows + lows) x) highs)), ones)
  where
    x : ℕ
    x = bit_xor a b

    y : ℕ
    y = bit_and (bit_or (bit_and x lows + lows) x) highs

    low : (k : ℕ) → k < 8 → byte (bit_and x lows) k ≡ bit_and (byte x k) 127
    low k h = byte-and x lows k ∙ ap (λ (n : ℕ). bit_and (byte x k) n) (all_alike 127 lows (omega arith) seven k h)

    sums : bit_and x lows + lows ≡ joined (listed 8 (λ k. byte (bit_and x lows) k + 127))
    sums =
        omega (
          arith,
          joined_bytes 8 (bit_and x lows) (omega (arith, and_le_r x lows)),
          seven,
          joined_add 8 (byte (bit_and x lows)) (λ k. 127),
        )

    summed : (k : ℕ) → k < 8 → byte (bit_and x lows + lows) k ≡ bit_and (byte x k) 127 + 127
    summed k h =
        ap (λ (n : ℕ). byte n k) sums
        ∙ (byte-joined 8 (λ j. byte (bit_and x lows) j + 127) (λ j l. omega (arith, low j l, and_le_r (byte x j) 127)) k h
        ∙ ap (λ (n : ℕ). n + 127) (low k h))

    each : (k : ℕ) → k < 8 → byte y k ≡ 128 * value (not (eqb (byte b k) (byte a k)))
    each k h =
        byte-and (bit_or (bit_and x lows + lows) x) highs k
        ∙ (ap (λ (n : ℕ). bit_and (byte (bit_or (bit_and x lows + lows) x) k) n) (all_alike 128 highs (omega arith) eighth k h)
        ∙ (ap (λ (n : ℕ). bit_and n 128) (byte_or (bit_and x lows + lows) x k ∙ ap (λ (n : ℕ). bit_or n (byte x k)) (summed k h))
        ∙ (carried (byte x k) (byte_below x k)
        ∙ ap (λ (t : Bool). 128 * value (not t)) (ap (λ (n : ℕ). eqb n 0) (byte-xor a b k) ∙ xor_same (byte a k) (byte b k)))))

-- the byte between what lies below it and what lies above
middle : (low x high : ℕ) → low < 0x1000000 → x < 256 → (low + 0x1000000 * (x + 256 * high)) / 0x1000000 % 0x100 ≡ x
middle low x high hl hx = let q : (low + 0x1000000 * (x + 256 * high)) / 0x1000000 ≡ x + 256 * high = omega arith in rw q (omega arith)

-- four bytes added up by one multiplication: the sum of all of them stands in byte 3 of the product
four : (a b c d : ℕ) → a + b + c + d < 256 → (a + 256 * b + 65536 * c + 16777216 * d) * 0x01010101 / 0x1000000 % 0x100 ≡ a + b + c + d
four a b c d h =
    let p : (a + 256 * b + 65536 * c + 16777216 * d) * 0x01010101
    ≡ a + 256 * (a + b) + 65536 * (a + b + c) + 0x1000000 * (a + b + c + d + 256 * (b + c + d + 256 * (c + d) + 65536 * d))
    = omega arith
    in
    ap (λ (n : ℕ). n / 0x1000000 % 0x100) p
    ∙ middle (a + 256 * (a + b) + 65536 * (a + b + c)) (a + b + c + d) (b + c + d + 256 * (c + d) + 65536 * d) (omega arith) h

-- the two halves of a word
halved : (low high : ℕ) → low < 0x100000000 → (low + 0x100000000 * high) % 0x100000000 + (low + 0x100000000 * high) / 0x100000000 ≡ low + high
halved low high h = omega arith

-- four bytes of at most 255 in all
narrow : (a b c d rest : ℕ) → a + (b + (c + (d + rest))) < 256 → a + 256 * b + 65536 * c + 16777216 * d < 0x100000000
narrow a b c d rest h = omega arith

-- eight: the halves are added first
pub totalled : (w : ℕ) (f : ℕ → ℕ) → w ≡ joined (listed 8 f) → added (listed 8 f) < 256
    → (w % 0x100000000 + w / 0x100000000) * 0x01010101 / 0x1000000 % 0x100 ≡ added (listed 8 f)
unfolding joined added listed
totalled w f e h =
    let low : ℕ = f 0 + 256 * f 1 + 65536 * f 2 + 16777216 * f 3 in
    let high : ℕ = f 4 + 256 * f 5 + 65536 * f 6 + 16777216 * f 7 in
    let both : w ≡ low + 0x100000000 * high = omega arith in
    let sum : low + high ≡ f 0 + f 4 + 256 * (f 1 + f 5) + 65536 * (f 2 + f 6) + 16777216 * (f 3 + f 7) = omega arith in
    ap (λ (n : ℕ). (n % 0x100000000 + n / 0x100000000) * 0x01010101 / 0x1000000 % 0x100) both
    ∙ ap (λ (n : ℕ). n * 0x01010101 / 0x1000000 % 0x100) (halved low high (narrow (f 0) (f 1) (f 2) (f 3) _ h) ∙ sum)
    ∙ (four (f 0 + f 4) (f 1 + f 5) (f 2 + f 6) (f 3 + f 7) (omega arith) ∙ omega arith)
