-- One of the four words of a pattern: chosen by bits, or turned. Assumes nothing.
use mathlib.Core.Path.{◌≡◌, ap, ◌∙◌}
use mathlib.Core.Bool.{Bool, true, false, cond}
use mathlib.Core.List.{List, [], ◌∷◌}
use Prim.Native.Nat.{ℕ, ◌+◌, ◌*◌, ◌/◌, ◌%◌, ◌<◌}
use native.Mathlib.Omega.{arith}
use lib.ListN.{get_or}
use Rattle.std.specs.Int.{w32, to_le_bytes}
use Rattle.raster.specs.Pixel.{bit, number}
use Rattle.raster.proofs.Below.{bit_zeros}
use Rattle.raster.proofs.Bits.{bit-number, same_bits, bit-ones}
use Rattle.span.specs.Fragments.{byte}
use Rattle.span.specs.Strokes.{pattern_byte}
use Rattle.span.proofs.Bytes.{bit_byte, byte_below, byte_of}
use Rattle.span.proofs.Patterns.{Holds, four, pattern_of}

-- a selection by bytes of ones and zeros picks bytes
pub picked : (wide x y k : ℕ) (b : Bool) → k < 8 → byte wide k ≡ cond b 255 0
    → byte (number 64 (λ j. cond (bit wide j) (bit x j) (bit y j))) k ≡ cond b (byte x k) (byte y k)
picked wide x y k b h e =
    same_bits 8 _ _ (byte_below _ k) (below b)
    (λ i l.
    bit_byte _ k i l
    ∙ (bit-number 64 (λ j. cond (bit wide j) (bit x j) (bit y j)) (8 * k + i) (omega arith)
    ∙ simp (← bit_byte wide k i l, ← bit_byte x k i l, ← bit_byte y k i l, e) (pick b i l)))
  where
    below : (b : Bool) → cond b (byte x k) (byte y k) < 256
    below true = byte_below x k
    below false = byte_below y k

    pick : (b : Bool) (i : ℕ) → i < 8 → cond (bit (cond b 255 0) i) (bit (byte x k) i) (bit (byte y k) i) ≡ bit (cond b (byte x k) (byte y k)) i
    pick true i l = rw (bit-ones 8 i l)
    pick false i l = rw (bit_zeros i)

-- four words, each chosen by its byte of the bits
module _ (pick x y : ℕ) (bits ws : List ℕ) (e : bits ≡ to_le_bytes w32 pick) where
  abbrev Eight : ℕ → Type 0
  Eight g = (k : ℕ) → k < 8 → byte (get_or ws g 0) k ≡ cond (bit (get_or bits g 0) k) (byte x k) (byte y k)

  pub chosen : Eight 0 → Eight 1 → Eight 2 → Eight 3 → (j : ℕ) → pattern_byte ws j ≡ cond (bit pick (j % 32)) (byte x (j % 8)) (byte y (j % 8))
  chosen pa pb pc pd j =
      let q : j % 32 % 8 ≡ j % 8 = omega arith in
      pattern_of (λ i. cond (bit pick i) (byte x (i % 8)) (byte y (i % 8))) ws (λ g h. holds g h (four Eight pa pb pc pd g h)) j
      ∙ ap (λ (k : ℕ). cond (bit pick (j % 32)) (byte x k) (byte y k)) q
    where
      holds : (g : ℕ) → g < 4 → Eight g → Holds (λ i. cond (bit pick i) (byte x (i % 8)) (byte y (i % 8))) g (get_or ws g 0)
      holds g l f k h =
          let p : k ≡ (8 * g + k) % 8 = omega arith in
          f k h
          ∙ (ap (λ (b : Bool). cond b (byte x k) (byte y k)) (ap (λ (m : ℕ). bit m k) (byte_of pick g e l) ∙ bit_byte pick g k h)
          ∙ ap (λ (i : ℕ). cond (bit pick (8 * g + k)) (byte x i) (byte y i)) p)

-- two registers turned, pixel by pixel
pub turned_pair : (low high at w r : ℕ) → ((k : ℕ) → k < 8 → byte w k ≡ byte (get_or (low ∷ high ∷ []) (k / 4) 0) (k % 4))
    → ((k : ℕ) → k < 8 → byte r k ≡ byte w ((at + k) % 8))
    → (j : ℕ) → byte r (j % 8) ≡ byte (get_or (low ∷ high ∷ []) ((at + j) % 8 / 4) 0) ((at + j) % 4)
turned_pair low high at w r ew er j =
    let p : (at + j % 8) % 8 ≡ (at + j) % 8 = omega arith in
    let q : (at + j) % 8 % 4 ≡ (at + j) % 4 = omega arith in
    er (j % 8) (omega arith)
    ∙ (ap (λ (t : ℕ). byte w t) p
    ∙ (ew ((at + j) % 8) (omega arith) ∙ ap (λ (t : ℕ). byte (get_or (low ∷ high ∷ []) ((at + j) % 8 / 4) 0) t) q))
