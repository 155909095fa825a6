-- A fragment reduced to two bytes paints what the fragment paints; and a reduced word is eight of them. `reduced_painted` assumes an old byte.
use mathlib.Core.Path.{◌≡◌, ap, ap₂, ◌∙◌}
use mathlib.Core.Bool.{Bool, true, false, cond}
use Prim.Native.Nat.{ℕ, ◌-◌, ◌^◌, ◌<◌}
use native.Mathlib.Omega.{arith}
use lib.Bits.{bit_and, bit_xor, and_mask, and_zero_r, xor_zero_r}
use Rattle.raster.specs.Pixel.{made}
use Rattle.raster.proofs.Below.{bit_zeros}
use Rattle.raster.proofs.Bits.{same_bits}
use Rattle.raster.proofs.Made.{made_below, made-outside}
use Rattle.raster.proofs.Reducing.{reduced_made}
use Rattle.span.specs.Fragments.{Fragment, stays, paint, painted, byte}
use Rattle.span.proofs.Bytes.{byte_below, byte-none, byte-ones, byte-and, byte-xor, byte-made}
use Rattle.tables.specs.Reduced.{keeps, flips}

pub reduced_painted : (op : ℕ) (x : Fragment) (old : ℕ) → old < 256 → bit_xor (bit_and old (keeps op x)) (flips op x) ≡ painted op x old
reduced_painted op stays old h = xor_zero_r (bit_and old 255) ∙ (and_mask old 8 ∙ omega arith)
reduced_painted op (paint mask source) old h = reduced_made 8 op mask source old h

-- a pixel that is not enabled is one under the mask 0
masked-painted : (op mask source old : ℕ) (b : Bool) → mask < 256 → old < 256
    → made 8 op (bit_and mask (cond b 255 0)) source old ≡ painted op (cond b (paint mask source) stays) old
masked-painted op mask source old true l h = ap (λ (m : ℕ). made 8 op m source old) (and_mask mask 8 ∙ omega arith)
masked-painted op mask source old false l h =
    ap (λ (m : ℕ). made 8 op m source old) (and_zero_r mask)
    ∙ same_bits 8 _ _ (made_below 8 op 0 source old) h (λ k hk. made-outside 8 op 0 source old k hk (bit_zeros k))

-- pixel k of a word under a mask that is widened from the enabling bits
module _ (op mask source wide k : ℕ) (b : Bool) (h : k < 8) (e : byte wide k ≡ cond b 255 0) where
  at : (old o : ℕ) → o < 256 → byte old k ≡ o
      → byte (made 64 op (bit_and mask wide) source old) k ≡ painted op (cond b (paint (byte mask k) (byte source k)) stays) o
  at old o l q =
      byte-made 8 op (bit_and mask wide) source old k h
      ∙ (ap₂ (λ (m n : ℕ). made 8 op m (byte source k) n) (byte-and mask wide k ∙ ap (λ (n : ℕ). bit_and (byte mask k) n) e) q
      ∙ masked-painted op (byte mask k) (byte source k) o b (byte_below mask k) l)

  pub word-flips : byte (made 64 op (bit_and mask wide) source 0) k ≡ flips op (cond b (paint (byte mask k) (byte source k)) stays)
  word-flips = at 0 0 (omega arith) (byte-none k)

  pub word_keeps : byte (bit_xor (made 64 op (bit_and mask wide) source 0) (made 64 op (bit_and mask wide) source (2 ^ 64 - 1))) k
      ≡ keeps op (cond b (paint (byte mask k) (byte source k)) stays)
  word_keeps = byte-xor _ _ k ∙ ap₂ (λ (x y : ℕ). bit_xor x y) word-flips (at (2 ^ 64 - 1) 255 (omega arith) (byte-ones 8 k h))
