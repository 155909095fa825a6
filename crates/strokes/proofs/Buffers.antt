-- Words of pixels read, and read under the bits that enable them. Both assume bytes.
use mathlib.Core.Path.{◌≡◌, ap, ap₂, ◌∙◌}
use mathlib.Core.Bool.{Bool, true, false, cond}
use mathlib.Core.List.{List}
use Prim.Native.Nat.{ℕ, ◌+◌, ◌*◌, ◌<◌}
use native.Mathlib.Omega.{arith}
use lib.Bits.{bit_and, and_mask, and_zero_r}
use lib.ListN.{get_or}
use Rattle.raster.specs.Pixel.{bit}
use Rattle.span.specs.Fragments.{byte, listed}
use Rattle.span.proofs.Patterns.{Holds}
use Rattle.span.proofs.Bytes.{bit_byte, byte-and}
use Rattle.words.specs.Words.{joined}
use Rattle.words.proofs.Joined.{byte-joined}

-- a byte under all ones or under none
kept : (n : ℕ) (b : Bool) → n < 256 → bit_and n (cond b 255 0) ≡ cond b n 0
kept n true h = and_mask n 8 ∙ omega arith
kept n false h = and_zero_r n

-- pixel i of word k
pub read_byte : (v : List ℕ) (at k bits x old wide i : ℕ) → ((j : ℕ) → get_or v j 0 < 256) → i < 8
    → x ≡ byte bits k
    → ((j : ℕ) → j < 8 → byte wide j ≡ cond (bit x j) 255 0)
    → old ≡ joined (listed 8 (λ j. get_or v (at + 8 * k + j) 0))
    → byte (bit_and old wide) i ≡ cond (bit bits (8 * k + i)) (get_or v (at + (8 * k + i)) 0) 0
read_byte v at k bits x old wide i below h ex ew eo =
    let q : at + 8 * k + i ≡ at + (8 * k + i) = omega arith in
    byte-and old wide i
    ∙ (ap₂ (λ (m n : ℕ). bit_and m n)
    (ap (λ (n : ℕ). byte n i) eo ∙ byte-joined 8 (λ j. get_or v (at + 8 * k + j) 0) (λ j _. below (at + 8 * k + j)) i h)
    (ew i h)
    ∙ (kept (get_or v (at + 8 * k + i) 0) (bit x i) (below (at + 8 * k + i))
    ∙ ap₂ (λ (b : Bool) (n : ℕ). cond b (get_or v n 0) 0) (ap (λ (n : ℕ). bit n i) ex ∙ bit_byte bits k i h) q))

-- word g, loaded from bytes
pub loaded_word : (v : List ℕ) (at start g n : ℕ) → ((i : ℕ) → get_or v i 0 < 256) → start ≡ at + 8 * g → n ≡ joined (listed 8 (λ k. get_or v (start + k) 0))
    → Holds (λ j. get_or v (at + j) 0) g n
loaded_word v at start g n below es e k h =
    let p : start + k ≡ at + (8 * g + k) = omega arith in
    ap (λ (m : ℕ). byte m k) e
    ∙ (byte-joined 8 (λ j. get_or v (start + j) 0) (λ j _. below (start + j)) k h ∙ ap (λ (i : ℕ). get_or v i 0) p)
