-- Bytes joined to a word, and its bytes again; words and bytes added. `byte-joined` assumes bytes, `joined_bytes` a word of so many.
use mathlib.Core.Path.{◌≡◌, refl, ap, sym, ◌∙◌}
use mathlib.Core.Bool.{Bool}
use Prim.Native.Nat.{ℕ, zero, suc, ◌+◌, ◌*◌, ◌/◌, ◌%◌, ◌^◌, ◌<◌, suc-le-suc}
use native.Mathlib.Nat.{le_of_suc-le-suc, not-suc-le-zero, zero-lt-suc, pow-succ', div-div-eq-div-mul}
use native.Mathlib.Omega.{arith}
use Rattle.raster.specs.Pixel.{value}
use Rattle.span.specs.Fragments.{byte, listed, counted}
use Rattle.span.proofs.Bytes.{byte-zero}
use Rattle.span.proofs.Counted.{counted-append, counted_same}
use Rattle.span.proofs.Listed.{listed_same}
use Rattle.words.specs.Words.{joined, added}

byte-suc : (n k : ℕ) → byte n (suc k) ≡ byte (n / 256) k
unfolding byte
byte-suc n k = ap (λ (m : ℕ). m % 256) (ap (λ (e : ℕ). n / e) (pow-succ' 256 k) ∙ sym (div-div-eq-div-mul n 256 (256 ^ k)))

-- byte k of the number joined of f is f k
pub byte-joined : (n : ℕ) (f : ℕ → ℕ) → ((k : ℕ) → k < n → f k < 256) → (k : ℕ) → k < n → byte (joined (listed n f)) k ≡ f k
unfolding joined listed
byte-joined zero f b k h = absurd (not-suc-le-zero h)
byte-joined (suc n) f b zero h =
    let l = b 0 (zero-lt-suc n) in byte-zero _ ∙ omega arith
byte-joined (suc n) f b (suc k) h =
    let l = b 0 (zero-lt-suc n) in
    let e : (f 0 + 256 * joined (listed n (λ j. f (suc j)))) / 256 ≡ joined (listed n (λ j. f (suc j))) = omega arith in
    byte-suc _ k ∙ (ap (λ (m : ℕ). byte m k) e ∙ byte-joined n (λ j. f (suc j)) (λ j q. b (suc j) (suc-le-suc q)) k (le_of_suc-le-suc h))

-- a number of n bytes is its bytes joined
pub joined_bytes : (n m : ℕ) → m < 256 ^ n → m ≡ joined (listed n (byte m))
unfolding joined listed
joined_bytes zero m h = omega arith
joined_bytes (suc n) m h =
    let small : m / 256 < 256 ^ n = omega (arith, pow-succ' 256 n) in
    let rest : m / 256 ≡ joined (listed n (λ k. byte m (suc k)))
    = joined_bytes n (m / 256) small ∙ ap joined (listed_same n (λ k _. sym (byte-suc m k)))
    in omega (arith, byte-zero m, rest)

-- byte by byte
pub joined_add : (n : ℕ) (f g : ℕ → ℕ) → joined (listed n f) + joined (listed n g) ≡ joined (listed n (λ k. f k + g k))
unfolding joined listed
joined_add zero f g = refl
joined_add (suc n) f g = omega (arith, joined_add n (λ k. f (suc k)) (λ k. g (suc k)))

pub joined_times : (n a : ℕ) (f : ℕ → ℕ) → joined (listed n (λ k. a * f k)) ≡ a * joined (listed n f)
unfolding joined listed
joined_times zero a f = omega arith
joined_times (suc n) a f = omega (arith, joined_times n a (λ k. f (suc k)))

pub added_add : (n : ℕ) (f g : ℕ → ℕ) → added (listed n f) + added (listed n g) ≡ added (listed n (λ k. f k + g k))
unfolding added listed
added_add zero f g = refl
added_add (suc n) f g = omega (arith, added_add n (λ k. f (suc k)) (λ k. g (suc k)))

-- ones where a test passes
pub added-counted : (n : ℕ) (f : ℕ → Bool) → added (listed n (λ k. value (f k))) ≡ counted n f
unfolding added listed counted
added-counted zero f = refl
added-counted (suc n) f =
    let e : suc n ≡ 1 + n = omega arith in
    let s : (k : ℕ) → 1 + k ≡ suc k = λ k. omega arith in
    omega (
      arith,
      added-counted n (λ k. f (suc k)),
      ap (λ (m : ℕ). counted m f) e ∙ counted-append 1 n f,
      counted_same n (λ k h. ap f (s k)),
    )
