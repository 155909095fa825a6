-- How many of the first n pass a test. Assumes nothing.
use mathlib.Core.Path.{◌≡◌, refl, ap, ap₂, ◌∙◌}
use mathlib.Core.Bool.{Bool, true, false}
use Prim.Native.Nat.{ℕ, zero, suc, ◌+◌, ◌≤◌, ◌<◌}
use native.Mathlib.Decide.{ℕ_discrete}
use native.Mathlib.Nat.{not-suc-le-zero}
use native.Mathlib.Numerals.{add-one}
use native.Mathlib.Omega.{arith}
use Rattle.raster.specs.Pixel.{value}
use Rattle.span.specs.Fragments.{counted}

pub counted_step : (n : ℕ) (f : ℕ → Bool) → counted (n + 1) f ≡ counted n f + value (f n)
unfolding counted
counted_step n f = rw add-one

-- the first alone
pub counted_one : (f : ℕ → Bool) → counted 1 f ≡ value (f 0)
unfolding counted
counted_one f = omega arith

pub counted_same : (n : ℕ) {f g : ℕ → Bool} → ((j : ℕ) → j < n → f j ≡ g j) → counted n f ≡ counted n g
unfolding counted
counted_same zero e = refl
counted_same (suc n) e = ap₂ (λ (m : ℕ) (b : Bool). m + value b) (counted_same n (λ j h. e j (omega arith))) (e n (omega arith))

pub counted_none : (n : ℕ) (f : ℕ → Bool) → ((j : ℕ) → j < n → f j ≡ false) → counted n f ≡ 0
unfolding counted
counted_none zero f e = refl
counted_none (suc n) f e = ap₂ (λ (m : ℕ) (b : Bool). m + value b) (counted_none n f (λ j h. e j (omega arith))) (e n (omega arith))

pub value_le : (b : Bool) → value b ≤ 1
value_le true = omega arith
value_le false = omega arith

pub counted_le : (n : ℕ) (f : ℕ → Bool) → counted n f ≤ n
unfolding counted
counted_le zero f = omega arith
counted_le (suc n) f = omega (arith, counted_le n f, value_le (f n))

-- counted in two parts
pub counted-append : (k n : ℕ) (f : ℕ → Bool) → counted (k + n) f ≡ counted k f + counted n (λ j. f (k + j))
unfolding counted
counted-append k zero f = let e : k + 0 ≡ k = omega arith in rw e (omega arith)
counted-append k (suc n) f = let e : k + suc n ≡ suc (k + n) = omega arith in rw e (omega (arith, counted-append k n f))

-- where none is counted, none passes
pub counted-zero : (n : ℕ) (f : ℕ → Bool) → counted n f ≡ 0 → (j : ℕ) → j < n → f j ≡ false
unfolding counted
counted-zero zero f e j h = absurd (not-suc-le-zero h)
counted-zero (suc n) f e j h = go (ℕ_discrete j n) (f n) refl (λ q l. counted-zero n f q j l)
  where
    go : Dec (j ≡ n) → (b : Bool) → f n ≡ b → (counted n f ≡ 0 → j < n → f j ≡ false) → f j ≡ false
    go d true q below = absurd (omega (arith, ap value q))
    go (yes i) false q below = ap f i ∙ q
    go (no i) false q below = below (omega arith) (omega arith)

-- what passes one test passes the other
pub counted-within : (n : ℕ) (f g : ℕ → Bool) → ((j : ℕ) → j < n → value (f j) ≤ value (g j)) → counted n f ≤ counted n g
unfolding counted
counted-within zero f g e = omega arith
counted-within (suc n) f g e = omega (arith, counted-within n f g (λ j h. e j (omega arith)), e n (omega arith))

-- what passes a third test passes just one of two
pub counted_sum : (n : ℕ) (f g h : ℕ → Bool) → ((j : ℕ) → j < n → value (f j) + value (g j) ≡ value (h j)) → counted n f + counted n g ≡ counted n h
unfolding counted
counted_sum zero f g h e = omega arith
counted_sum (suc n) f g h e = omega (arith, counted_sum n f g h (λ j l. e j (omega arith)), e n (omega arith))
