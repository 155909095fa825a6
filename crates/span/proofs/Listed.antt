-- The list of f 0 to f (n - 1), and a loop that fills an array with it, one store a turn: after i turns it is `listed i f ++ drop i xs`.
-- Assumes nothing.
use mathlib.Core.Path.{◌≡◌, refl, ap, ap₂, sym, ◌∙◌}
use mathlib.Core.List.{List, [], ◌∷◌, ◌++◌}
use Prim.Native.Nat.{ℕ, zero, suc, ◌+◌, ◌≤◌, ◌<◌, suc-le-suc}
use native.Mathlib.Nat.{le_of_suc-le-suc, not-suc-le-zero, zero-lt-suc}
use native.Mathlib.Numerals.{add-one}
use native.Mathlib.Omega.{arith}
use lib.ListN.{length, get_or, take, drop, set, length-drop}
use lib.Seq.{ext_get_or, length-take-le, get_or-take, get_or-drop}
use Rattle.span.specs.Fragments.{listed}

pub listed-length : (n : ℕ) (f : ℕ → ℕ) → length (listed n f) ≡ n
unfolding listed
listed-length zero f = refl
listed-length (suc n) f = ap suc (listed-length n (λ k. f (suc k)))

pub listed_at : (n : ℕ) (f : ℕ → ℕ) (i : ℕ) → i < n → get_or (listed n f) i 0 ≡ f i
unfolding listed
listed_at zero f i h = absurd (not-suc-le-zero h)
listed_at (suc n) f zero h = refl
listed_at (suc n) f (suc i) h = listed_at n (λ k. f (suc k)) i (le_of_suc-le-suc h)

-- with none stored it is xs
pub listed-none : (f : ℕ → ℕ) (xs : List ℕ) → xs ≡ listed 0 f ++ drop 0 xs
unfolding listed
listed-none f xs = refl

set-suc : (i : ℕ) (f : ℕ → ℕ) (xs : List ℕ) → i < length xs → set (listed i f ++ drop i xs) i (f i) ≡ listed (suc i) f ++ drop (suc i) xs
unfolding listed
set-suc i f [] h = absurd (not-suc-le-zero h)
set-suc zero f (x ∷ xs) h = refl
set-suc (suc i) f (x ∷ xs) h = ap (λ (t : List ℕ). f 0 ∷ t) (set-suc i (λ k. f (suc k)) xs (le_of_suc-le-suc h))

-- a store of f i at i makes it the same at i + 1
pub listed-set : (i : ℕ) (f : ℕ → ℕ) (xs : List ℕ) {ys : List ℕ} {y : ℕ} → i < length xs → ys ≡ listed i f ++ drop i xs → y ≡ f i
    → set ys i y ≡ listed (i + 1) f ++ drop (i + 1) xs
listed-set i f xs h e q =
    ap₂ (λ (l : List ℕ) (n : ℕ). set l i n) e q ∙ rw add-one (set-suc i f xs h)

-- two functions that agree below n list the same
pub listed_same : (n : ℕ) {f g : ℕ → ℕ} → ((k : ℕ) → k < n → f k ≡ g k) → listed n f ≡ listed n g
unfolding listed
listed_same zero e = refl
listed_same (suc n) {f} {g} e =
    ap₂ (λ (x : ℕ) (xs : List ℕ). x ∷ xs) (e 0 (zero-lt-suc n))
    (listed_same n {f = λ k. f (suc k)} {g = λ k. g (suc k)} (λ k h. e (suc k) (suc-le-suc h)))

-- a part of a list, element by element
pub listed_part : (n a : ℕ) (v : List ℕ) → a + n ≤ length v → listed n (λ k. get_or v (a + k) 0) ≡ take n (drop a v)
listed_part n a v h =
    ext_get_or 0 _ _ (listed-length n (λ k. get_or v (a + k) 0) ∙ sym (length-take-le n (drop a v) (simp length-drop (omega arith))))
    (λ i l. each i (rw (listed-length n (λ k. get_or v (a + k) 0)) at l))
  where
    each : (i : ℕ) → i < n → get_or (listed n (λ k. get_or v (a + k) 0)) i 0 ≡ get_or (take n (drop a v)) i 0
    each i l = listed_at n (λ k. get_or v (a + k) 0) i l ∙ sym (get_or-take n (drop a v) i 0 l ∙ get_or-drop a v i 0)
