-- A run of bytes stored at once, byte by byte. `sets_inside` and `stored_listed` assume that it lies inside, `four_stored` a list of 32.
use mathlib.Core.Path.{◌≡◌, refl, ap, ap₂, ◌∙◌}
use mathlib.Core.Logic.{◌⊎◌, inl, inr, ⊎_elim}
use mathlib.Core.List.{List, ◌++◌}
use Prim.Native.Nat.{ℕ, zero, suc, ◌+◌, ◌*◌, ◌/◌, ◌%◌, ◌≤◌, ◌<◌}
use native.Mathlib.Nat.{le_of_suc-le-suc, not-suc-le-zero}
use native.Mathlib.Omega.{arith}
use lib.ListN.{length, get_or, set, drop, length-set, get_or-append}
use lib.Seq.{sets, get_or-set_same, get_or-set_other}
use Rattle.span.specs.Fragments.{listed, byte}
use Rattle.span.specs.Strokes.{pattern_byte}
use Rattle.span.proofs.Listed.{listed-set, listed-none, listed-length, listed_at}

pub sets_outside : (n : ℕ) (f : ℕ → ℕ) (v : List ℕ) (a i : ℕ) → (i < a) ⊎ (a + n ≤ i) → get_or (sets v a (listed n f)) i 0 ≡ get_or v i 0
unfolding listed
sets_outside zero f v a i h = refl
sets_outside (suc n) f v a i h =
    sets_outside n (λ k. f (suc k)) (set v a (f 0)) (suc a) i (⊎_elim (λ l. inl (omega arith)) (λ l. inr (omega arith)) h)
    ∙ get_or-set_other v a i (f 0) 0 (λ e. ⊎_elim (λ l. omega arith) (λ l. omega arith) h)

pub sets_inside : (n : ℕ) (f : ℕ → ℕ) (v : List ℕ) (a k : ℕ) → a + n ≤ length v → k < n → get_or (sets v a (listed n f)) (a + k) 0 ≡ f k
unfolding listed
sets_inside zero f v a k l h = absurd (not-suc-le-zero h)
sets_inside (suc n) f v a zero l h =
    ap (λ (i : ℕ). get_or (sets (set v a (f 0)) (suc a) (listed n (λ k. f (suc k)))) i 0) (omega arith)
    ∙ (sets_outside n (λ k. f (suc k)) (set v a (f 0)) (suc a) a (inl (omega arith)) ∙ get_or-set_same v a (f 0) 0 (omega arith))
sets_inside (suc n) f v a (suc k) l h =
    ap (λ (i : ℕ). get_or (sets (set v a (f 0)) (suc a) (listed n (λ j. f (suc j)))) i 0) (omega arith)
    ∙ sets_inside n (λ j. f (suc j)) (set v a (f 0)) (suc a) k (simp length-set (omega arith)) (le_of_suc-le-suc h)

-- a list whose first i elements are f's, and then m more of them stored
pub stored_listed : (m i : ℕ) (f g : ℕ → ℕ) (xs ys : List ℕ) → i + m ≤ length xs → ys ≡ listed i f ++ drop i xs
    → ((k : ℕ) → k < m → g k ≡ f (i + k)) → sets ys i (listed m g) ≡ listed (i + m) f ++ drop (i + m) xs
unfolding listed
stored_listed zero i f g xs ys l e q = let z : i ≡ i + 0 = omega arith in e ∙ ap (λ (n : ℕ). listed n f ++ drop n xs) z
stored_listed (suc m) i f g xs ys l e q =
    let one : g 0 ≡ f i = q 0 (omega arith) ∙ ap f (omega arith) in
    let at : suc i ≡ i + 1 = omega arith in
    let end : i + 1 + m ≡ i + suc m = omega arith in
    ap (λ (n : ℕ). sets (set ys i (g 0)) n (listed m (λ k. g (suc k)))) at
    ∙ (stored_listed m (i + 1) f (λ k. g (suc k)) xs (set ys i (g 0)) (omega arith) (listed-set i f xs (omega arith) e one)
    (λ k h. let p : i + suc k ≡ i + 1 + k = omega arith in q (suc k) (omega arith) ∙ ap f p)
    ∙ ap (λ (n : ℕ). listed n f ++ drop n xs) end)

-- four words of a pattern stored one after the other, byte by byte
pub four_stored : (ws xs : List ℕ) {a b c d : List ℕ} → length xs ≡ 32 → a ≡ sets xs 0 (listed 8 (byte (get_or ws 0 0)))
    → b ≡ sets a 8 (listed 8 (byte (get_or ws 1 0))) → c ≡ sets b 16 (listed 8 (byte (get_or ws 2 0))) → d ≡ sets c 24 (listed 8 (byte (get_or ws 3 0)))
    → (j : ℕ) → j < 32 → get_or d j 0 ≡ pattern_byte ws j
four_stored ws xs {a} {b} {c} {d} l ea eb ec ed j h =
    let one = ea ∙ stored_listed 8 0 f (byte (get_or ws 0 0)) xs xs (omega arith) (listed-none f xs) (at 0 (omega arith)) in
    let two = eb ∙ stored_listed 8 8 f (byte (get_or ws 1 0)) xs a (omega arith) one (at 1 (omega arith)) in
    let three = ec ∙ stored_listed 8 16 f (byte (get_or ws 2 0)) xs b (omega arith) two (at 2 (omega arith)) in
    let four = ed ∙ stored_listed 8 24 f (byte (get_or ws 3 0)) xs c (omega arith) three (at 3 (omega arith)) in
    ap (λ (v : List ℕ). get_or v j 0) four
    ∙ (get_or-append (listed 32 f) (drop 32 xs) 0 j (omega (arith, listed-length 32 f)) ∙ listed_at 32 f j h)
  where
    f : ℕ → ℕ
    f j = pattern_byte ws j

    at : (g : ℕ) → g < 4 → (k : ℕ) → k < 8 → byte (get_or ws g 0) k ≡ f (8 * g + k)
    at g hg k hk =
        let d : g ≡ (8 * g + k) / 8 % 4 = omega arith in
        let m : k ≡ (8 * g + k) % 8 = omega arith in
        ap₂ (λ (i j : ℕ). byte (get_or ws i 0) j) d m
