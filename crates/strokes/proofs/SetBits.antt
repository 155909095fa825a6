-- Enabled pixels counted by the set bits of a word that repeats. `repeated` and `repeated_whole` assume a word of 32 bits.
use mathlib.Core.Path.{◌≡◌, refl, ap, ap₂, sym, ◌∙◌}
use Prim.Native.Nat.{ℕ, zero, suc, ◌+◌, ◌*◌, ◌/◌, ◌%◌, ◌^◌, ◌<◌, ◌≤◌}
use native.Mathlib.Nat.{add-zero, mod-one, mod-lt, one-mul, add_comm, zero-mul, suc-mul, mod-eq_of_lt}
use native.Mathlib.Omega.{arith}
use lib.Count.{ones, ones_cat}
use lib.Dec.{eqb, lit<}
use lib.Pow.{mod-pow-add, pow_pos, shl_exact}
use Rattle.raster.specs.Pixel.{bit, value}
use Rattle.span.specs.Fragments.{counted}
use Rattle.span.proofs.Counted.{counted_same, counted-append}

digit : (d : ℕ) → d < 2 → ones d ≡ value (eqb d 1)
unfolding ones
digit zero h = refl
digit (suc zero) h = refl
digit (suc (suc d)) h = absurd (omega arith)

below : (x k : ℕ) → x % 2 ^ k < 2 ^ k
below x k = mod-lt x (pow_pos k)

-- the set bits among the lowest r
ones-counted : (x r : ℕ) → ones (x % 2 ^ r) ≡ counted r (bit x)
unfolding counted bit ones
ones-counted x zero = ap ones (mod-one x)
ones-counted x (suc r) =
    ap ones (ap (λ (e : ℕ). x % 2 ^ e) (omega arith) ∙ mod-pow-add x 1 r)
    ∙ (ones_cat r (x / 2 ^ r % 2) (x % 2 ^ r) (below x r)
    ∙ (add_comm _ _ ∙ ap₂ (λ (a b : ℕ). a + b) (ones-counted x r) (digit (x / 2 ^ r % 2) (omega arith))))

first : (x r : ℕ) → r ≤ 32 → counted r (λ j. bit x (j % 32)) ≡ counted r (bit x)
first x r h = counted_same r (λ j l. let e : j % 32 ≡ j = omega arith in ap (λ (k : ℕ). bit x k) e)

turns : (x q : ℕ) → counted (q * 32) (λ j. bit x (j % 32)) ≡ q * counted 32 (bit x)
unfolding counted
turns x zero = sym (zero-mul (counted 32 (bit x)))
turns x (suc q) =
    let n : suc q * 32 ≡ q * 32 + 32 = omega arith in
    ap (λ (k : ℕ). counted k (λ j. bit x (j % 32))) n
    ∙ (counted-append (q * 32) 32 (λ j. bit x (j % 32))
    ∙ (ap₂ (λ (a b : ℕ). a + b) (turns x q)
    (counted_same 32 (λ j l. let e : (q * 32 + j) % 32 ≡ j = omega arith in ap (λ (k : ℕ). bit x k) e))
    ∙ sym (suc-mul q (counted 32 (bit x)))))

-- one shifted within 32 bits
pub one_shifted : (k : ℕ) → k < 32 → 1 * 2 ^ k % 4294967296 ≡ 2 ^ k
one_shifted k h = shl_exact 1 k 32 (lit< tt) (omega arith) ∙ one-mul (2 ^ k)

-- whole turns, and what is left
pub repeated : (x n : ℕ) → x < 2 ^ 32 → n / 32 * ones x + ones (x % 2 ^ (n % 32)) ≡ counted n (λ j. bit x (j % 32))
repeated x n h =
    let w : ones x ≡ counted 32 (bit x) = ap ones (sym (mod-eq_of_lt h)) ∙ ones-counted x 32 in
    let p : n / 32 * 32 + n % 32 ≡ n = omega arith in
    ap₂ (λ (a b : ℕ). n / 32 * a + b) w (ones-counted x (n % 32) ∙ sym (first x (n % 32) (omega arith)))
    ∙ (ap₂ (λ (a b : ℕ). a + b) (sym (turns x (n / 32)))
    (counted_same (n % 32) (λ j l. let e : j % 32 ≡ (n / 32 * 32 + j) % 32 = omega arith in ap (λ (k : ℕ). bit x k) e))
    ∙ (sym (counted-append (n / 32 * 32) (n % 32) (λ j. bit x (j % 32))) ∙ ap (λ (k : ℕ). counted k (λ j. bit x (j % 32))) p))

-- where nothing is left
pub repeated_whole : (x n : ℕ) → x < 2 ^ 32 → n % 32 ≡ 0 → n / 32 * ones x ≡ counted n (λ j. bit x (j % 32))
unfolding ones
repeated_whole x n h z =
    let none : 0 ≡ ones (x % 2 ^ (n % 32)) = sym (ap (λ (r : ℕ). ones (x % 2 ^ r)) z ∙ ap ones (mod-one x)) in
    sym (add-zero (n / 32 * ones x)) ∙ (ap (λ (k : ℕ). n / 32 * ones x + k) none ∙ repeated x n h)
