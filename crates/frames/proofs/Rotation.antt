-- The library's rotation to the right is the plan's: what is shifted out below comes in above. Assumes a word of 32 bits.
use mathlib.Core.Path.{◌≡◌, refl, ap, ap₂, sym, subst, ◌∙◌}
use Prim.Native.Nat.{ℕ, ◌+◌, ◌-◌, ◌*◌, ◌/◌, ◌%◌, ◌^◌, ◌<◌}
use native.Mathlib.Decide.{dec_lt}
use native.Mathlib.Nat.{add-zero, mod-lt}
use native.Mathlib.Omega.{arith}
use lib.Bits.{bit_or, or_self}
use lib.Pow.{pow-add, pow_pos}
use Rattle.std.proofs.lemmas.Nat.{mod-pow-add, mod_low, or_comm, or_shifted, shl-shr, shr_below, shr_high, shr_split}
use Rattle.plan.specs.Plan.{rotated}
use Rattle.plan.proofs.WordBits.{rotated_twice}

-- both are the low k bits of x above its other j bits
or_twice : (x j k : ℕ) → j + k ≡ 32 → x < 2 ^ 32 → bit_or (x / 2 ^ k) (x * 2 ^ j % 2 ^ 32) ≡ (x * 2 ^ 32 + x) / 2 ^ k % 2 ^ 32
or_twice x j k e h =
    let d : 32 ≡ k + j = omega arith in
    let fits : x / 2 ^ k < 2 ^ j = shr_below x j k (subst (λ (i : ℕ). x < 2 ^ i) (sym e) h) in
    let clear : x * 2 ^ j % 2 ^ j ≡ 0 = ap (λ (n : ℕ). n % 2 ^ j) (sym (add-zero _)) ∙ mod_low x j 0 (pow_pos j) in
    let up : x * 2 ^ j % 2 ^ 32 ≡ x % 2 ^ k * 2 ^ j =
    ap (λ (i : ℕ). x * 2 ^ j % 2 ^ i) d ∙ (mod-pow-add (x * 2 ^ j) k j ∙ rw (shl-shr x j, clear) (add-zero _)) in
    let p : x * 2 ^ 32 ≡ x * (2 ^ j * 2 ^ k) = ap (λ (i : ℕ). x * 2 ^ i) (sym e) ∙ ap (λ (n : ℕ). x * n) (pow-add 2 j k) in
    let t : x * 2 ^ 32 + x ≡ (x * 2 ^ j + x / 2 ^ k) * 2 ^ k + x % 2 ^ k = omega (arith, p, shr_split x k) in
    let down : (x * 2 ^ 32 + x) / 2 ^ k ≡ x * 2 ^ j + x / 2 ^ k =
    ap (λ (n : ℕ). n / 2 ^ k) t ∙ shr_high (x * 2 ^ j + x / 2 ^ k) k (x % 2 ^ k) (mod-lt _ (pow_pos k)) in
    let twice : (x * 2 ^ 32 + x) / 2 ^ k % 2 ^ 32 ≡ x % 2 ^ k * 2 ^ j + x / 2 ^ k =
    (λ i. down i % 2 ^ d i)
    ∙ (mod-pow-add (x * 2 ^ j + x / 2 ^ k) k j ∙ rw (shr_high x j (x / 2 ^ k) fits, mod_low x j (x / 2 ^ k) fits) refl) in
    ap (bit_or (x / 2 ^ k)) up
    ∙ (or_comm (x / 2 ^ k) (x % 2 ^ k * 2 ^ j) ∙ (or_shifted (x % 2 ^ k) j (x / 2 ^ k) fits ∙ sym twice))

-- the library's rotation, which leaves the word where l is a multiple of 32
pub rotated_whole : (x l : ℕ) → x < 2 ^ 32 → bit_or (x / 2 ^ (l % 32)) (x * 2 ^ ((32 - l % 32) % 32) % 2 ^ 32) ≡ rotated x l
rotated_whole x l h = go (dec_lt 0 (l % 32)) ∙ rotated_twice x l h
  where
    go : Dec (0 < l % 32) → bit_or (x / 2 ^ (l % 32)) (x * 2 ^ ((32 - l % 32) % 32) % 2 ^ 32) ≡ (x * 2 ^ 32 + x) / 2 ^ (l % 32) % 2 ^ 32
    go (yes p) =
        let g : (32 - l % 32) % 32 ≡ 32 - l % 32 = omega arith in
        ap (λ (m : ℕ). bit_or (x / 2 ^ (l % 32)) (x * 2 ^ m % 2 ^ 32)) g
        ∙ or_twice x (32 - l % 32) (l % 32) (omega arith) h
    go (no n) =
        let z : l % 32 ≡ 0 = omega arith in
        let low : x / 1 ≡ x = omega arith in
        let high : x * 1 % 2 ^ 32 ≡ x = omega arith in
        let twice : (x * 2 ^ 32 + x) / 1 % 2 ^ 32 ≡ x = omega arith in
        rw z (ap₂ (λ (a b : ℕ). bit_or a b) low high ∙ (or_self x ∙ sym twice))
