-- Four words of eight pixels as a pattern of 32, which repeats. Assumes nothing.
use mathlib.Core.Path.{◌≡◌, refl, ap, ap₂, ◌∙◌}
use mathlib.Core.Bool.{cond}
use mathlib.Core.List.{List, [], ◌∷◌}
use Prim.Native.Nat.{ℕ, zero, suc, ◌+◌, ◌*◌, ◌/◌, ◌%◌, ◌<◌}
use native.Mathlib.Omega.{arith}
use lib.ListN.{get_or}
use lib.Pow.{field}
use Rattle.raster.specs.Pixel.{bit}
use Rattle.span.specs.declared.Strokes.{Strokes}
use Rattle.span.specs.Fragments.{stays, paint, byte}
use Rattle.span.specs.Strokes.{stroke, pattern_byte}

-- what holds at each of four indices holds at every one
pub four : (P : ℕ → Type 0) → P 0 → P 1 → P 2 → P 3 → (g : ℕ) → g < 4 → P g
four P pa pb pc pd zero h = pa
four P pa pb pc pd (suc zero) h = pb
four P pa pb pc pd (suc (suc zero)) h = pc
four P pa pb pc pd (suc (suc (suc zero))) h = pd
four P pa pb pc pd (suc (suc (suc (suc g)))) h = absurd (omega arith)

-- word n holds f at the pixels of word g
abbrev pub Holds : (ℕ → ℕ) → ℕ → ℕ → Type 0
Holds f g n = (k : ℕ) → k < 8 → byte n k ≡ f (8 * g + k)

-- four words that hold f at 32 pixels hold it, repeated, at every pixel
pub pattern_of : (f : ℕ → ℕ) (ws : List ℕ) → ((g : ℕ) → g < 4 → Holds f g (get_or ws g 0)) → (j : ℕ) → pattern_byte ws j ≡ f (j % 32)
pattern_of f ws h j =
    let e : 8 * (j / 8 % 4) + j % 8 ≡ j % 32 = omega arith in
    h (j / 8 % 4) (omega arith) (j % 8) (omega arith) ∙ ap f e

pub pattern_at : (f : ℕ → ℕ) (a b c d : ℕ) → Holds f 0 a → Holds f 1 b → Holds f 2 c → Holds f 3 d
    → (j : ℕ) → pattern_byte (a ∷ b ∷ c ∷ d ∷ []) j ≡ f (j % 32)
pattern_at f a b c d pa pb pc pd = pattern_of f (a ∷ b ∷ c ∷ d ∷ []) (four (λ g. Holds f g (get_or (a ∷ b ∷ c ∷ d ∷ []) g 0)) pa pb pc pd)

-- it repeats
pub pattern_again : (ws : List ℕ) (j : ℕ) → pattern_byte ws (j % 32) ≡ pattern_byte ws j
pattern_again ws j =
    let m : j % 32 % 8 ≡ j % 8 = omega arith in
    let g : j % 32 / 8 % 4 ≡ j / 8 % 4 = rw (field j 2 3) (omega arith) in
    ap₂ (λ (i k : ℕ). byte (get_or ws i 0) k) g m

-- the strokes repeat
pub stroke_again : (s : Strokes) (j : ℕ) → stroke s (j % 32) ≡ stroke s j
stroke_again s j =
    let e : j % 32 % 32 ≡ j % 32 = omega arith in
    let m : j % 32 % 8 ≡ j % 8 = omega arith in
    let g : j % 32 / 8 % 4 ≡ j / 8 % 4 = rw (field j 2 3) (omega arith) in
    simp (e, m, g)

-- a stroke of word g, by its place there
pub stroke_of : (s : Strokes) (g k : ℕ) → g < 4 → k < 8
    → stroke s (8 * g + k) ≡ cond (bit s.enable (8 * g + k)) (paint (byte s.mask k) (byte (get_or s.source g 0) k)) stays
stroke_of s g k hg hk =
    let e : (8 * g + k) % 32 ≡ 8 * g + k = omega arith in
    let m : (8 * g + k) % 8 ≡ k = omega arith in
    let d : (8 * g + k) / 8 ≡ g = omega arith in
    let q : (8 * g + k) / 8 % 4 ≡ g = rw d (omega arith) in
    simp (e, m, q)

-- one register, twice in a tile
twice : (x t : ℕ) → t < 2 → get_or (x ∷ x ∷ []) t 0 ≡ x
twice x zero h = refl
twice x (suc zero) h = refl
twice x (suc (suc t)) h = absurd (omega arith)

pub tiled_solid : (x p : ℕ) → byte (get_or (x ∷ x ∷ []) (p % 8 / 4) 0) (p % 4) ≡ byte x (p % 4)
tiled_solid x p = ap (λ (y : ℕ). byte y (p % 4)) (twice x (p % 8 / 4) (omega arith))
