-- Four words that hold eight strokes each, reduced, are the table of a pattern. Assumes nothing.
use mathlib.Core.Path.{◌≡◌, ap, sym, ◌∙◌}
use mathlib.Core.Bool.{Bool, cond}
use mathlib.Core.List.{List, [], ◌∷◌}
use Prim.Native.Nat.{ℕ, ◌<◌}
use native.Mathlib.Omega.{arith}
use lib.ListN.{get_or}
use Rattle.raster.specs.Pixel.{bit}
use Rattle.span.specs.declared.Strokes.{Strokes}
use Rattle.span.specs.Fragments.{Fragment, stays, paint, byte}
use Rattle.span.specs.Strokes.{pattern_byte, stroke}
use Rattle.span.proofs.Bytes.{bit_byte}
use Rattle.span.proofs.Patterns.{Holds, pattern_at, stroke_again, stroke_of}
use Rattle.pixels.specs.declared.Reduced.{Reduced}
use Rattle.tables.specs.declared.Table.{Table}
use Rattle.tables.specs.Reduced.{keeps, flips, Makes}

module _ (s : Strokes) (op : ℕ) where
  -- word g of the table, made of its byte of the enabling bits
  pub record Eight (g bits : ℕ) (r : Reduced) : Type 0 where
    pub enabling : bits ≡ byte s.enable g
    pub reduces : (k : ℕ) → k < 8
        → (byte r.and k ≡ keeps op (cond (bit bits k) (paint (byte s.mask k) (byte (get_or s.source g 0) k)) stays))
        × (byte r.xor k ≡ flips op (cond (bit bits k) (paint (byte s.mask k) (byte (get_or s.source g 0) k)) stays))

  holds : (f : Fragment → ℕ) (g bits n : ℕ) → g < 4 → bits ≡ byte s.enable g
      → ((k : ℕ) → k < 8 → byte n k ≡ f (cond (bit bits k) (paint (byte s.mask k) (byte (get_or s.source g 0) k)) stays))
      → Holds (λ j. f (stroke s j)) g n
  holds f g bits n l e q k h =
      q k h
      ∙ ap f
      (ap (λ (b : Bool). cond b (paint (byte s.mask k) (byte (get_or s.source g 0) k)) stays)
      (ap (λ (m : ℕ). bit m k) e ∙ bit_byte s.enable g k h)
      ∙ sym (stroke_of s g k l h))

  pub quarters_make : {i j m n : ℕ} (a b c d : Reduced) (t : Table) → (t.and ≡ a.and ∷ b.and ∷ c.and ∷ d.and ∷ []) × (t.xor ≡ a.xor ∷ b.xor ∷ c.xor ∷ d.xor ∷ [])
      → Eight 0 i a → Eight 1 j b → Eight 2 m c → Eight 3 n d → Makes t op (stroke s)
  quarters_make a b c d t e ea eb ec ed =
      record {
        and = λ j.
            ap (λ (ws : List ℕ). pattern_byte ws j) e.0
            ∙ (pattern_at (λ i. keeps op (stroke s i)) _ _ _ _
            (keeping 0 a (omega arith) ea) (keeping 1 b (omega arith) eb) (keeping 2 c (omega arith) ec) (keeping 3 d (omega arith) ed) j
            ∙ ap (keeps op) (stroke_again s j));
        xor = λ j.
            ap (λ (ws : List ℕ). pattern_byte ws j) e.1
            ∙ (pattern_at (λ i. flips op (stroke s i)) _ _ _ _
            (flipping 0 a (omega arith) ea) (flipping 1 b (omega arith) eb) (flipping 2 c (omega arith) ec) (flipping 3 d (omega arith) ed) j
            ∙ ap (flips op) (stroke_again s j));
      }
    where
      keeping : (g : ℕ) {bits : ℕ} (r : Reduced) → g < 4 → Eight g bits r → Holds (λ i. keeps op (stroke s i)) g r.and
      keeping g r l e = holds (keeps op) g _ r.and l e.enabling (λ k h. (e.reduces k h).0)

      flipping : (g : ℕ) {bits : ℕ} (r : Reduced) → g < 4 → Eight g bits r → Holds (λ i. flips op (stroke s i)) g r.xor
      flipping g r l e = holds (flips op) g _ r.xor l e.enabling (λ k h. (e.reduces k h).1)
