-- The seam, what Ask 1 of the change requests is for: two fills of one mode whose addresses agree mod 32 give every pixel in both spans the same
-- mask, the same source and the same enabled. Assumes nothing.
use mathlib.Core.Path.{◌≡◌, refl, ap, sym, ◌∙◌}
use mathlib.Core.Bool.{Bool, true, cond}
use Prim.Native.Nat.{ℕ, ◌+◌, ◌-◌, ◌%◌, ◌≤◌}
use native.Mathlib.Omega.{arith}
use Rattle.raster.specs.Pixel.{bit}
use Rattle.span.specs.Fragments.{paint, stays}
use Rattle.span.specs.Spans.{Span, In, spanned}
use Rattle.span.proofs.Spans.{spanned_in}
use Rattle.card.specs.declared.Card.{Card}
use Rattle.card.specs.declared.Write.{Write}
use Rattle.rules.specs.Modes.{foreground, background, colour, effective, fill_low, fill_first, fill_width, frame_span}
use Rattle.rules.specs.declared.Mode.{Mode}
use Rattle.rules.specs.declared.Mode.TheVariants.{OpaqueFill, TransparentFill, BlockFill}

-- the three fills
pub data Fill : Type 0 where
  opaque_fill : Fill
  transparent_fill : Fill
  block_fill : Fill

abbrev pub fill_mode : Fill → Mode
fill_mode opaque_fill = OpaqueFill
fill_mode transparent_fill = TransparentFill
fill_mode block_fill = BlockFill

-- the span of a fill write
abbrev pub fill_span : Fill → Card → Write → Span
fill_span f c w = frame_span (fill_mode f) c w

pub fill_reach : (f : Fill) (c : Card) (w : Write) → ((fill_span f c w).first ≡ fill_first w) × ((fill_span f c w).width ≡ fill_width w)
unfolding frame_span
fill_reach opaque_fill c w = (refl, refl)
fill_reach transparent_fill c w = (refl, refl)
fill_reach block_fill c w = (refl, refl)

-- what a span gives pixel p: its mask, its source, and whether it is enabled
abbrev pub given : Card → Span → ℕ → ℕ × ℕ × Bool
given c s p = (effective c p, s.takes (p - s.first), s.on (p - s.first))

-- what a fill gives a pixel that uses the bit b of the fill mask
abbrev pub given_by : Fill → Card → Bool → ℕ → ℕ × ℕ × Bool
given_by opaque_fill c b p = (effective c p, cond b (foreground c p) (background c p), true)
given_by transparent_fill c b p = (effective c p, foreground c p, b)
given_by block_fill c b p = (effective c p, colour c p, b)

place : (w : Write) (p : ℕ) → fill_first w ≤ p → fill_first w + (p - fill_first w) ≡ p
place w p h = omega arith

slid : (w : Write) (p : ℕ) → fill_first w ≤ p → p - fill_first w + fill_low w ≡ p - w.address
slid w p h = omega arith

-- pixel p of a fill at address a uses bit (p - a) mod 32
pub uses : (f : Fill) (c : Card) (w : Write) (p : ℕ) → In p (fill_span f c w)
    → given c (fill_span f c w) p ≡ given_by f c (bit c.registers.fill ((p - w.address) % 32)) p
unfolding frame_span
uses opaque_fill c w p h = rw (place w p h.0, slid w p h.0)
uses transparent_fill c w p h = rw (place w p h.0, slid w p h.0)
uses block_fill c w p h = rw (place w p h.0, slid w p h.0)

module _ (f : Fill) (c : Card) (w w' : Write) (e : w.address % 32 ≡ w'.address % 32) (p : ℕ) (h : In p (fill_span f c w)) (h' : In p (fill_span f c w')) where
  -- the seam: two fills whose addresses agree mod 32 give a pixel that lies in both the same mask, the same source and the same enabled, whatever
  -- their low bits and widths are
  pub seam : given c (fill_span f c w) p ≡ given c (fill_span f c w') p
  seam =
      let k : (p - w.address) % 32 ≡ (p - w'.address) % 32 = omega (arith, h.0, h'.0, (fill_reach f c w).0, (fill_reach f c w').0) in
      uses f c w p h ∙ (ap (λ (i : ℕ). given_by f c (bit c.registers.fill i) p) k ∙ sym (uses f c w' p h'))

  -- so the same fragment
  pub seam_fragment : spanned (effective c) (fill_span f c w) p ≡ spanned (effective c) (fill_span f c w') p
  seam_fragment =
      at (fill_span f c w) h ∙ (ap (λ (g : ℕ × ℕ × Bool). cond g.2 (paint g.0 g.1) stays) seam ∙ sym (at (fill_span f c w') h'))
    where
      at : (s : Span) → In p s → spanned (effective c) s p ≡ cond (s.on (p - s.first)) (paint (effective c p) (s.takes (p - s.first))) stays
      at s i =
          let k : s.first + (p - s.first) ≡ p = omega (arith, i.0) in
          spanned_in (effective c) s p (p - s.first) (omega (arith, i.0)) (omega (arith, i.0, i.1)) ∙ rw k
