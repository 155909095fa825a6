-- Demand 2: nothing outside the span, the pixel masks or the plane mask changes, and the held planes keep every bit through any
-- list of writes, refused ones included. Assumes nothing.
use mathlib.Core.Path.{◌≡◌, refl, ◌∙◌}
use mathlib.Core.Bool.{Bool, true, false, cond}
use mathlib.Core.List.{List, [], ◌∷◌, map}
use mathlib.Core.Logic.{◌⊎◌, inl, inr}
use Prim.Native.Nat.{ℕ, ◌+◌, ◌-◌, ◌<◌, ◌≤◌}
use native.Mathlib.Decide.{dec_lt}
use native.Mathlib.Omega.{arith}
use lib.Dec.{eqb}
use lib.ListN.{length, get_or}
use Rattle.raster.specs.Pixel.{bit}
use Rattle.raster.proofs.Bits.{bit-number}
use Rattle.raster.proofs.Made.{made-outside}
use Rattle.span.specs.Fragments.{Fragment, stays, paint, painted}
use Rattle.span.specs.Layers.{Each}
use Rattle.span.proofs.Layers.{drawn_all-kept, drawn_all-outside, each_map, each_all, each_mapped}
use Rattle.card.specs.declared.Card.{Card}
use Rattle.card.specs.declared.Write.{Write}
use Rattle.span.specs.Spans.{Span, spanned}
use Rattle.rules.specs.Modes.{effective_by, effective}
use Rattle.rules.specs.Lines.{spans_of}
use Rattle.rules.specs.Writes.{accepted, operation, layers, after_frame, after_register, next, picture}
use Rattle.rules.specs.Sequences.{card_after, picture_after}
use Rattle.span.proofs.Spans.{spanned-before, spanned_in, spanned-past, spanned_disabled}
use Rattle.demands.proofs.Demand1.{same_length}

-- what a write can do at an address: nothing, or a pixel under the effective mask of that address
data Drawing (c : Card) (a : ℕ) : Fragment → Type 0 where
  leaves : Drawing c a stays
  paints : (source : ℕ) → Drawing c a (paint (effective c a) source)

picked : (c : Card) (a source : ℕ) (b : Bool) → Drawing c a (cond b (paint (effective c a) source) stays)
picked c a source true = paints source
picked c a source false = leaves

in_span : (c : Card) (p : Span) (a : ℕ) → Drawing c a (spanned (effective c) p a)
in_span c p a = go (dec_lt a p.first) (dec_lt a (p.first + p.width))
  where
    go : Dec (a < p.first) → Dec (a < p.first + p.width) → Drawing c a (spanned (effective c) p a)
    go (yes h) k = rw (spanned-before (effective c) p a h) leaves
    go (no h) (no k) = rw (spanned-past (effective c) p a (omega arith)) leaves
    go (no h) (yes k) =
        let e : p.first + (a - p.first) ≡ a = omega arith in
        rw (spanned_in (effective c) p a (a - p.first) (omega arith) (omega arith), e) (picked c a (p.takes (a - p.first)) (p.on (a - p.first)))

-- what holds of the layer of each span holds of each layer
pub each_layer : (p : (ℕ → Fragment) → Type 0) (c : Card) (w : Write) (n : ℕ) → Each (λ s. p (spanned (effective c) s)) (spans_of c w) → Each p (layers c w n)
unfolding layers
each_layer p c w n e = go (accepted c w n)
  where
    go : (b : Bool) → Each p (cond b (map (spanned (effective c)) (spans_of c w)) [])
    go true = each_mapped p (spanned (effective c)) (spans_of c w) e
    go false = tt

-- byte i lies outside the span, or its pixel is not enabled
abbrev pub Misses : ℕ → Span → Type 0
Misses i s = (i < s.first) ⊎ ((s.first + s.width ≤ i) ⊎ (s.on (i - s.first) ≡ false))

missed : (c : Card) (i : ℕ) (s : Span) → Misses i s → spanned (effective c) s i ≡ stays
missed c i s (inl b) = spanned-before (effective c) s i b
missed c i s (inr (inl b)) = spanned-past (effective c) s i b
missed c i s (inr (inr e)) = spanned_disabled (effective c) s i (λ h. e)

-- a byte that every span misses stays
pub outside-stays : (c : Card) (w : Write) (v : List ℕ) (i : ℕ) → i < length v → Each (Misses i) (spans_of c w)
    → get_or (picture c w v) i 0 ≡ get_or v i 0
unfolding picture
outside-stays c w v i h out =
    drawn_all-kept (operation c w) (layers c w (length v)) v i h
    (each_layer (λ f. f i ≡ stays) c w (length v) (each_map (spans_of c w) (missed c i) out))

-- in every byte each bit outside the effective mask stays
pub masked-stays : (c : Card) (w : Write) (v : List ℕ) (i k : ℕ) → i < length v → k < 8 → bit (effective c i) k ≡ false
    → bit (get_or (picture c w v) i 0) k ≡ bit (get_or v i 0) k
unfolding picture
masked-stays c w v i k h l e =
    drawn_all-outside (operation c w) (layers c w (length v)) v i k h
    (each_layer (λ f. (old : ℕ) → bit (painted (operation c w) (f i) old) k ≡ bit old k) c w (length v)
    (each_all (spans_of c w) (λ s. go (spanned (effective c) s i) (in_span c s i))))
  where
    go : (f : Fragment) → Drawing c i f → (old : ℕ) → bit (painted (operation c w) f old) k ≡ bit old k
    go f leaves old = refl
    go f (paints s) old = made-outside 8 (operation c w) (effective c i) s old k l e

-- the effective mask leaves the held planes out
held_masked : (c : Card) (a k : ℕ) → k < 8 → bit c.held k ≡ true → bit (effective c a) k ≡ false
unfolding effective_by
held_masked c a k l e = bit-number 8 _ k l ∙ rw e

-- the held planes keep every bit through one write
pub held_stays : (c : Card) (w : Write) (v : List ℕ) (i k : ℕ) → i < length v → k < 8 → bit c.held k ≡ true
    → bit (get_or (picture c w v) i 0) k ≡ bit (get_or v i 0) k
held_stays c w v i k h l e = masked-stays c w v i k h l (held_masked c i k l e)

-- no write changes which planes are held
pub held_kept : (c : Card) (w : Write) (v : List ℕ) → (next c w v).held ≡ c.held
unfolding next after_frame after_register Rattle.card.specs.Access.stores
held_kept c w v = go (accepted c w (length v)) (eqb w.space 1)
  where
    go : (a r : Bool) → (cond a (cond r (after_register c w v) (after_frame c w v)) c).held ≡ c.held
    go true true = refl
    go true false = refl
    go false r = refl

-- through any list of writes, from any card, the held planes keep every bit, and stay held
pub held_through : (ws : List Write) (c : Card) (v : List ℕ) (i k : ℕ) → i < length v → k < 8 → bit c.held k ≡ true
    → bit (get_or (picture_after ws c v) i 0) k ≡ bit (get_or v i 0) k
unfolding picture_after
held_through [] c v i k h l e = refl
held_through (w ∷ ws) c v i k h l e =
    held_through ws (next c w v) (picture c w v) i k (rw (same_length c w v) h) l (rw (held_kept c w v) e) ∙ held_stays c w v i k h l e

pub held_chosen : (ws : List Write) (c : Card) (v : List ℕ) → (card_after ws c v).held ≡ c.held
unfolding card_after
held_chosen [] c v = refl
held_chosen (w ∷ ws) c v = held_chosen ws (next c w v) (picture c w v) ∙ held_kept c w v
