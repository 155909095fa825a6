-- Two hatches side by side are one hatch: two accepted fills whose addresses agree mod 32, made one after the other, leave the picture and the card
-- of one accepted fill across both, and count as many pixels. It is the seam, seen as a picture. Assumes nothing.
use mathlib.Core.Path.{◌≡◌, refl, ap, ap₂, sym, ◌∙◌}
use mathlib.Core.Bool.{Bool, false, cond}
use mathlib.Core.List.{List, [], ◌∷◌}
use Prim.Native.Nat.{ℕ, ◌+◌, ◌-◌, ◌%◌, ◌<◌}
use native.Mathlib.Omega.{arith}
use lib.ListN.{length}
use Rattle.span.specs.Fragments.{drawn}
use Rattle.span.specs.Layers.{drawn_all}
use Rattle.span.specs.Spans.{Span, In, spanned, enabled_in}
use Rattle.span.proofs.Spans.{beside_shows, beside_counts}
use Rattle.card.specs.declared.Card.{Card}
use Rattle.card.specs.declared.Write.{Write}
use Rattle.rules.specs.Modes.{mode_of, is_block, is_copy, is_line, effective, fill_low, fill_first, fill_width, frame_span}
use Rattle.rules.specs.Lines.{walks, start, visit_count, visits_of, spans_of}
use Rattle.rules.specs.Refusal.{bad_lanes, bad_mode, bad_raster, off_boundary, outside, unloaded, wild_walk, no_line, refusal}
use Rattle.rules.specs.Writes.{count, operation, picture, used_up, moved_line, after_frame, next}
use Rattle.rules.specs.Sequences.{card_after, picture_after}
use Rattle.rules.proofs.Outcome.{picture-accepted, count-accepted, next_frame}
use Rattle.demands.proofs.Demand1.{same_length}
use Rattle.demands.proofs.Seam.{Fill, opaque_fill, transparent_fill, block_fill, fill_mode, fill_span, fill_reach, seam, seam_fragment}

-- an accepted fill on n bytes
pub record Fills (f : Fill) (c : Card) (w : Write) (n : ℕ) : Type 0 where
  pub frame : w.space ≡ 0
  pub mode : mode_of c.registers.mode ≡ fill_mode f
  pub accepted : refusal c w n ≡ 0

-- w' starts where w ends, at an address that agrees with that of w mod 32, and u starts as w does and is as wide as both
pub record Across (w w' u : Write) : Type 0 where
  pub beside : fill_first w' ≡ fill_first w + fill_width w
  pub agrees : w.address % 32 ≡ w'.address % 32
  pub address : u.address ≡ w.address
  pub low : fill_low u ≡ fill_low w
  pub width : fill_width u ≡ fill_width w + fill_width w'

-- what w and then w' leave and count is what u does
pub record Meets (c : Card) (w w' u : Write) (v : List ℕ) : Type 0 where
  pub shows : picture_after (w ∷ w' ∷ []) c v ≡ picture c u v
  pub leaves : card_after (w ∷ w' ∷ []) c v ≡ next c u v
  pub counts : count c w (length v) + count (next c w v) w' (length v) ≡ count c u (length v)

no_copy : (f : Fill) → is_copy (fill_mode f) ≡ false
no_copy opaque_fill = refl
no_copy transparent_fill = refl
no_copy block_fill = refl

is_no_line : (f : Fill) → is_line (fill_mode f) ≡ false
is_no_line opaque_fill = refl
is_no_line transparent_fill = refl
is_no_line block_fill = refl

-- the card that a fill leaves: its mask is used up, which no fill looks at
abbrev used : Card → Card
used c = record { registers = c.registers; mask = used_up c.mask; copier = c.copier; line = c.line; held = c.held }

used-span : (f : Fill) (c : Card) (w : Write) → fill_span f (used c) w ≡ fill_span f c w
unfolding frame_span
used-span opaque_fill c w = refl
used-span transparent_fill c w = refl
used-span block_fill c w = refl

module _ (f : Fill) where
  abbrev op : Card → ℕ
  op c = cond (is_block (fill_mode f)) 3 c.registers.raster

  still : (c : Card) (w : Write) → w.space ≡ 0 → mode_of c.registers.mode ≡ fill_mode f → walks c w ≡ false
  unfolding walks
  still c w frame mode = rw (frame, mode) (is_no_line f)

  one_span : (c : Card) (w : Write) → w.space ≡ 0 → mode_of c.registers.mode ≡ fill_mode f → spans_of c w ≡ fill_span f c w ∷ []
  unfolding spans_of
  one_span c w frame mode = rw (still c w frame mode, frame, mode)

  module _ (c : Card) (w : Write) (v : List ℕ) (h : Fills f c w (length v)) where
    spans : spans_of c w ≡ fill_span f c w ∷ []
    spans = one_span c w h.frame h.mode

    fill_shows : picture c w v ≡ drawn (op c) (spanned (effective c) (fill_span f c w)) v
    unfolding operation drawn_all
    fill_shows = picture-accepted c w v h.accepted ∙ rw (spans, h.frame, h.mode)

    fill_counts : count c w (length v) ≡ enabled_in (fill_span f c w)
    fill_counts = count-accepted c w v h.accepted ∙ rw spans (omega arith)

    fill_leaves : next c w v ≡ used c
    unfolding after_frame moved_line
    fill_leaves =
        next_frame c w v h.accepted (λ e. omega (arith, h.frame)) ∙ rw (still c w h.frame h.mode, h.mode, no_copy f)

    used_spans : spans_of (used c) w ≡ spans_of c w
    used_spans = one_span (used c) w h.frame h.mode ∙ (ap (λ (s : Span). s ∷ []) (used-span f c w) ∙ sym spans)

    -- the card that another fill left accepts it too
    fills_again : Fills f (used c) w (length v)
    unfolding refusal bad_lanes bad_mode bad_raster off_boundary outside unloaded wild_walk no_line walks visits_of visit_count start
    fills_again = record { frame = h.frame; mode = h.mode; accepted = rw used_spans h.accepted }

  module _ (c : Card) (w w' u : Write) (v : List ℕ) (a : Across w w' u) (h : Fills f c w (length v)) (h' : Fills f c w' (length v)) (k : Fills f c u (length v)) where
    abbrev s : Span
    s = fill_span f c w

    abbrev s' : Span
    s' = fill_span f c w'

    abbrev t : Span
    t = fill_span f c u

    reach : (s.first ≡ t.first) × (s'.first ≡ s.first + s.width) × (s.width + s'.width ≡ t.width)
    reach =
        let ew = fill_reach f c w in
        let ew' = fill_reach f c w' in
        let eu = fill_reach f c u in (
          omega (arith, ew.0, eu.0, a.address, a.low),
          omega (arith, ew.0, ew.1, ew'.0, a.beside),
          omega (arith, ew.1, ew'.1, eu.1, a.width),
        )

    in_first : (p : ℕ) → In p s → In p t
    in_first p i = let r = reach in (omega (arith, r.0, i.0), omega (arith, r.0, r.2, i.1))

    in_second : (p : ℕ) → In p s' → In p t
    in_second p i = let r = reach in (omega (arith, r.0, r.1, i.0), omega (arith, r.0, r.1, r.2, i.1))

    agrees_first : w.address % 32 ≡ u.address % 32
    agrees_first = omega (arith, a.address)

    agrees_second : w'.address % 32 ≡ u.address % 32
    agrees_second = omega (arith, a.address, a.agrees)

    -- pixel j of one of the two is pixel i of the fill across both
    same_on : (x : Write) → x.address % 32 ≡ u.address % 32 → (i j : ℕ) → j < (fill_span f c x).width → t.first + i ≡ (fill_span f c x).first + j
        → In (t.first + i) t → (fill_span f c x).on j ≡ t.on i
    same_on x e i j l q inside =
        let kx : t.first + i - (fill_span f c x).first ≡ j = omega (arith, q) in
        let kt : t.first + i - t.first ≡ i = omega arith in
        sym (ap (fill_span f c x).on kx)
        ∙ (ap (λ (g : ℕ × ℕ × Bool). g.2) (seam f c x u e (t.first + i) (omega (arith, q), omega (arith, q)) inside) ∙ ap t.on kt)

    again : Fills f (used c) w' (length (picture c w v))
    again = rw (same_length c w v) (fills_again c w' v h')

    pub meets : Meets c w w' u v
    unfolding picture_after card_after
    meets =
        record {
          shows = rw (fill_leaves c w v h) (fill_shows (used c) w' (picture c w v) again
              ∙ (rw (used-span f c w', fill_shows c w v h) (beside_shows s s' t reach.0 reach.1 reach.2 (op c) (effective c)
              (λ p i. seam_fragment f c w u agrees_first p i (in_first p i)) (λ p i. seam_fragment f c w' u agrees_second p i (in_second p i)) v)
              ∙ sym (fill_shows c u v k)));
          leaves = rw (fill_leaves c w v h) (fill_leaves (used c) w' (picture c w v) again ∙ sym (fill_leaves c u v k));
          counts = rw (fill_leaves c w v h) (ap₂ (λ (m n : ℕ). m + n) (fill_counts c w v h)
              (fill_counts (used c) w' v (fills_again c w' v h') ∙ ap (λ (x : Span). enabled_in x) (used-span f c w'))
              ∙ (beside_counts s s' t reach.2
              (λ j l. same_on w agrees_first j j l (omega (arith, reach.0)) (omega arith, omega (arith, reach.2)))
              (λ j l. same_on w' agrees_second (s.width + j) j l (omega (arith, reach.0, reach.1)) (omega arith, omega (arith, reach.2)))
              ∙ sym (fill_counts c u v k)));
        }
