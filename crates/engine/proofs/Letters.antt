-- Text, drawn and counted the shorter way, is what the definitions say of its write. Assumes that the write is text and is accepted.
use mathlib.Core.Path.{◌≡◌, refl, ap, sym, ◌∙◌, subst}
use mathlib.Core.Bool.{true, false, cond, not}
use mathlib.Core.List.{List}
use Prim.Native.Nat.{ℕ, ◌+◌, ◌-◌, ◌%◌, ◌^◌, ◌≤◌}
use native.Mathlib.Omega.{arith}
use lib.Dec.{eqb, leb}
use lib.ListN.{length}
use native.Mathlib.Decide.{ℕ_discrete}
use borrow.Author.Tests.{eq-eqb, eqb-true}
use Rattle.raster.specs.Pixel.{bit}
use Rattle.span.specs.Fragments.{drawn, before, from, counted, differing, byte}
use Rattle.span.specs.Spans.{spanned, enabled_in}
use Rattle.span.specs.Strokes.{pattern_byte, stroke, enabled, Draws}
use Rattle.span.specs.declared.Strokes.{Strokes}
use Rattle.span.specs.declared.Tally.{Tally}
use Rattle.span.proofs.Spans.{draws, drew}
use Rattle.strokes.proofs.Letters.{lettered}
use Rattle.card.specs.declared.Card.{Card}
use Rattle.card.specs.declared.Write.{Write}
use Rattle.rules.specs.Modes.{mode_of, effective, effective_by, frame_span}
use Rattle.rules.specs.Lines.{walks}
use Rattle.rules.specs.Refusal.{off_boundary, refusal}
use Rattle.rules.specs.Writes.{count, next, picture, changed, used_up}
use Rattle.rules.specs.declared.Mode.TheVariants.{OpaqueStipple}
use Rattle.demands.proofs.Changed.{whole}
use Rattle.demands.proofs.Demand3.{visits-none}
use Rattle.rules.proofs.Outcome.{accepted_passed, next_refused}
use Rattle.rules.proofs.Tests.{not_not, both}
use Rattle.plan.specs.Plan.{plan_of, frame_plan, planned, left}
use Rattle.plan.specs.declared.Effect.TheVariants.{UsesMask}
use Rattle.plan.specs.declared.Plan.{Plan}
use Rattle.plan.proofs.PlanNumber.{planned_inside}
use Rattle.plan.proofs.PlanEffect.{planned-shows, planned-counts, planned-leaves}
use Rattle.drawing.proofs.Sources.{mask_again}
use Rattle.std.proofs.Common.{Result}
use Rattle.rules.specs.declared.Refusal.{Refusal}
use Rattle.engine.specs.Contract.{Written}
use Rattle.engine.specs.Text.{is_text, keeps}

module _ (c : Card) (w : Write) (t : is_text c w ≡ true) where
  -- what the test says
  fits : (c.registers.mode ≡ 1) × (c.registers.raster ≡ 3) × (c.registers.plane ≡ 2 ^ 32 - 1) × (eqb w.space 1 ≡ false)
  unfolding is_text
  fits =
      let (o, r) = both (eqb c.registers.raster 3) _ t in
      let (p, q) = both (eqb c.registers.plane (2 ^ 32 - 1)) _ r in
      let (m, f) = both (eqb c.registers.mode 1) _ q in
      (eqb-true _ _ m, eqb-true _ _ o, eqb-true _ _ p, sym (not_not (eqb w.space 1)) ∙ ap not f)

  in_mode : mode_of c.registers.mode ≡ OpaqueStipple
  unfolding mode_of
  in_mode = rw fits.0

  -- it is no line and no continue
  pub text_still : walks c w ≡ false
  unfolding walks
  text_still = rw (fits.3, in_mode)

  text_plan : plan_of c w ≡ frame_plan OpaqueStipple c w
  unfolding plan_of
  text_plan = rw (fits.3, in_mode)

  module _ (v : List ℕ) (ok : refusal c w (length v) ≡ 0) where
    aligned : w.address % 4 ≡ 0
    unfolding off_boundary
    aligned =
        let e : not (eqb (w.address % 4) 0) ≡ false = rw (fits.3, in_mode) at (accepted_passed c w (length v) ok 6) in
        eqb-true (w.address % 4) 0 (sym (not_not (eqb (w.address % 4) 0)) ∙ ap not e)

    -- strokes of the pixel mask, the data and the colours, under every plane but the held ones
    module _ (s : Strokes) (eo : s.op ≡ 3) (ew : s.width ≡ 32) (ee : s.enable ≡ c.mask.bits)
        (em : (j : ℕ) → byte s.mask (j % 8) ≡ effective_by (2 ^ 32 - 1) c.held (0 + j))
        (et : (j : ℕ) → pattern_byte s.source j
        ≡ cond (bit w.«data» (j % 32)) (byte c.registers.foreground ((0 + j) % 4)) (byte c.registers.background ((0 + j) % 4))) where
      text_draws : Draws s (frame_plan OpaqueStipple c w).op (effective c) (planned (frame_plan OpaqueStipple c w) c)
      unfolding frame_span
      text_draws =
          draws s _ (effective c) (planned (frame_plan OpaqueStipple c w) c) (eo ∙ rw fits.1) ew
          (λ j.
          let p : (0 + j) % 4 ≡ (w.address + j) % 4 = omega (arith, aligned) in
          em j ∙ rw fits.2 (mask_again _ c.held (0 + j) (w.address + j) p))
          (λ j h. ap (λ (x : ℕ). bit x (j % 32)) ee)
          (λ j h.
          let p : (0 + j) % 4 ≡ (w.address + j) % 4 = omega (arith, aligned) in
          et j ∙ ap (λ (k : ℕ). cond (bit w.«data» (j % 32)) (byte c.registers.foreground k) (byte c.registers.background k)) p)

      pub text_drawn : {r : Tally} {v' : List ℕ}
          → v' ≡ cond (leb (w.address + 32) (length v)) (drawn 3 (from w.address (before 32 (stroke s))) v) v → r.enabled ≡ counted 32 (enabled s)
          → r.changed ≡ differing v v' → (v' ≡ picture c w v) × (r.enabled ≡ count c w (length v)) × (r.changed ≡ changed c w v)
      unfolding frame_span
      text_drawn l n ch =
          let inside : w.address + 32 ≤ length v = subst (λ (p : Plan). p.first + p.width ≤ length v) text_plan (planned_inside c w text_still v ok) in
          let e = drew s _ (effective c) (planned (frame_plan OpaqueStipple c w) c) text_draws w.address v (lettered s w.address v eo ew inside l n ch) refl inside in
          let shown = e.0 ∙ sym (planned-shows c w text_still v ok ∙ ap (λ (p : Plan). drawn p.op (spanned (effective c) (planned p c)) v) text_plan) in (
            shown,
            e.1 ∙ sym (planned-counts c w text_still v ok ∙ ap (λ (p : Plan). enabled_in (planned p c)) text_plan),
            e.2 ∙ (ap (differing v) shown ∙ sym (whole c w v (visits-none c w (length v) text_still))),
          )

    pub text_leaves : left UsesMask c w v ≡ next c w v
    text_leaves = sym (planned-leaves c w text_still v ok ∙ ap (λ (p : Plan). left p.effect c w v) text_plan)

    -- the same as `effects::mask_used` says it
    pub text_used : record c { mask = used_up c.mask } ≡ next c w v
    unfolding left
    text_used = text_leaves

-- ---- What is kept of the card.

-- where a write keeps the card, the next one differs in its pixel mask alone
pub kept : (c : Card) (w : Write) (v : List ℕ) → keeps c w (length v) ≡ true → next c w v ≡ record c { mask = (next c w v).mask }
unfolding keeps
kept c w v k = go (ℕ_discrete (refusal c w (length v)) 0)
  where
    go : Dec (refusal c w (length v) ≡ 0) → next c w v ≡ record c { mask = (next c w v).mask }
    go (yes ok) =
        let t : is_text c w ≡ true = rw (eq-eqb _ _ ok) at k in
        subst (λ (x : Card). x ≡ record c { mask = x.mask }) (text_used c w t v ok) refl
    go (no refused) = subst (λ (x : Card). x ≡ record c { mask = x.mask }) (sym (next_refused c w v refused)) refl

pub kept_of : (c : Card) (w : Write) (v : List ℕ) (r : Result Tally Refusal) (c' : Card) (v' : List ℕ) → Written c w v r c' v'
    → keeps c w (length v) ≡ true → c' ≡ record c { mask = c'.mask }
kept_of c w v r c' v' d k = subst (λ (x : Card). x ≡ record c { mask = x.mask }) (sym d.leaves) (kept c w v k)
