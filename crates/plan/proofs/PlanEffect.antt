-- What an accepted write that is no line and no continue shows, counts and leaves is what its plan draws and its plan's effect. Assumes nothing.
use mathlib.Core.Path.{◌≡◌, refl, ap, ap₂, sym, ◌∙◌, subst}
use mathlib.Core.Bool.{Bool, true, false, cond, not, ◌&&◌, ◌||◌}
use mathlib.Core.List.{List}
use Prim.Native.Nat.{ℕ, ◌+◌, ◌%◌, ◌≤◌}
use native.Mathlib.Nat.{mod-eq_of_lt}
use native.Mathlib.Decide.{ℕ_discrete}
use native.Mathlib.Omega.{arith}
use lib.Dec.{eqb}
use lib.ListN.{length}
use borrow.Author.Tests.{eq-eqb, ne_eqb, eqb-true, le-leb, le-ltb}
use Rattle.span.specs.Fragments.{drawn}
use Rattle.span.specs.Spans.{spanned, enabled_in}
use Rattle.card.specs.Registers.{code, is_set, ◌is◌}
use Rattle.card.specs.Access.{stores}
use Rattle.card.specs.declared.Card.{Card}
use Rattle.card.specs.declared.Write.{Write}
use Rattle.card.specs.declared.Register.TheVariants.{CopySource, CopyDestination}
use Rattle.rules.specs.Lines.{walks}
use Rattle.rules.specs.Modes.{mode_of, is_block, is_copy, effective, register_of, frame_span}
use Rattle.plan.specs.Plan.{frame_effect, frame_plan, plan_of, is_whole, planned, drawable, reads, loads, left}
use Rattle.rules.specs.Refusal.{refusal}
use Rattle.rules.specs.Writes.{count, operation, picture, used_up, alternated, moved_line, after_frame, after_register, next}
use Rattle.rules.specs.declared.Mode.{Mode}
use Rattle.rules.specs.declared.Mode.TheVariants.{Simple, OpaqueStipple, TransparentStipple, OpaqueFill, TransparentFill, BlockStipple, BlockFill, Copy, OpaqueLine, TransparentLine, Unlisted}
use Rattle.plan.specs.declared.Effect.{Effect}
use Rattle.plan.specs.declared.Effect.TheVariants.{UsesMask, ReadsSource, DrawsDestination, Stores, Loads, Unloads}
use Rattle.plan.specs.declared.Plan.{Plan}
use Rattle.rules.proofs.Outcome.{accepted_raster, accepted-space, picture-accepted, count-accepted, next_register, next_frame}
use Rattle.plan.proofs.Plans.{plan, planned-draws, plan_of_frame, plan_of_register, planned-whole}
use Rattle.plan.proofs.PlanNumber.{planned_inside}

-- what the effect reads of a VRAM of n bytes lies inside it
abbrev Within : Effect → Write → ℕ → Type 0
Within UsesMask w n = Unit
Within ReadsSource w n = w.address + 32 ≤ n
Within DrawsDestination w n = Unit
Within (Stores g x) w n = Unit
Within Loads w n = w.«data» + 64 ≤ n
Within Unloads w n = Unit

module _ (c : Card) (w : Write) where
  module _ (still : walks c w ≡ false) (v : List ℕ) (ok : refusal c w (length v) ≡ 0) where
    raster_kept : c.registers.raster % 16 ≡ c.registers.raster
    raster_kept = mod-eq_of_lt (accepted_raster c w (length v) ok)

    planned-operation : (plan_of c w).op ≡ operation c w
    unfolding operation
    planned-operation = go (ℕ_discrete w.space 1)
      where
        plan_op : (s d : Bool) → (plan c w s d).op ≡ c.registers.raster % 16
        plan_op true d = refl
        plan_op false true = refl
        plan_op false false = refl

        go : Dec (w.space ≡ 1) → (plan_of c w).op ≡ operation c w
        go (yes h) =
            let z : eqb w.space 0 ≡ false = ne_eqb w.space 0 (λ q. omega arith) in
            ap (λ (p : Plan). p.op) (plan_of_register c w h)
            ∙ (plan_op (register_of w is CopySource) (register_of w is CopyDestination)
            ∙ (raster_kept ∙ sym (ap (λ (b : Bool). cond (b && is_block (mode_of c.registers.mode)) 3 c.registers.raster) z)))
        go (no h) =
            let l = accepted-space c w (length v) ok in
            let z : eqb w.space 0 ≡ true = eq-eqb w.space 0 (omega arith) in
            ap (λ (p : Plan). p.op) (plan_of_frame c w h)
            ∙ sym (ap₂ (λ (b : Bool) (r : ℕ). cond (b && is_block (mode_of c.registers.mode)) 3 r) z (sym raster_kept))

    -- its picture and its count are those of the planned span
    pub planned-shows : picture c w v ≡ drawn (plan_of c w).op (spanned (effective c) (planned (plan_of c w) c)) v
    planned-shows =
        picture-accepted c w v ok
        ∙ (sym ((planned-draws c w still).1 (operation c w) v)
        ∙ ap (λ (op : ℕ). drawn op (spanned (effective c) (planned (plan_of c w) c)) v) (sym planned-operation))

    -- which can be drawn
    pub planned-drawable : drawable (plan_of c w) (length v) ≡ true
    unfolding drawable
    planned-drawable = rw (le-ltb _ _ (planned_inside c w still v ok)) (wide (is_whole (plan_of c w).paint) (planned-whole c w))
      where
        wide : {n : ℕ} (b : Bool) → (b ≡ true → n ≡ 64) → not b || eqb n 64 ≡ true
        wide true e = eq-eqb _ _ (e refl)
        wide false e = refl

    pub planned-counts : count c w (length v) ≡ enabled_in (planned (plan_of c w) c)
    planned-counts = count-accepted c w v ok ∙ sym (planned-draws c w still).2

    -- what the effect reads lies inside VRAM
    planned-within : Within (plan_of c w).effect w (length v)
    unfolding frame_span
    planned-within = go (ℕ_discrete w.space 1)
      where
        copy : (b : Bool) → w.address + 32 ≤ length v → Within (cond b DrawsDestination ReadsSource) w (length v)
        copy true h = tt
        copy false h = h

        mode : (m : Mode) → (frame_plan m c w).first + (frame_plan m c w).width ≤ length v → Within (frame_effect m c) w (length v)
        mode Simple h = tt
        mode OpaqueStipple h = tt
        mode TransparentStipple h = tt
        mode OpaqueFill h = tt
        mode TransparentFill h = tt
        mode BlockStipple h = tt
        mode BlockFill h = tt
        mode Copy h = copy (is_set c.copier.writing) h
        mode OpaqueLine h = tt
        mode TransparentLine h = tt
        mode Unlisted h = tt

        register : (s d : Bool) → (plan c w s d).first + (plan c w s d).width ≤ length v → Within (plan c w s d).effect w (length v)
        register true d h = h
        register false true h = tt
        register false false h = tt

        reach : (p : Plan) → plan_of c w ≡ p → p.first + p.width ≤ length v
        reach p e = subst (λ (x : Plan). x.first + x.width ≤ length v) e (planned_inside c w still v ok)

        go : Dec (w.space ≡ 1) → Within (plan_of c w).effect w (length v)
        go (yes h) =
            subst (λ (p : Plan). Within p.effect w (length v)) (sym (plan_of_register c w h))
            (register (register_of w is CopySource) (register_of w is CopyDestination) (reach _ (plan_of_register c w h)))
        go (no h) =
            subst (λ (p : Plan). Within p.effect w (length v)) (sym (plan_of_frame c w h))
            (mode (mode_of c.registers.mode) (reach _ (plan_of_frame c w h)))

    -- and the card that it leaves is that of the planned effect
    frame_leaves : (copies writing : Bool) → is_set c.copier.writing ≡ writing
        → Within (cond copies (cond writing DrawsDestination ReadsSource) UsesMask) w (length v)
        → left (cond copies (cond writing DrawsDestination ReadsSource) UsesMask) c w v
        ≡ record { registers = c.registers; mask = used_up c.mask; copier = alternated copies c.copier w v; line = c.line; held = c.held }
    unfolding left reads
    frame_leaves false writing e h = refl
    frame_leaves true true e h = rw e
    frame_leaves true false e h = rw (e, le-leb _ _ h)

    register_leaves : (s d : Bool) → register_of w is CopySource ≡ s → register_of w is CopyDestination ≡ d
        → Within (plan c w s d).effect w (length v) → left (plan c w s d).effect c w v ≡ after_register c w v
    unfolding left loads after_register moved_line stores
    register_leaves true d es ed h = rw (still, eqb-true (code (register_of w)) (code CopySource) es, le-leb _ _ h)
    register_leaves false true es ed h = rw (still, eqb-true (code (register_of w)) (code CopyDestination) ed)
    register_leaves false false es ed h = rw (still, es, ed)

    pub planned-leaves : next c w v ≡ left (plan_of c w).effect c w v
    unfolding after_frame moved_line
    planned-leaves = go (ℕ_discrete w.space 1)
      where
        go : Dec (w.space ≡ 1) → next c w v ≡ left (plan_of c w).effect c w v
        go (yes h) =
            next_register c w v ok h
            ∙ sym (ap (λ (p : Plan). left p.effect c w v) (plan_of_register c w h)
            ∙ register_leaves (register_of w is CopySource) (register_of w is CopyDestination) refl refl
            (subst (λ (p : Plan). Within p.effect w (length v)) (plan_of_register c w h) planned-within))
        go (no h) =
            (next_frame c w v ok h ∙ rw still)
            ∙ sym (ap (λ (p : Plan). left p.effect c w v) (plan_of_frame c w h)
            ∙ frame_leaves (is_copy (mode_of c.registers.mode)) (is_set c.copier.writing) refl
            (subst (λ (p : Plan). Within p.effect w (length v)) (plan_of_frame c w h) planned-within))
