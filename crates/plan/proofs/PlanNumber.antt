-- The number of a write is that of its plan and, of a line or a continue, that of its walk. Assumes nothing.
use mathlib.Core.Path.{◌≡◌, refl, ap, ap₂, sym, ◌∙◌, subst}
use mathlib.Core.Bool.{Bool, true, false, cond, not, false≢true}
use mathlib.Core.List.{List, [], ◌∷◌}
use Prim.Native.Nat.{ℕ, ◌+◌, ◌≤◌}
use native.Mathlib.Decide.{ℕ_discrete}
use native.Mathlib.Omega.{arith}
use lib.Dec.{eqb}
use lib.ListN.{length}
use borrow.Author.Tests.{eq-eqb, ne_eqb, ltb-false, le-ltb}
use Rattle.card.specs.Registers.{is_set, ◌is◌}
use Rattle.card.specs.declared.Card.{Card}
use Rattle.card.specs.declared.Write.{Write}
use Rattle.card.specs.declared.Register.TheVariants.{CopySource, CopyDestination}
use Rattle.rules.specs.Modes.{mode_of, is_line, register_of, frame_span}
use Rattle.rules.specs.Lines.{walks, strays, wild, visit_count, visits_of, line_length, spans_of}
use Rattle.rules.specs.Refusal.{bad_length, bad_space, bad_lanes, no_register, bad_mode, bad_raster, off_boundary, past, outside, unloaded, wild_walk, no_line, first_holding, refusal}
use Rattle.rules.specs.declared.Mode.{Mode}
use Rattle.rules.specs.declared.Mode.TheVariants.{Simple, OpaqueStipple, TransparentStipple, OpaqueFill, TransparentFill, BlockStipple, BlockFill, Copy, OpaqueLine, TransparentLine, Unlisted}
use Rattle.plan.specs.Plan.{frame_faults, register_faults, frame_plan, plan_of, judged, judged_by, walk_number}
use Rattle.plan.specs.declared.Faults.{Faults}
use Rattle.plan.specs.declared.Plan.{Plan}
use Rattle.rules.proofs.Outcome.{accepted_passed, no_continue, some_length, walks_continue, walks_line}
use Rattle.rules.proofs.Tests.{or_false}
use Rattle.plan.proofs.Plans.{plan, planned-draws, plan_of_frame, plan_of_register}

module _ (c : Card) (w : Write) where
  -- what is at fault with the write, by the definitions
  abbrev faults : Faults
  faults =
      record {
        lanes = bad_lanes c w;
        register = no_register w;
        mode = bad_mode c w;
        raster = bad_raster c w;
        address = off_boundary c w;
        source = unloaded c w;
      }

  faults_of_frame : (w.space ≡ 1 → ⊥) → frame_faults (mode_of c.registers.mode) c w ≡ faults
  unfolding bad_lanes no_register bad_mode bad_raster off_boundary unloaded
  faults_of_frame h = simp (ne_eqb w.space 1 h, or_false)

  faults_of_register : w.space ≡ 1 → register_faults (register_of w) c w ≡ faults
  unfolding bad_lanes no_register bad_mode bad_raster off_boundary unloaded
  faults_of_register h = simp (eq-eqb w.space 1 h)

  plan_faults : (s d : Bool) → (plan c w s d).faults ≡ register_faults (register_of w) c w
  plan_faults true d = refl
  plan_faults false true = refl
  plan_faults false false = refl

  planned_faults : (plan_of c w).faults ≡ faults
  planned_faults = go (ℕ_discrete w.space 1)
    where
      go : Dec (w.space ≡ 1) → (plan_of c w).faults ≡ faults
      go (yes h) =
          ap (λ (p : Plan). p.faults) (plan_of_register c w h)
          ∙ (plan_faults (register_of w is CopySource) (register_of w is CopyDestination) ∙ faults_of_register h)
      go (no h) = ap (λ (p : Plan). p.faults) (plan_of_frame c w h) ∙ faults_of_frame h

  -- a write that is no line and no continue: its number is that of the plan
  module _ (still : walks c w ≡ false) where
    still_number : (n : ℕ) → judged (plan_of c w) w n ≡ refusal c w n
    unfolding judged_by refusal outside wild_walk no_line
    still_number n =
        ap₂ (λ (f : Faults) (past : Bool). judged_by f past w n) planned_faults ((planned-draws c w still).0 n) ∙ simp (still, no_continue c w still)

    module _ (v : List ℕ) (ok : refusal c w (length v) ≡ 0) where
      -- and where it is accepted, its span lies inside VRAM
      pub planned_inside : (plan_of c w).first + (plan_of c w).width ≤ length v
      unfolding outside
      planned_inside =
          ltb-false (length v) ((plan_of c w).first + (plan_of c w).width)
          ((planned-draws c w still).0 (length v)
          ∙ subst (λ (b : Bool). cond b (strays (length v) (visits_of c w)) (past (length v) (spans_of c w)) ≡ false) still (accepted_passed c w (length v) ok 7))

  -- a line or a continue: the plan draws nothing, and no source can be missing
  module _ (goes : walks c w ≡ true) where
    abbrev Walking : Type 0
    Walking = ((plan_of c w).first + (plan_of c w).width ≡ 0) × (unloaded c w ≡ false) × (no_line c w ≡ eqb (visit_count c w) 0)

    kept_or_none : (b : Bool) → not b ≡ eqb (cond b 16 0) 0
    kept_or_none true = refl
    kept_or_none false = refl

    walking : Walking
    unfolding walks unloaded no_line visit_count frame_span
    walking = go (ℕ_discrete w.space 1)
      where
        line : (m : Mode) → is_line m ≡ true → (frame_plan m c w).first + (frame_plan m c w).width ≡ 0
        line Simple e = absurd (false≢true e)
        line OpaqueStipple e = absurd (false≢true e)
        line TransparentStipple e = absurd (false≢true e)
        line OpaqueFill e = absurd (false≢true e)
        line TransparentFill e = absurd (false≢true e)
        line BlockStipple e = absurd (false≢true e)
        line BlockFill e = absurd (false≢true e)
        line Copy e = absurd (false≢true e)
        line OpaqueLine e = refl
        line TransparentLine e = refl
        line Unlisted e = absurd (false≢true e)

        go : Dec (w.space ≡ 1) → Walking
        go (yes h) =
            let s = eq-eqb w.space 1 h in
            let g = walks_continue c w goes h in (
              ap (λ (p : Plan). p.first + p.width) (plan_of_register c w h) ∙ rw g,
              rw (s, g),
              rw (s, g) (kept_or_none (is_set c.line.kept)),
            )
        go (no h) =
            let s = ne_eqb w.space 1 h in (
              ap (λ (p : Plan). p.first + p.width) (plan_of_frame c w h) ∙ line (mode_of c.registers.mode) (walks_line c w goes h),
              rw s,
              rw s (sym (ne_eqb (line_length c.registers.bresenham3) 0 (λ e. omega (arith, some_length c.registers.bresenham3)))),
            )

    -- what is at fault is told first, then the walk is judged
    in_turn : (b₁ b₂ b₃ b₄ b₅ b₆ b₇ x y z : Bool)
        → first_holding ((1, b₁) ∷ (2, b₂) ∷ (3, b₃) ∷ (4, b₄) ∷ (5, b₅) ∷ (6, b₆) ∷ (7, b₇) ∷ (8, x) ∷ (9, false) ∷ (12, y) ∷ (13, z) ∷ [])
        ≡ (let k = first_holding ((1, b₁) ∷ (2, b₂) ∷ (3, b₃) ∷ (4, b₄) ∷ (5, b₅) ∷ (6, b₆) ∷ (7, b₇) ∷ (8, false) ∷ (9, false) ∷ []) in
        cond (eqb k 0) (first_holding ((8, x) ∷ (12, y) ∷ (13, z) ∷ [])) k)
    in_turn true b₂ b₃ b₄ b₅ b₆ b₇ x y z = refl
    in_turn false true b₃ b₄ b₅ b₆ b₇ x y z = refl
    in_turn false false true b₄ b₅ b₆ b₇ x y z = refl
    in_turn false false false true b₅ b₆ b₇ x y z = refl
    in_turn false false false false true b₆ b₇ x y z = refl
    in_turn false false false false false true b₇ x y z = refl
    in_turn false false false false false false true x y z = refl
    in_turn false false false false false false false x y z = refl

    walk_judged : (n : ℕ) → judged (plan_of c w) w n ≡ judged_by faults false w n
    walk_judged n = ap₂ (λ (f : Faults) (past : Bool). judged_by f past w n) planned_faults (le-ltb n _ (omega (arith, walking.0)))

    number_of_walk : (n : ℕ) → refusal c w n ≡ cond (eqb (judged (plan_of c w) w n) 0) (walk_number c w n) (judged (plan_of c w) w n)
    unfolding judged_by refusal outside wild_walk walk_number
    number_of_walk n =
        rw (walk_judged n, goes, walking.1, walking.2)
        (in_turn (bad_length n) (bad_space w) (bad_lanes c w) (no_register w) (bad_mode c w) (bad_raster c w) (off_boundary c w)
        (strays n (visits_of c w)) (wild c.registers.bresenham1 c.registers.bresenham2 (visits_of c w)) (eqb (visit_count c w) 0))

  -- the number of a write: that of its plan, then that of its walk if it is a line or a continue
  pub planned-number : (n : ℕ) → refusal c w n ≡ cond (eqb (judged (plan_of c w) w n) 0) (cond (walks c w) (walk_number c w n) 0) (judged (plan_of c w) w n)
  planned-number n = go (walks c w) refl
    where
      zeros : (k : ℕ) → Dec (k ≡ 0) → k ≡ cond (eqb k 0) 0 k
      zeros k (yes e) = rw (eq-eqb _ _ e) e
      zeros k (no e) = rw (ne_eqb _ _ e)

      go : (b : Bool) → walks c w ≡ b → refusal c w n ≡ cond (eqb (judged (plan_of c w) w n) 0) (cond b (walk_number c w n) 0) (judged (plan_of c w) w n)
      go true e = number_of_walk e n
      go false e = sym (still_number e n) ∙ zeros (judged (plan_of c w) w n) (ℕ_discrete _ 0)
