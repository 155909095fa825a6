-- A plan drawn first and carried out on the card afterwards: an effect that reads the picture draws nothing. Assumes nothing.
use mathlib.Core.Path.{◌≡◌, refl, ap, ◌∙◌}
use mathlib.Core.Bool.{Bool, true, false, cond, false≢true}
use mathlib.Core.List.{List}
use Prim.Native.Nat.{ℕ, ◌%◌}
use lib.Bits.{bit_and}
use lib.Dec.{eqb}
use Rattle.raster.specs.Pixel.{bit}
use Rattle.raster.proofs.Below.{bit_zeros}
use Rattle.span.specs.Fragments.{drawn}
use Rattle.span.specs.Spans.{spanned}
use Rattle.span.proofs.Drawn.{drawn-none}
use Rattle.span.proofs.Spans.{spanned_off}
use Rattle.card.specs.Registers.{is_set, row_at, ◌is◌}
use Rattle.card.specs.declared.Card.{Card}
use Rattle.card.specs.declared.Write.{Write}
use Rattle.card.specs.declared.Register.TheVariants.{CopySource, CopyDestination}
use Rattle.rules.specs.Modes.{mode_of, effective, register_of}
use Rattle.rules.specs.declared.Mode.{Mode}
use Rattle.rules.specs.declared.Mode.TheVariants.{Simple, OpaqueStipple, TransparentStipple, OpaqueFill, TransparentFill, BlockStipple, BlockFill, Copy, OpaqueLine, TransparentLine, Unlisted}
use Rattle.plan.specs.Plan.{plan_of, frame_plan, register_plan, register_plan_by, planned, left}
use Rattle.plan.specs.declared.Effect.{Effect}
use Rattle.plan.specs.declared.Effect.TheVariants.{UsesMask, ReadsSource, DrawsDestination, Stores, Loads, Unloads}
use Rattle.plan.specs.declared.Plan.{Plan}

abbrev reads_picture : Effect → Bool
reads_picture UsesMask = false
reads_picture ReadsSource = true
reads_picture DrawsDestination = false
reads_picture (Stores g x) = false
reads_picture Loads = true
reads_picture Unloads = false

-- such an effect goes with no pixel enabled
abbrev Idle : Plan → Type 0
Idle p = reads_picture p.effect ≡ true → p.enable ≡ 0

idle_frame : (m : Mode) (c : Card) (w : Write) → Idle (frame_plan m c w)
idle_frame Simple c w e = absurd (false≢true e)
idle_frame OpaqueStipple c w e = absurd (false≢true e)
idle_frame TransparentStipple c w e = absurd (false≢true e)
idle_frame OpaqueFill c w e = absurd (false≢true e)
idle_frame TransparentFill c w e = absurd (false≢true e)
idle_frame BlockStipple c w e = absurd (false≢true e)
idle_frame BlockFill c w e = absurd (false≢true e)
idle_frame Copy c w e = go (is_set c.copier.writing) e
  where
    go : (b : Bool) → reads_picture (cond b DrawsDestination ReadsSource) ≡ true → cond b w.«data» 0 ≡ 0
    go true k = absurd (false≢true k)
    go false k = refl
idle_frame OpaqueLine c w e = refl
idle_frame TransparentLine c w e = refl
idle_frame Unlisted c w e = refl

idle_register : (s d : Bool) (c : Card) (w : Write) (v : ℕ) → Idle (register_plan_by s d (register_of w) v c w)
idle_register true d c w v e = refl
idle_register false true c w v e = absurd (false≢true e)
idle_register false false c w v e = absurd (false≢true e)

idle : (c : Card) (w : Write) → Idle (plan_of c w)
unfolding plan_of
idle c w = go (eqb w.space 1)
  where
    go : (b : Bool) → Idle (cond b (register_plan (register_of w) c w) (frame_plan (mode_of c.registers.mode) c w))
    go true = idle_register (register_of w is CopySource) (register_of w is CopyDestination) c w (bit_and w.«data» (row_at w.address).kept)
    go false = idle_frame (mode_of c.registers.mode) c w

-- what is drawn with no pixel enabled
undrawn : (p : Plan) (c : Card) (v : List ℕ) → p.enable ≡ 0 → drawn p.op (spanned (effective c) (planned p c)) v ≡ v
undrawn p c v z =
    let off : (j : ℕ) → (planned p c).on j ≡ false = λ j. ap (λ (x : ℕ). bit x (j % 32)) z ∙ bit_zeros (j % 32) in
    drawn-none p.op _ v (λ q _. spanned_off (effective c) (planned p c) (λ j _. off j) q)

later : (e : Effect) (c : Card) (w : Write) (v v' : List ℕ) → (reads_picture e ≡ true → v' ≡ v) → left e c w v' ≡ left e c w v
unfolding left
later UsesMask c w v v' h = refl
later ReadsSource c w v v' h = rw (h refl)
later DrawsDestination c w v v' h = refl
later (Stores g x) c w v v' h = refl
later Loads c w v v' h = rw (h refl)
later Unloads c w v v' h = refl

pub left_after : (c : Card) (w : Write) (v v' : List ℕ) → v' ≡ drawn (plan_of c w).op (spanned (effective c) (planned (plan_of c w) c)) v
    → left (plan_of c w).effect c w v' ≡ left (plan_of c w).effect c w v
left_after c w v v' e = later (plan_of c w).effect c w v v' (λ r. e ∙ undrawn (plan_of c w) c v (idle c w r))
