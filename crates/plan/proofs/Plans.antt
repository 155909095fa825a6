-- The plan of a write draws and counts what the write's spans do, pixel by pixel. Assumes nothing.
use mathlib.Core.Path.{◌≡◌, refl, ap, ap₂, sym, ◌∙◌}
use mathlib.Core.Bool.{Bool, true, false, cond, ◌&&◌, false≢true}
use mathlib.Core.List.{List, [], ◌∷◌, map}
use Prim.Native.Nat.{ℕ, zero, suc, ◌+◌, ◌/◌, ◌%◌, ◌<◌}
use native.Mathlib.Nat.{not-suc-le-zero}
use native.Mathlib.Omega.{arith}
use lib.Bits.{bit_and}
use lib.Dec.{eqb, ltb}
use lib.ListN.{get_or}
use borrow.Author.Tests.{eq-eqb, ne_eqb, le-ltb}
use Rattle.raster.specs.Pixel.{bit}
use Rattle.raster.proofs.Below.{bit_zeros}
use Rattle.span.specs.Fragments.{byte, drawn, counted}
use Rattle.span.specs.Layers.{drawn_all, summed}
use Rattle.span.specs.Spans.{Span, span, spanned, enabled_in}
use Rattle.span.proofs.Counted.{counted_same, counted_none}
use Rattle.span.proofs.Drawn.{drawn_same, drawn-none}
use Rattle.span.proofs.Patterns.{tiled_solid}
use Rattle.span.proofs.Spans.{spanned_same, spanned_off}
use Rattle.card.specs.Registers.{row_at, is_set, ◌is◌}
use Rattle.card.specs.declared.Card.{Card}
use Rattle.card.specs.declared.Write.{Write}
use Rattle.card.specs.declared.Register.TheVariants.{CopySource, CopyDestination}
use Rattle.rules.specs.Modes.{mode_of, foreground, background, effective, fill_first, register_of, register_spans, frame_span}
use Rattle.rules.specs.Lines.{walks, spans_of}
use Rattle.plan.specs.Plan.{frame_plan, register_plan_by, register_plan, plan_of, planned, is_whole}
use Rattle.rules.specs.Refusal.{past}
use Rattle.rules.specs.declared.Mode.{Mode}
use Rattle.rules.specs.declared.Mode.TheVariants.{Simple, OpaqueStipple, TransparentStipple, OpaqueFill, TransparentFill, BlockStipple, BlockFill, Copy, OpaqueLine, TransparentLine, Unlisted}
use Rattle.plan.specs.declared.Plan.{Plan}
use Rattle.rules.proofs.Tests.{or_false}
use Rattle.plan.proofs.WordBits.{first_turn, bit_word, bit_both, bit-rotated}

gate : (b : Bool) (x j : ℕ) → j < 32 → bit (cond b x 0) (j % 32) ≡ b && bit x j
gate true x j h = first_turn x j h
gate false x j h = bit_zeros (j % 32)

-- the two words of a tile as the block colours have them
blocked : (block : List ℕ) (t : ℕ) → t < 2 → get_or (get_or block 0 0 ∷ get_or block 1 0 ∷ []) t 0 ≡ get_or block t 0
blocked block zero h = refl
blocked block (suc zero) h = refl
blocked block (suc (suc t)) h = absurd (omega arith)

half_of : (p : ℕ) → p % 8 / 4 < 2
half_of p = omega arith

tiled_blocks : (block : List ℕ) (p : ℕ) → byte (get_or (get_or block 0 0 ∷ get_or block 1 0 ∷ []) (p % 8 / 4) 0) (p % 4) ≡ byte (get_or block (p % 8 / 4) 0) (p % 4)
tiled_blocks block p = ap (λ (x : ℕ). byte x (p % 4)) (blocked block (p % 8 / 4) (half_of p))

module _ (c : Card) (w : Write) where
  -- a frame write: mode by mode
  plan_on : (m : Mode) (j : ℕ) → j < (frame_span m c w).width → (planned (frame_plan m c w) c).on j ≡ (frame_span m c w).on j
  unfolding frame_span
  plan_on Simple j h = bit_both _ _ j h
  plan_on OpaqueStipple j h = first_turn _ j h
  plan_on TransparentStipple j h = first_turn _ j h
  plan_on OpaqueFill j h = bit_word j
  plan_on TransparentFill j h = bit-rotated _ _ j
  plan_on BlockStipple j h = first_turn _ j h
  plan_on BlockFill j h = bit-rotated _ _ j
  plan_on Copy j h = gate (is_set c.copier.writing) w.«data» j h
  plan_on OpaqueLine j h = absurd (not-suc-le-zero h)
  plan_on TransparentLine j h = absurd (not-suc-le-zero h)
  plan_on Unlisted j h = absurd (not-suc-le-zero h)

  plan_takes : (m : Mode) (j : ℕ) → j < (frame_span m c w).width → (planned (frame_plan m c w) c).takes j ≡ (frame_span m c w).takes j
  unfolding frame_span
  plan_takes Simple j h = let e : (0 + j) % 4 ≡ j = omega arith in tiled_solid w.«data» (0 + j) ∙ ap (λ (t : ℕ). byte w.«data» t) e
  plan_takes OpaqueStipple j h = ap (λ (b : Bool). cond b (foreground c (w.address + j)) (background c (w.address + j))) (first_turn _ j h)
  plan_takes TransparentStipple j h = tiled_solid c.registers.foreground _
  plan_takes OpaqueFill j h = ap (λ (b : Bool). cond b (foreground c (fill_first w + j)) (background c (fill_first w + j))) (bit-rotated _ _ j)
  plan_takes TransparentFill j h = tiled_solid c.registers.foreground _
  plan_takes BlockStipple j h = tiled_blocks c.registers.block _
  plan_takes BlockFill j h = tiled_blocks c.registers.block _
  plan_takes Copy j h = let e : j % 32 ≡ j = omega arith in ap (λ (t : ℕ). get_or c.copier.buffer t 0) e
  plan_takes OpaqueLine j h = absurd (not-suc-le-zero h)
  plan_takes TransparentLine j h = absurd (not-suc-le-zero h)
  plan_takes Unlisted j h = absurd (not-suc-le-zero h)

  -- a register write, by whether it is the 64-byte copy's source or destination
  abbrev pub plan : Bool → Bool → Plan
  plan s d = register_plan_by s d (register_of w) (bit_and w.«data» (row_at w.address).kept) c w

  abbrev spans : Bool → Bool → List Span
  spans s d =
      cond s (span w.«data» 64 (λ i. false) (λ i. 0) ∷ []) (cond d (span w.«data» 64 (λ i. true) (λ i. get_or c.copier.buffer i 0) ∷ []) [])

  -- what the plan draws is what the spans draw, one after the other
  abbrev pub Draws : Plan → List Span → Type 0
  Draws p ss =
      ((n : ℕ) → ltb n (p.first + p.width) ≡ past n ss)
      × ((op : ℕ) (v : List ℕ) → drawn op (spanned (effective c) (planned p c)) v ≡ drawn_all op (map (spanned (effective c)) ss) v)
      × (enabled_in (planned p c) ≡ summed enabled_in ss)

  none-on : (p : Plan) → p.enable ≡ 0 → (j : ℕ) → j < p.width → (planned p c).on j ≡ false
  none-on p e j h = ap (λ (x : ℕ). bit x (j % 32)) e ∙ bit_zeros (j % 32)

  one : (p : Plan) (s : Span) → p.first ≡ s.first → p.width ≡ s.width → ((j : ℕ) → j < s.width → (planned p c).on j ≡ s.on j)
      → ((j : ℕ) → j < s.width → (planned p c).takes j ≡ s.takes j) → Draws p (s ∷ [])
  unfolding drawn_all
  one p s ef ew eo et = (
    λ n. ap₂ (λ (a b : ℕ). ltb n (a + b)) ef ew ∙ sym (or_false (ltb n (s.first + s.width))),
    λ op v. drawn_same op v (λ a _. spanned_same (effective c) (planned p c) s ef ew eo et a),
    ap (λ (n : ℕ). counted n (planned p c).on) ew ∙ (counted_same s.width eo ∙ omega arith),
  )

  frame_draws : (m : Mode) → Draws (frame_plan m c w) (frame_span m c w ∷ [])
  frame_draws m = one (frame_plan m c w) (frame_span m c w) refl refl (plan_on m) (plan_takes m)

  register_draws : (s d : Bool) → Draws (plan s d) (spans s d)
  unfolding drawn_all
  register_draws true d = (
    λ n. sym (or_false (ltb n (w.«data» + 64))),
    λ op v.
        drawn-none op _ v (λ a _. spanned_off (effective c) (planned (plan true d) c) (none-on (plan true d) refl) a)
        ∙ sym (drawn-none op _ v (λ a _. spanned_off (effective c) (span w.«data» 64 (λ i. false) (λ i. 0)) (λ j h. refl) a)),
    counted_none 64 _ (none-on (plan true d) refl) ∙ sym (let z = counted_none 64 (λ i. false) (λ j h. refl) in omega arith),
  )
  register_draws false true =
      one (plan false true) (span w.«data» 64 (λ i. true) (λ i. get_or c.copier.buffer i 0)) refl refl (λ j h. bit_word j) (λ j h. refl)
  register_draws false false = (
    λ n. le-ltb n _ (omega arith),
    λ op v. drawn-none op _ v (λ a _. spanned_off (effective c) (planned (plan false false) c) (none-on (plan false false) refl) a),
    counted_none 0 _ (none-on (plan false false) refl),
  )

  -- of a write that is no line and no continue
  pub planned-draws : walks c w ≡ false → Draws (plan_of c w) (spans_of c w)
  unfolding plan_of spans_of
  planned-draws e = rw e (go (eqb w.space 1))
    where
      go : (b : Bool) → Draws (cond b (register_plan (register_of w) c w) (frame_plan (mode_of c.registers.mode) c w))
          (cond b (register_spans (register_of w) c w) (frame_span (mode_of c.registers.mode) c w ∷ []))
      go true = register_draws (register_of w is CopySource) (register_of w is CopyDestination)
      go false = frame_draws (mode_of c.registers.mode)

  pub plan_of_frame : (w.space ≡ 1 → ⊥) → plan_of c w ≡ frame_plan (mode_of c.registers.mode) c w
  unfolding plan_of
  plan_of_frame h = simp (ne_eqb w.space 1 h)

  pub plan_of_register : w.space ≡ 1 → plan_of c w ≡ plan (register_of w is CopySource) (register_of w is CopyDestination)
  unfolding plan_of
  plan_of_register h = simp (eq-eqb w.space 1 h)

  -- the whole copy buffer is drawn by 64 pixels
  pub planned-whole : is_whole (plan_of c w).paint ≡ true → (plan_of c w).width ≡ 64
  unfolding plan_of
  planned-whole = go (eqb w.space 1)
    where
      mode : (m : Mode) → is_whole (frame_plan m c w).paint ≡ true → (frame_plan m c w).width ≡ 64
      mode Simple e = absurd (false≢true e)
      mode OpaqueStipple e = absurd (false≢true e)
      mode TransparentStipple e = absurd (false≢true e)
      mode OpaqueFill e = absurd (false≢true e)
      mode TransparentFill e = absurd (false≢true e)
      mode BlockStipple e = absurd (false≢true e)
      mode BlockFill e = absurd (false≢true e)
      mode Copy e = absurd (false≢true e)
      mode OpaqueLine e = absurd (false≢true e)
      mode TransparentLine e = absurd (false≢true e)
      mode Unlisted e = absurd (false≢true e)

      register : (s d : Bool) → is_whole (plan s d).paint ≡ true → (plan s d).width ≡ 64
      register true d e = refl
      register false true e = refl
      register false false e = absurd (false≢true e)

      go : (b : Bool) → is_whole (cond b (register_plan (register_of w) c w) (frame_plan (mode_of c.registers.mode) c w)).paint ≡ true
          → (cond b (register_plan (register_of w) c w) (frame_plan (mode_of c.registers.mode) c w)).width ≡ 64
      go true = register (register_of w is CopySource) (register_of w is CopyDestination)
      go false = mode (mode_of c.registers.mode)
