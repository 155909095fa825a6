-- A write that is no line and no continue has one span or none, and every write enables no more than 2,048 pixels. Assumes nothing.
use mathlib.Core.Path.{◌≡◌, refl}
use mathlib.Core.Bool.{Bool, true, false, cond}
use mathlib.Core.List.{List, [], ◌∷◌}
use Prim.Native.Nat.{ℕ, ◌≤◌}
use native.Mathlib.Omega.{arith}
use lib.Dec.{eqb}
use Rattle.span.specs.Layers.{summed}
use Rattle.span.proofs.Counted.{counted_le}
use Rattle.card.specs.Registers.{◌is◌}
use Rattle.card.specs.declared.Card.{Card}
use Rattle.card.specs.declared.Write.{Write}
use Rattle.card.specs.declared.Register.TheVariants.{CopySource, CopyDestination}
use Rattle.span.specs.Spans.{Span, enabled_in}
use Rattle.rules.specs.Modes.{mode_of, register_of, frame_span}
use Rattle.rules.specs.Lines.{walks, line_spans, spans_of}
use Rattle.rules.specs.Writes.{accepted, count}
use Rattle.demands.proofs.Visits.{line_enables}
use Rattle.rules.specs.declared.Mode.{Mode}
use Rattle.rules.specs.declared.Mode.TheVariants.{Simple, OpaqueStipple, TransparentStipple, OpaqueFill, TransparentFill, BlockStipple, BlockFill, Copy, OpaqueLine, TransparentLine, Unlisted}

frame_width : (m : Mode) (c : Card) (w : Write) → (frame_span m c w).width ≤ 2048
unfolding frame_span
frame_width Simple c w = omega arith
frame_width OpaqueStipple c w = omega arith
frame_width TransparentStipple c w = omega arith
frame_width OpaqueFill c w = omega arith
frame_width TransparentFill c w = omega arith
frame_width BlockStipple c w = omega arith
frame_width BlockFill c w = omega arith
frame_width Copy c w = omega arith
frame_width OpaqueLine c w = omega arith
frame_width TransparentLine c w = omega arith
frame_width Unlisted c w = omega arith

-- what holds of no span, of any one span of at most 2,048 pixels, and of the spans of a line or a continue, holds of every write's spans
pub one_or_none : (p : List Span → Type 0) (c : Card) (w : Write) → p [] → ((s : Span) → s.width ≤ 2048 → p (s ∷ []))
    → (walks c w ≡ true → p (line_spans c w)) → p (spans_of c w)
unfolding spans_of
one_or_none p c w none one line =
    walking (walks c w) line
    (either (eqb w.space 1)
    (either (register_of w is CopySource) (one _ (omega arith)) (either (register_of w is CopyDestination) (one _ (omega arith)) none))
    (one _ (frame_width (mode_of c.registers.mode) c w)))
  where
    walking : (b : Bool) {x y : List Span} → (b ≡ true → p x) → p y → p (cond b x y)
    walking true h k = h refl
    walking false h k = k

    either : (b : Bool) {x y : List Span} → p x → p y → p (cond b x y)
    either true h k = h
    either false h k = k

spans_enable : (c : Card) (w : Write) → summed enabled_in (spans_of c w) ≤ 2048
spans_enable c w = one_or_none (λ ss. summed enabled_in ss ≤ 2048) c w (omega arith) (λ s h. omega (arith, counted_le s.width s.on))
    (λ e. omega (arith, line_enables c w))

pub count_bound : (c : Card) (w : Write) (n : ℕ) → count c w n ≤ 2048
unfolding count
count_bound c w n = go (accepted c w n)
  where
    go : (b : Bool) → cond b (summed enabled_in (spans_of c w)) 0 ≤ 2048
    go true = spans_enable c w
    go false = omega arith
