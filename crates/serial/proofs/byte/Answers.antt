-- `serial::byte` meets its contract: the cases in their order. Assumes nothing.
use mathlib.Core.Path.{◌≡◌, refl, ap, sym, ◌∙◌}
use mathlib.Core.Bool.{Bool, true, false, not, cond}
use Prim.Native.Nat.{ℕ, ◌<◌}
use native.Mathlib.Omega.{arith}
use borrow.Author.Tests.{ne_eqb, eq-eqb}
use Rattle.rules.proofs.Tests.{said}
use Rattle.card.specs.declared.Write.{Write}
use Rattle.card.specs.Registers.{is_set}
use Rattle.format.specs.Traces.{largest}
use lib.ListN.{length-set}
use Rattle.format.proofs.Inside.{inside}
use Rattle.line.specs.declared.Reader.{Reader}
use Rattle.line.specs.Serial.{standing, complete, bad_pad, waits, draws, sound}
use Rattle.line.proofs.Steps.{byte_past, byte_pad, byte-waits, byte-draws, byte_judges}
use Rattle.line.proofs.Kept.{to_sound}
use Rattle.serial.specs.Steps.{before}
use Rattle.serial.proofs.byte.Goals.{then-complete-via-then-complete, then-complete-via-else-complete+then-bad_pad}
use Rattle.serial.proofs.byte.Goals as goal

-- fewer bytes wait than there is room for
few : (r : Reader) → sound r ≡ true → r.filled < 16
few r s = go (is_set r.opened) (to_sound largest r s).space
  where
    go : (x : Bool) → r.filled < cond x 12 16 → r.filled < 16
    go true h = omega arith
    go false h = h

pub returns-then-complete : goal.returns-then-complete
unfolding bad_pad complete
returns-then-complete c =
    elim c.then-complete.branch [
      | then-complete-via-then-complete w ↦ sym (byte_past largest _ _ refl (said c.complete.ensures w.if-complete.true))
      | then-complete-via-else-complete+then-bad_pad w ↦ sym (byte_pad largest _ _ refl (said c.complete.ensures w.if-complete.false) (said w.bad_pad.ensures w.if-bad_pad.true))
    ]

pub bounds-came-r : goal.bounds-came-r
bounds-came-r c = few _ c.requires

pub overflow_add-r : goal.overflow_add-r
overflow_add-r c = record { fits = omega (arith, few _ c.requires) }

pub returns-then-r-awaited : goal.returns-then-r-awaited
unfolding waits complete bad_pad
returns-then-r-awaited c =
    sym
    (byte-waits largest _ _ refl (said c.complete.ensures c.if-complete.false) (said c.bad_pad.ensures c.if-bad_pad.false)
    (omega (arith, c.awaited.ensures, c.if-r-awaited.true)))

pub returns-then-r-eq-CLEAR : goal.returns-then-r-eq-CLEAR
unfolding complete bad_pad
returns-then-r-eq-CLEAR c =
    ap (λ (n : Reader). standing n c.args.card.now c.args.vram.now) c.opening.ensures.answers
    ∙ sym
    (byte_judges largest _ _ refl (said c.complete.ensures c.if-complete.false) (said c.bad_pad.ensures c.if-bad_pad.false)
    (omega (arith, c.awaited.ensures, c.if-r-awaited.false))
    (ap not (eq-eqb _ _ c.if-r-eq-CLEAR.true)))

pub returns : goal.returns
unfolding complete bad_pad
returns c =
    c.draw.ensures
    ∙ ap (λ (w : Write). draws w (before c.args.r.now c.args.card.now c.args.vram.now)) (c.entry_at.ensures ∙ inside _ 0 (omega (arith, length-set {A = ℕ})))
    ∙ sym
    (byte-draws largest _ _ refl (said c.complete.ensures c.if-complete.false) (said c.bad_pad.ensures c.if-bad_pad.false)
    (omega (arith, c.awaited.ensures, c.if-r-awaited.false))
    (ap not (ne_eqb _ _ c.if-r-eq-CLEAR.false)))
