-- `serial::read` meets its contract. The loop's invariant: what is left of the bytes, read from where the reading stands now,
-- gives what the whole chunk gives. Assumes nothing.
use mathlib.Core.Path.{refl, sym, ◌∙◌}
use Rattle.rules.proofs.Numbers.{passed_up, some_number}
use Rattle.rules.proofs.Tests.{said}
use Rattle.format.specs.Traces.{largest}
use Rattle.line.specs.Serial.{complete}
use Rattle.line.proofs.Joining.{chunk_unsound, chunk_bad, chunk-reads}
use Rattle.line.proofs.Turns.{begins, at_end, at_number}
use Rattle.serial.proofs.Reading.{any_number, whole_here, entry, one}
use Rattle.serial.proofs.read.Goals as goal

pub returns-then-not-sound : goal.returns-then-not-sound
returns-then-not-sound c = sym (chunk_unsound largest _ _ refl (any_number 0 _ ∙ said c.sound.ensures c.if-not-sound.true))

pub returns-then-bad_length : goal.returns-then-bad_length
returns-then-bad_length c =
    sym
    (chunk_bad largest _ _ refl (any_number 0 _ ∙ said c.sound.ensures c.if-not-sound.false) (said c.bad_length.ensures c.if-bad_length.true))

pub loop-rest-init : goal.loop-rest-init
loop-rest-init c = begins _ _ (any_number 0 _ ∙ said c.sound.ensures c.if-not-sound.false)

pub draw-requires : goal.draw-requires
unfolding complete
draw-requires c =
    let g = c.loop-rest.invariant in
    let w = whole_here _ _ (said c.whole_ahead.ensures.whole c.if-whole_ahead.true) in
    (sym (any_number 0 c.loop-rest.r) ∙ g.can_be, w.opened, w.more)

pub slice_bounds-rest-count : goal.slice_bounds-rest-count
slice_bounds-rest-count c = (whole_here _ _ (said c.whole_ahead.ensures.whole c.if-whole_ahead.true)).stands.long

pub slice_bounds-rest-start : goal.slice_bounds-rest-start
slice_bounds-rest-start c = (whole_here _ _ (said c.whole_ahead.ensures.whole c.if-whole_ahead.true)).stands.long

pub returns-in_err-draw : goal.returns-in_err-draw
returns-in_err-draw c =
    let g = entry c.loop-rest.r c.loop-rest.invariant (said c.whole_ahead.ensures.whole c.if-whole_ahead.true) c.whole_ahead.ensures.room c.entry_at.ensures c.in_err-draw.ensures in
    rw (passed_up c.from_residual.result _ c.from_residual.ensures.1)
    (at_number g (some_number _)
    ∙ sym (chunk-reads largest _ _ (any_number 0 _ ∙ said c.sound.ensures c.if-not-sound.false) (said c.bad_length.ensures c.if-bad_length.false)))

pub loop-rest-preserved-then-whole_ahead : goal.loop-rest-preserved-then-whole_ahead
loop-rest-preserved-then-whole_ahead c =
    entry c.loop-rest.r c.loop-rest.invariant (said c.whole_ahead.ensures.whole c.if-whole_ahead.true) c.whole_ahead.ensures.room c.entry_at.ensures c.in_ok-draw.ensures

pub byte-requires : goal.byte-requires
byte-requires c = sym (any_number 0 c.loop-rest.r) ∙ c.loop-rest.invariant.can_be

pub returns-in_err-byte : goal.returns-in_err-byte
returns-in_err-byte c =
    let g = one c.loop-rest.r c.loop-rest.invariant c.in-len1-up.len_at_least c.in_err-byte.ensures in
    rw (passed_up c.from_residual-in_err-byte.result _ c.from_residual-in_err-byte.ensures.1)
    (at_number g (some_number _)
    ∙ sym (chunk-reads largest _ _ (any_number 0 _ ∙ said c.sound.ensures c.if-not-sound.false) (said c.bad_length.ensures c.if-bad_length.false)))

pub loop-rest-preserved : goal.loop-rest-preserved
loop-rest-preserved c = one c.loop-rest.r c.loop-rest.invariant c.in-len1-up.len_at_least c.in_ok-byte.ensures

pub returns : goal.returns
returns c =
    at_end c.loop-rest.invariant c.in_default.len_below
    ∙ sym (chunk-reads largest _ _ (any_number 0 _ ∙ said c.sound.ensures c.if-not-sound.false) (said c.bad_length.ensures c.if-bad_length.false))
