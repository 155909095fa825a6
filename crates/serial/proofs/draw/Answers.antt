-- `serial::draw` meets its contract: the entry is applied where it is accepted, else refused. Assumes nothing.
use mathlib.Core.Path.{◌≡◌}
use mathlib.Core.Bool.{true, false}
use Prim.Native.Nat.{◌<◌}
use native.Mathlib.Omega.{arith}
use lib.ListN.{length}
use Rattle.card.specs.Registers.{is_set}
use Rattle.demands.proofs.Changed.{within}
use Rattle.demands.proofs.Counting.{count_bound}
use Rattle.rules.proofs.Numbers.{passed_up}
use Rattle.format.specs.Traces.{largest}
use Rattle.line.specs.declared.Reader.{Reader}
use Rattle.line.specs.Serial.{complete, sound, stuck}
use Rattle.line.proofs.Kept.{to_sound, entries-left}
use Rattle.serial.proofs.Drawn.{drew_refused, drew_applied}
use Rattle.serial.proofs.draw.Goals as goal

room : (r : Reader) → sound r ≡ true → is_set r.opened ≡ true → complete r ≡ false → r.applied < largest
room r s o m = let h = to_sound largest r s in omega (arith, h.within, h.few, entries-left r o m)

pub overflow_add-r : goal.overflow_add-r
overflow_add-r c = let (s, o, m) = c.requires in record { fits = omega (arith, room _ s o m) }

pub overflow_add-r-2 : goal.overflow_add-r-2
overflow_add-r-2 c =
    let (s, o, m) = c.requires in
    let h = to_sound largest _ s in
    record {
      fits = omega (
        arith,
        room _ s o m,
        h.total,
        c.in_ok-tally.ensures.wrote.counts,
        count_bound c.args.card.now c.args.w (length c.args.vram.now),
      );
    }

pub overflow_add-r-3 : goal.overflow_add-r-3
overflow_add-r-3 c =
    let (s, o, m) = c.requires in
    let h = to_sound largest _ s in
    record {
      fits = omega (
        arith,
        room _ s o m,
        h.total,
        h.changes,
        c.in_ok-tally.ensures.wrote.changes,
        within c.args.card.now c.args.w c.args.vram.now,
        count_bound c.args.card.now c.args.w (length c.args.vram.now),
      );
    }

pub returns : goal.returns
returns c = drew_applied (stuck 0 c.args.r.now) _ _ _ c.in_ok-tally.ensures.wrote

pub returns-in_err-tally : goal.returns-in_err-tally
returns-in_err-tally c =
    rw (passed_up c.from_residual.result _ c.from_residual.ensures.1) (drew_refused (stuck 0 c.args.r.now) _ _ _ c.in_err-tally.ensures.wrote)
