-- `player::run` meets its contract. Assumes nothing.
use mathlib.Core.Path.{sym, ◌∙◌}
use native.Mathlib.Omega.{arith}
use Rattle.rules.proofs.Numbers.{passed_up, some_number}
use Rattle.player.proofs.Replays.{no_trace, too_short, plays, whole_run}
use Rattle.player.proofs.run.Goals as goal

pub returns-in_err-trace : goal.returns-in_err-trace
returns-in_err-trace c =
    let a = c.args in
    rw (passed_up c.from_residual.result _ c.from_residual.ensures.1) (no_trace a.bytes.now a.vram.now a.held _ c.in_err-trace.ensures.number (some_number _))

pub returns-then-vram-n : goal.returns-then-vram-n
returns-then-vram-n c =
    let a = c.args in
    let k = c.in_ok-trace.ensures in
    too_short a.bytes.now a.vram.now a.held (sym k.number) (omega (arith, k.vram, c.if-vram-n.true))

pub returns : goal.returns
returns c =
    let a = c.args in
    let k = c.in_ok-trace.ensures in
    rw c.number.ensures (plays a.bytes.now a.vram.now a.held (sym k.number) _ k.vram (omega (arith, k.vram, c.if-vram-n.false)) _
    (c.run-ran.ensures ∙ whole_run a.bytes.now a.vram.now a.held k.entries c.reset-card.ensures k.vram))
