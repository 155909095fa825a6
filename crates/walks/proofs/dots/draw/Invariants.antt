use mathlib.Core.Path.{◌≡◌}
use mathlib.Core.Bool.{false}
use Prim.Native.Nat.{◌+◌, ◌-◌, ◌*◌, ◌%◌, ◌^◌, ◌≤◌}
use lib.ListN.{length}
use Rattle.span.specs.Layers.{drawn_all, changed_all, summed}
use Rattle.span.specs.Spans.{enabled_in}
use Rattle.rules.specs.Lines.{visits as visits_from, strays}
use Rattle.walks.specs.Reach.{Near}
use Rattle.walks.proofs.Dotting.{spans, layers}
use Rattle.walks.proofs.dots.draw.Given as goal

abbrev pub invariant-loop-i : goal.invariant-loop-i
invariant-loop-i l =
    (l.enabled ≤ l.i) × (l.changed ≤ l.i) × Near (2 ^ 33 + 65536 * l.i) l.at × (length l.vram ≡ length l.initial.vram)
    × (strays (length l.initial.vram) (visits_from l.walk.bresenham1 l.walk.bresenham2 (l.walk.visits - l.i) l.at) ≡ false)
    × (drawn_all (l.card.registers.raster % 16) (layers l.card l.w l.opaque l.cap l.walk.bresenham1 l.walk.bresenham2 l.i (l.walk.visits - l.i) l.at) l.vram
    ≡ drawn_all (l.card.registers.raster % 16) (layers l.card l.w l.opaque l.cap l.walk.bresenham1 l.walk.bresenham2 0 l.walk.visits l.walk.start) l.initial.vram)
    × (l.enabled + summed enabled_in (spans l.card l.w l.opaque l.cap l.walk.bresenham1 l.walk.bresenham2 l.i (l.walk.visits - l.i) l.at)
    ≡ summed enabled_in (spans l.card l.w l.opaque l.cap l.walk.bresenham1 l.walk.bresenham2 0 l.walk.visits l.walk.start))
    × (l.changed + changed_all (l.card.registers.raster % 16) (layers l.card l.w l.opaque l.cap l.walk.bresenham1 l.walk.bresenham2 l.i (l.walk.visits - l.i) l.at) l.vram
    ≡ changed_all (l.card.registers.raster % 16) (layers l.card l.w l.opaque l.cap l.walk.bresenham1 l.walk.bresenham2 0 l.walk.visits l.walk.start) l.initial.vram)
