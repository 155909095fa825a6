use mathlib.Core.Path.{◌≡◌}
use mathlib.Core.Bool.{cond}
use mathlib.Core.List.{◌++◌}
use Prim.Native.Nat.{◌+◌, ◌*◌}
use lib.ListN.{length, get_or, drop}
use Rattle.raster.specs.Pixel.{bit}
use Rattle.span.specs.Fragments.{listed}
use Rattle.strokes.proofs.buffer.source.Given as goal

abbrev pub invariant-loop-k : goal.invariant-loop-k
invariant-loop-k l =
    (length l.buffer ≡ 64) × (l.buffer ≡ listed (8 * l.k) (λ i. cond (bit l.bits i) (get_or l.vram (l.at + i) 0) 0) ++ drop (8 * l.k) l.initial.buffer)
