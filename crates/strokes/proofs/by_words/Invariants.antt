use mathlib.Core.Path.{◌≡◌}
use Prim.Native.Nat.{ℕ, ◌+◌, ◌*◌, ◌≤◌, ◌<◌}
use lib.ListN.{length, get_or}
use Rattle.span.specs.Fragments.{Fragment}
use Rattle.tables.specs.Reduced.{Makes}
use Rattle.strokes.specs.Progress.{Further}
use Rattle.strokes.proofs.by_words.Given as goal

abbrev pub invariant-loop-g : goal.invariant-loop-g
invariant-loop-g l =
    (length l.part ≡ length l.initial.part) × ((j : ℕ) → get_or l.part j 0 < 256) × (l.changed + 8 * l.start ≤ 8 * l.g)
    × ((op : ℕ) (f : ℕ → Fragment) → Makes l.t op f → Further op f (8 * l.start) (8 * l.g) l.initial.part l.changed l.part)
