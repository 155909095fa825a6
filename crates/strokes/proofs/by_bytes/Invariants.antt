use mathlib.Core.Path.{◌≡◌}
use Prim.Native.Nat.{ℕ, ◌+◌, ◌%◌, ◌≤◌, ◌<◌}
use lib.ListN.{length, get_or}
use Rattle.span.specs.Fragments.{Fragment}
use Rattle.tables.specs.Reduced.{keeps, flips}
use Rattle.strokes.specs.Progress.{Further}
use Rattle.strokes.proofs.by_bytes.Given as goal

abbrev pub invariant-loop-j : goal.invariant-loop-j
invariant-loop-j l =
    (length l.part ≡ length l.initial.part) × (l.changed + l.start ≤ l.j)
    × ((op : ℕ) (f : ℕ → Fragment)
    → ((i : ℕ) → l.start ≤ i → i < l.end → (get_or l.and (i % 8) 0 ≡ keeps op (f i)) × (get_or l.xor (i % 8) 0 ≡ flips op (f i)))
    → Further op f l.start l.j l.initial.part l.changed l.part)
