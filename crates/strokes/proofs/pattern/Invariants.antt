use mathlib.Core.Path.{◌≡◌}
use Prim.Native.Nat.{ℕ, ◌+◌, ◌≤◌, ◌<◌}
use lib.ListN.{length, get_or}
use Rattle.span.specs.Fragments.{Fragment}
use Rattle.tables.specs.Reduced.{keeps, flips}
use Rattle.strokes.specs.Progress.{Further}
use Rattle.strokes.proofs.pattern.Given as goal

abbrev pub invariant-loop-j : goal.invariant-loop-j
invariant-loop-j l =
    (length l.part ≡ length l.initial.part) × (l.changed ≤ l.j)
    × ((op : ℕ) (f : ℕ → Fragment)
    → ((i : ℕ) → i < 32 → (get_or l.and i 0 ≡ keeps op (f (l.at + i))) × (get_or l.xor i 0 ≡ flips op (f (l.at + i))))
    → Further op f l.at (l.at + l.j) l.initial.part l.changed l.part)
