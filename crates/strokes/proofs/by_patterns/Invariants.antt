use mathlib.Core.Path.{◌≡◌}
use Prim.Native.Nat.{ℕ, ◌*◌, ◌%◌, ◌≤◌}
use lib.ListN.{length, get_or}
use Rattle.span.specs.Fragments.{Fragment}
use Rattle.tables.specs.Reduced.{keeps, flips}
use Rattle.strokes.specs.Progress.{Further}
use Rattle.strokes.proofs.by_patterns.Given as goal

abbrev pub invariant-loop-i : goal.invariant-loop-i
invariant-loop-i l =
    (length l.part ≡ length l.initial.part) × (l.changed ≤ 32 * l.i)
    × ((op : ℕ) (f : ℕ → Fragment) → ((j : ℕ) → (get_or l.and (j % 32) 0 ≡ keeps op (f j)) × (get_or l.xor (j % 32) 0 ≡ flips op (f j)))
    → Further op f 0 (32 * l.i) l.initial.part l.changed l.part)
