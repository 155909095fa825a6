use mathlib.Core.Path.{◌≡◌}
use mathlib.Core.Bool.{◌||◌}
use Prim.Native.Nat.{◌+◌, ◌-◌, ◌*◌, ◌^◌}
use Rattle.rules.specs.Lines as Lines
use Rattle.walks.specs.Reach.{Near}
use Rattle.walks.proofs.steps.Walk.judge.Given as goal

abbrev pub invariant-loop-i : goal.invariant-loop-i
invariant-loop-i l =
    Near (2 ^ 33 + 65536 * l.i) l.at
    × (l.strays || Lines.strays l.n (Lines.visits l.self.bresenham1 l.self.bresenham2 (l.self.visits - l.i) l.at)
    ≡ Lines.strays l.n (Lines.visits l.self.bresenham1 l.self.bresenham2 l.self.visits l.self.start))
    × (l.wild || Lines.wild l.self.bresenham1 l.self.bresenham2 (Lines.visits l.self.bresenham1 l.self.bresenham2 (l.self.visits - l.i) l.at)
    ≡ Lines.wild l.self.bresenham1 l.self.bresenham2 (Lines.visits l.self.bresenham1 l.self.bresenham2 l.self.visits l.self.start))
    × (Lines.walked l.self.bresenham1 l.self.bresenham2 (l.self.visits - l.i) l.at
    ≡ Lines.walked l.self.bresenham1 l.self.bresenham2 l.self.visits l.self.start)
