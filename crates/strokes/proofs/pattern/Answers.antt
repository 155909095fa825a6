-- `strokes::pattern` meets its contract. The loop's invariant: the first j pixels are drawn. Assumes nothing.
use mathlib.Core.Path.{◌≡◌, refl, sym}
use Prim.Native.Nat.{◌+◌}
use native.Mathlib.Omega.{arith}
use lib.ListN.{length-set}
use Rattle.strokes.proofs.Turns.{byte_turn, further_as, further_then}
use Rattle.strokes.proofs.pattern.Goals as goal

pub loop-j-preserved : goal.loop-j-preserved
loop-j-preserved c =
    let l = c.loop-j in
    let a = c.args in
    let n = c.differ-changed.ensures in
    let e : a.at + l.j + 1 ≡ a.at + (l.j + 1) = omega arith in (
      simp length-set l.invariant.0,
      omega (arith, n.1),
      λ op f m.
          further_then (l.invariant.2 op f m)
          (further_as
          (byte_turn op f (a.at + l.j) _ _ (omega arith) (c.slice_known-in-loop-j-1.given (a.at + l.j)).fits (m l.j (omega arith)).0 (m l.j (omega arith)).1)
          refl e (sym n.0)),
    )

pub returns : goal.returns
returns c =
    let l = c.loop-j in
    let e : c.args.at + l.j ≡ c.args.at + 32 = omega arith in (omega arith, λ op f m. further_as (l.invariant.2 op f m) refl e refl)
