-- `strokes::by_patterns` meets its contract. The loop's invariant: the pattern is drawn i times. Assumes nothing.
use mathlib.Core.Path.{◌≡◌, refl, ap, ◌∙◌}
use Prim.Native.Nat.{ℕ, ◌+◌, ◌*◌, ◌%◌}
use native.Mathlib.Omega.{arith}
use lib.ListN.{get_or}
use Rattle.span.proofs.Patterns.{pattern_again}
use Rattle.strokes.proofs.Turns.{further_as, further_then}
use Rattle.strokes.proofs.by_patterns.Goals as goal

pub loop-i-preserved : goal.loop-i-preserved
loop-i-preserved c =
    let l = c.loop-i in
    let e = c.pattern-changed.ensures in
    let d : 32 * l.i + 32 ≡ 32 * (l.i + 1) = omega arith in (
      omega arith,
      omega (arith, e.0),
      λ op f m.
          further_then (l.invariant.2 op f m)
          (further_as
          (e.1 op f
          (λ j h.
          let k : j ≡ (32 * l.i + j) % 32 = omega arith in (
            ap (λ (n : ℕ). get_or c.bytes-and.result n 0) k ∙ (m (32 * l.i + j)).0,
            ap (λ (n : ℕ). get_or c.bytes-xor.result n 0) k ∙ (m (32 * l.i + j)).1,
          )))
          refl d refl),
    )

pub returns : goal.returns
returns c =
    let l = c.loop-i in
    let a = c.args in
    let e : 32 * l.i ≡ 32 * a.n = omega arith in (
      omega arith,
      λ op f m.
          further_as
          (l.invariant.2 op f
          (λ j. (
            c.bytes-and.ensures (j % 32) (omega arith) ∙ (pattern_again a.t.and j ∙ m.and j),
            c.bytes-xor.ensures (j % 32) (omega arith) ∙ (pattern_again a.t.xor j ∙ m.xor j),
          )))
          refl e refl,
    )
