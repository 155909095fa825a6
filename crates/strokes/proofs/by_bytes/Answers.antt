-- `strokes::by_bytes` meets its contract. The loop's invariant: the pixels before j are drawn. Assumes nothing.
use mathlib.Core.Path.{◌≡◌, refl, sym, ◌∙◌}
use Prim.Native.Nat.{◌%◌}
use native.Mathlib.Omega.{arith}
use lib.ListN.{length-set}
use Rattle.strokes.proofs.Turns.{byte_turn, further_as, further_then}
use Rattle.strokes.proofs.Words.{word_at}
use Rattle.strokes.proofs.by_bytes.Goals as goal

pub loop-j-preserved : goal.loop-j-preserved
loop-j-preserved c =
    let l = c.loop-j in
    let n = c.differ.ensures in (
      simp length-set l.invariant.0,
      omega (arith, n.1),
      λ op f m.
          further_then (l.invariant.2 op f m)
          (further_as
          (byte_turn op f l.j _ _ (omega arith) (c.slice_known-in-loop-j-1.given l.j).fits
          (m l.j (omega arith) (omega arith)).0
          (m l.j (omega arith) (omega arith)).1)
          refl refl (sym n.0)),
    )

pub returns : goal.returns
returns c =
    let l = c.loop-j in
    let a = c.args in
    let e : l.j ≡ a.end = omega arith in (
      omega arith,
      λ op f m.
          further_as
          (l.invariant.2 op f
          (λ i lo hi. (
            word_at a.and (i % 8) c.to_le_bytes-and.ensures (omega arith) ∙ (m i lo hi).0,
            word_at a.xor (i % 8) c.to_le_bytes-xor.ensures (omega arith) ∙ (m i lo hi).1,
          )))
          refl e refl,
    )
