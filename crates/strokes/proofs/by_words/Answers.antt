-- `strokes::by_words` meets its contract. The loop's invariant: the words before g are drawn. Assumes nothing.
use mathlib.Core.Path.{◌≡◌, refl, sym}
use Prim.Native.Nat.{◌+◌, ◌*◌, ◌%◌}
use native.Mathlib.Omega.{arith}
use Rattle.strokes.proofs.Tallies.{one_word}
use Rattle.strokes.proofs.Turns.{word_turn, further_as, further_then}
use Rattle.strokes.proofs.by_words.Goals as goal

pub overflow_add-changed : goal.overflow_add-changed
overflow_add-changed c = omega (arith, (one_word c.word.ensures.1 refl).1)

pub loop-g-preserved : goal.loop-g-preserved
loop-g-preserved c =
    let l = c.loop-g in
    let n = one_word c.word.ensures.1 refl in
    let e : 8 * l.g + 8 ≡ 8 * (l.g + 1) = omega arith in (
      omega arith,
      λ j. (c.slice_known-in-loop-g-1.given j).fits,
      omega (arith, n.1),
      λ op f m.
          further_then (l.invariant.3 op f m)
          (further_as (word_turn op f _ m (8 * l.g) (l.g % 4) l.part (omega arith) (omega arith) c.word.ensures.0 l.invariant.1 (omega arith)) refl e (sym n.0)),
    )
