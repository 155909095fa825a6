-- `strokes::word` meets its contract: a load and a store. Assumes nothing.
use mathlib.Core.Path.{ap, ◌∙◌}
use mathlib.Core.List.{List}
use Prim.Native.Nat.{ℕ, ◌+◌, ◌<◌}
use lib.ListN.{get_or}
use lib.Seq.{sets}
use Rattle.span.proofs.Listed.{listed_same}
use Rattle.strokes.proofs.Turns.{word_byte, word-marks}
use Rattle.strokes.proofs.word.Goals as goal

pub returns : goal.returns
returns c =
    let a = c.args in
    let v = a.part.now in
    let below : (k : ℕ) → k < 8 → get_or v (a.at + k) 0 < 256 = λ k h. (c.slice_known-1.given (a.at + k)).fits in
    let loaded = c.load-old.ensures in
    let stored = c.store.ensures in (
      stored ∙ ap (λ (l : List ℕ). sets v a.at l) (listed_same 8 (word_byte v a.at _ a.and a.xor below loaded)),
      word-marks v a.at _ a.and a.xor below loaded c.requires stored c.differing.ensures,
    )
