-- `strokes::memory::load` meets its contract: the part, read as a number. Assumes nothing.
use mathlib.Core.Path.{◌∙◌}
use Rattle.strokes.proofs.Words.{word-listed, part-listed}
use Rattle.strokes.proofs.memory.load.Goals as goal

pub returns : goal.returns
returns c =
    let whole = rw c.unwrap-bytes.ensures at c.try_from.ensures.1 in
    c.from_le_bytes.ensures ∙ word-listed _ (whole.same ∙ part-listed 8 c.args.at c.args.p.now c.requires)
