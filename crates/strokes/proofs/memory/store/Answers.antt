-- `strokes::memory::store` meets its contract: the bytes of the word, in place of a part. Assumes nothing.
use mathlib.Core.Path.{◌∙◌}
use Rattle.span.specs.Fragments.{byte}
use Rattle.strokes.proofs.Words.{listed-word, part-sets}
use Rattle.strokes.proofs.memory.store.Goals as goal

pub returns : goal.returns
returns c =
    let a = c.args in
    part-sets 8 a.at a.p.now (byte a.w) c.requires (c.copy_from_slice.ensures.after ∙ (c.to_le_bytes.ensures ∙ listed-word a.w))
