-- `recording::words::put_bytes` meets its contract. Assumes nothing.
use mathlib.Core.Path.{ap, ◌∙◌}
use lib.Seq.{sets}
use Rattle.recording.proofs.Stores.{part-sets}
use Rattle.recording.proofs.words.put_bytes.Goals as goal

pub returns : goal.returns
returns c = part-sets 4 _ _ _ c.copy_from_slice.ensures.len c.requires ∙ ap (sets _ _) c.copy_from_slice.ensures.after
