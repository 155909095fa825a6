-- `strokes::total` meets its contract. Assumes nothing.
use Rattle.words.proofs.Marks.{totalled}
use Rattle.strokes.proofs.total.Goals as goal

pub returns : goal.returns
returns c = λ f e h. totalled c.args.w f e h
