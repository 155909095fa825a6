-- `patterns::choose` meets its contract, word by word. Assumes nothing.
use borrow.Author.Rules.{rules}
use Rattle.patterns.proofs.Chosen.{chosen}
use Rattle.patterns.proofs.choose.Goals as goal

pub returns : goal.returns
returns c =
    let a = c.args in
    chosen a.pick a.x a.y c.to_le_bytes.result c.map.result c.to_le_bytes.ensures (search rules) (search rules) (search rules) (search rules)
