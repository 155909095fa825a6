-- `composing::compose` meets its contract: the table passes its test. Assumes nothing.
use borrow.Author.Rules.{rules}
use Rattle.raster.specs.Pixel.{composite, result, number, bit}
use Rattle.composing.proofs.Table.{found}
use Rattle.composing.proofs.compose.Goals as goal

pub returns : goal.returns
unfolding composite result number bit
returns c = search (found, rules)
