-- `serial::chunk` meets its contract: a number sticks, and else the answer of the reading is the number. Assumes nothing.
use mathlib.Core.Path.{sym}
use Rattle.format.specs.Traces.{largest}
use Rattle.line.proofs.Joining.{chunk-stuck}
use Rattle.serial.proofs.chunk.Goals as goal

pub returns-then-reader-ne0 : goal.returns-then-reader-ne0
returns-then-reader-ne0 c = sym (chunk-stuck largest _ _ c.if-reader-ne0.true)
