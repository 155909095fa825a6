-- `tables::digest` meets its contract: four words, each of eight strokes. Assumes nothing.
use mathlib.Core.Path.{◌≡◌}
use Prim.Native.Nat.{ℕ, ◌<◌}
use native.Mathlib.Omega.{arith}
use lib.ListN.{get_or}
use Rattle.span.specs.Fragments.{byte}
use Rattle.span.proofs.Bytes.{byte_of}
use Rattle.tables.proofs.Quarters.{quarters_make}
use Rattle.tables.proofs.digest.Goals as goal

pub returns : goal.returns
returns c =
    let s = c.args.s in
    let of : (g : ℕ) → g < 4 → get_or c.to_le_bytes.result g 0 ≡ byte s.enable g = λ g h. byte_of s.enable g c.to_le_bytes.ensures h in
    quarters_make s s.op _ _ _ _ _ c.of_four.ensures
    (record { enabling = of 0 (omega arith); reduces = c.masked.ensures })
    (record { enabling = of 1 (omega arith); reduces = c.masked-2.ensures })
    (record { enabling = of 2 (omega arith); reduces = c.masked-3.ensures })
    (record { enabling = of 3 (omega arith); reduces = c.masked-4.ensures })
