-- Parts of a list, as the code cuts them. Assumes nothing.
use mathlib.Core.Path.{◌≡◌}
use mathlib.Core.List.{List}
use Prim.Native.Nat.{ℕ, ◌-◌}
use native.Mathlib.Omega.{arith}
use lib.ListN.{length, take, drop, length-drop}
use lib.Seq.{take_all}

-- all from byte a on
pub from_on : (a : ℕ) (v : List ℕ) → take (length v - a) (drop a v) ≡ drop a v
from_on a v = take_all (length v - a) (drop a v) (omega (arith, length-drop a v))
