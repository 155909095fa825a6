-- The first number whose test holds, found one row after the other. Assumes nothing.
use mathlib.Core.Path.{◌≡◌}
use mathlib.Core.Bool.{Bool, false, cond}
use mathlib.Core.List.{List}
use Prim.Native.Nat.{ℕ, ◌+◌, ◌<◌}
use native.Mathlib.Numerals.{add-one}
use lib.ListN.{length, get_or, drop}
use lib.Seq.{drop-cons}
use Rattle.plan.specs.Plan.{first_of}

pub first_step : (ks : List ℕ) (bs : List Bool) (i : ℕ) → i < length ks → i < length bs
    → first_of (drop i ks) (drop i bs) ≡ cond (get_or bs i false) (get_or ks i 0) (first_of (drop (i + 1) ks) (drop (i + 1) bs))
first_step ks bs i hk hb = rw (add-one, drop-cons ks i 0 hk, drop-cons bs i false hb)
