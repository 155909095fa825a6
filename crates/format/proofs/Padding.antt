-- The test of a part, entry after entry. Assumes nothing.
use mathlib.Core.Path.{◌≡◌, ap}
use mathlib.Core.Bool.{false}
use mathlib.Core.List.{List}
use Prim.Native.Nat.{ℕ, suc, ◌+◌, ◌-◌, ◌*◌, ◌/◌, ◌%◌, ◌≤◌, ◌<◌}
use native.Mathlib.Omega.{arith}
use lib.ListN.{length, get_or}
use borrow.Author.Tests.{eq-eqb, le-leb, lt-leb}
use Rattle.format.specs.Traces.{largest, padded_at, well_formed, well_formed_up_to}
use Rattle.format.proofs.HeaderTests.{and_false}

-- too many, whatever the number allowed
pub too_many : (most : ℕ) (v : List ℕ) → most < length v / 12 → false ≡ well_formed_up_to most v
unfolding well_formed_up_to
too_many most v g = simp (lt-leb _ _ g, and_false)

-- a part of whole entries, not too many, is well-formed where its padding is zero
pub by_padding : (v : List ℕ) → length v % 12 ≡ 0 → length v / 12 ≤ largest → padded_at v 0 (length v / 12) ≡ well_formed v
unfolding well_formed_up_to
by_padding v h g = simp (eq-eqb _ _ h, le-leb _ _ g)

-- entry i of n
module _ (v : List ℕ) (i n : ℕ) (h : i < n) where
  left : n - i ≡ suc (n - (i + 1))
  left = omega arith

  -- the rest decides
  pub next_pads : get_or v (12 * i + 2) 0 ≡ 0 → get_or v (12 * i + 3) 0 ≡ 0 → padded_at v (12 * (i + 1)) (n - (i + 1)) ≡ padded_at v (12 * i) (n - i)
  unfolding padded_at
  next_pads d e = rw left (simp (eq-eqb _ _ d, eq-eqb _ _ e) (ap (λ (a : ℕ). padded_at v a (n - (i + 1))) (omega arith)))
