-- One visit of a walk more. Assumes nothing.
use mathlib.Core.Path.{◌≡◌, refl}
use mathlib.Core.Bool.{Bool, true, false, not, ◌||◌}
use mathlib.Core.List.{◌∷◌}
use Prim.Native.Nat.{ℕ, zero, suc, ◌+◌, ◌-◌, ◌≤◌, ◌<◌}
use native.Mathlib.Nat.{not-suc-le-zero}
use native.Mathlib.Omega.{arith}
use lib.Dec.{eqb, leb}
use borrow.Author.Tests.{ne_eqb, ltb-true, leb-true, not-false}
use Rattle.rules.specs.Lines.{stepped, visits, walked, strays, wild, within, in_sixteen_bits, none}
use Rattle.rules.specs.declared.Visit.{Visit}
use Rattle.rules.proofs.Tests.{neither, both}

module _ (a b : ℕ) where
  -- the first of k visits, and those after it
  pub visits-next : (k : ℕ) (s : Visit) → 0 < k → visits a b k s ≡ s ∷ visits a b (k - 1) (stepped a b s)
  unfolding visits
  visits-next zero s h = absurd (not-suc-le-zero h)
  visits-next (suc k) s h = let e : suc k - 1 ≡ k = omega arith in rw e

  pub walked_next : (k : ℕ) (s : Visit) → 0 < k → walked a b k s ≡ walked a b (k - 1) (stepped a b s)
  unfolding walked
  walked_next zero s h = absurd (not-suc-le-zero h)
  walked_next (suc k) s h = let e : suc k - 1 ≡ k = omega arith in rw e

  -- there is none where k is 0
  pub none_left : (k : ℕ) (s : Visit) → none (visits a b k s) ≡ eqb k 0
  unfolding visits
  none_left zero s = refl
  none_left (suc k) s = rw (ne_eqb (suc k) 0 (λ e. omega arith))

  -- what was found so far, and what is found of the rest
  pub strays_turn : (n k : ℕ) (s : Visit) (found : Bool) → 0 < k
      → (found || not (within n s.place)) || strays n (visits a b (k - 1) (stepped a b s)) ≡ found || strays n (visits a b k s)
  strays_turn n k s true h = refl
  strays_turn n k s false h = rw (visits-next k s h)

  pub wild_turn : (k : ℕ) (s : Visit) (found : Bool) → 0 < k
      → (found || (not (in_sixteen_bits s.error) || not (in_sixteen_bits (stepped a b s).error))) || wild a b (visits a b (k - 1) (stepped a b s))
      ≡ found || wild a b (visits a b k s)
  wild_turn k s true h = refl
  wild_turn k s false h =
      rw (visits-next k s h)
      (go (not (in_sixteen_bits s.error)) (not (in_sixteen_bits (stepped a b s).error)) (wild a b (visits a b (k - 1) (stepped a b s))))
    where
      go : (x y z : Bool) → (x || y) || z ≡ x || (y || z)
      go true y z = refl
      go false y z = refl

  -- where none strays, the first lies inside, and none of the rest strays
  pub inside_next : (n k : ℕ) (s : Visit) → 0 < k → strays n (visits a b k s) ≡ false
      → (s.place.less ≤ s.place.more) × (s.place.more - s.place.less < n) × (strays n (visits a b (k - 1) (stepped a b s)) ≡ false)
  inside_next n k s h e =
      let (in_first, rest) = neither _ _ (rw (visits-next k s h) at e) in
      let (low, high) = both (leb s.place.less s.place.more) _ (not-false _ in_first) in
      let l : s.place.less ≤ s.place.more = leb-true _ _ low in
      let u : s.place.more < s.place.less + n = ltb-true _ _ high in
      (l, omega arith, rest)
