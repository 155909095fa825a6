-- One byte under one fragment, and the fragments `before` and `from`. `painted_five` and `painted_below` assume an old byte.
use mathlib.Core.Path.{◌≡◌, refl, ap, sym, ◌∙◌}
use mathlib.Core.Bool.{Bool, cond}
use Prim.Native.Nat.{ℕ, ◌-◌, ◌≤◌, ◌<◌}
use native.Mathlib.Decide.{dec_lt}
use native.Mathlib.Omega.{arith}
use borrow.Author.Tests.{lt-ltb, le-ltb}
use Rattle.raster.specs.Pixel.{bit, result, made, composite}
use Rattle.raster.proofs.Bits.{number_same}
use Rattle.raster.proofs.Made.{made_below, made_plane, made_then, made_five}
use Rattle.span.specs.Fragments.{Fragment, stays, paint, painted, before, from}

pub before_below : (n : ℕ) (f : ℕ → Fragment) {p : ℕ} → p < n → before n f p ≡ f p
unfolding before
before_below n f {p} h = ap (λ (b : Bool). cond b (f p) stays) (lt-ltb p n h)

pub before-past : (n : ℕ) (f : ℕ → Fragment) {p : ℕ} → n ≤ p → before n f p ≡ stays
unfolding before
before-past n f {p} h = ap (λ (b : Bool). cond b (f p) stays) (le-ltb p n h)

-- two bounds that part at no such address are one
pub before_same : (m n : ℕ) (f : ℕ → Fragment) (p : ℕ) → (p < m → p < n) → (p < n → p < m) → before m f p ≡ before n f p
before_same m n f p to back = go (dec_lt p m)
  where
    go : Dec (p < m) → before m f p ≡ before n f p
    go (yes b) = before_below m f b ∙ sym (before_below n f (to b))
    go (no b) = let past : p < n → ⊥ = λ l. b (back l) in before-past m f (omega arith) ∙ sym (before-past n f (omega arith))

pub from_below : (a : ℕ) (f : ℕ → Fragment) {p : ℕ} → p < a → from a f p ≡ stays
unfolding from
from_below a f {p} h = ap (λ (b : Bool). cond b stays (f (p - a))) (lt-ltb p a h)

pub from_past : (a : ℕ) (f : ℕ → Fragment) {p : ℕ} → a ≤ p → from a f p ≡ f (p - a)
unfolding from
from_past a f {p} h = ap (λ (b : Bool). cond b stays (f (p - a))) (le-ltb p a h)

-- painted with a, then with b, is painted with the composite
pub painted_then : (a b : ℕ) (x : Fragment) (old : ℕ) → painted b x (painted a x old) ≡ painted (composite a b) x old
painted_then a b stays old = refl
painted_then a b (paint mask source) old = made_then 8 a b mask source old

-- 5 is no operation
pub painted_five : (x : Fragment) (old : ℕ) → old < 256 → painted 5 x old ≡ old
painted_five stays old h = refl
painted_five (paint mask source) old h = made_five 8 mask source old h

-- bit k of the new byte depends on bit k of the old byte alone
pub painted_plane : (op : ℕ) (x : Fragment) (old old' k : ℕ) → k < 8 → bit old k ≡ bit old' k
    → bit (painted op x old) k ≡ bit (painted op x old') k
painted_plane op stays old old' k h e = e
painted_plane op (paint mask source) old old' k h e = made_plane 8 op mask source old old' k h e

-- operations that give the same bits paint the same
pub painted_op : (a b : ℕ) → ((s d : Bool) → result a s d ≡ result b s d) → (x : Fragment) (old : ℕ) → painted a x old ≡ painted b x old
unfolding made
painted_op a b e stays old = refl
painted_op a b e (paint mask source) old =
    number_same 8 (λ k _. ap (λ (r : Bool). cond (bit mask k) r (bit old k)) (e (bit source k) (bit old k)))

-- a byte stays one
pub painted_below : (op : ℕ) (x : Fragment) (old : ℕ) → old < 256 → painted op x old < 256
painted_below op stays old h = h
painted_below op (paint mask source) old h = made_below 8 op mask source old
