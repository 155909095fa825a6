-- The sixteen operations: they are the X Window System's, and four of them undo themselves. Each is one test that antt computes over
-- all sixteen, carried to each number. Assumes nothing.
use mathlib.Core.Path.{◌≡◌, refl, sym, subst}
use mathlib.Core.Bool.{Bool, true, false, ◌&&◌, beq, xor}
use mathlib.Core.Logic.{◌↔◌}
use Prim.Native.Nat.{ℕ, ◌<◌}
use lib.Dec.{T, eqb, eqb→eq}
use lib.ListN.{get_or}
use Rattle.raster.specs.Pixel.{bit, number, result, composite}
use Rattle.raster.specs.Operations.{gx, restoring}
use Rattle.raster.proofs.Below.{all_are_below, left, right}

same : (a b : Bool) → T (beq a b) → a ≡ b
same true true t = refl
same true false t = absurd t
same false true t = absurd t
same false false t = refl

abbrev agrees : ℕ → Bool → Bool → Bool
agrees op s d = beq (result op s d) (get_or gx op (λ s d. d) s d)

abbrev ones : ℕ → Bool
ones op = agrees op true true && agrees op true false

abbrev zeros : ℕ → Bool
zeros op = agrees op false true && agrees op false false

-- operation op of the scope paper is operation op of the X Window System
pub x_numbering : (op : ℕ) → op < 16 → (s d : Bool) → result op s d ≡ get_or gx op (λ s d. d) s d
unfolding result bit xor
x_numbering op h s d = same _ _ (pick s d)
  where
    pick : (s d : Bool) → T (agrees op s d)
    pick true true = left (agrees op true true) (agrees op true false) (all_are_below 16 ones tt op h)
    pick true false = right (agrees op true true) (agrees op true false) (all_are_below 16 ones tt op h)
    pick false true = left (agrees op false true) (agrees op false false) (all_are_below 16 zeros tt op h)
    pick false false = right (agrees op false true) (agrees op false false) (all_are_below 16 zeros tt op h)

abbrev undone : ℕ → Bool
undone op = beq (eqb (composite op op) 5) (restoring op)

-- an operation's composite with itself is no operation exactly for 5, 6, 9 and 10
pub undoes_itself : (op : ℕ) → op < 16 → (composite op op ≡ 5) ↔ T (restoring op)
unfolding composite result number bit
undoes_itself op h =
    let e : eqb (composite op op) 5 ≡ restoring op = same _ _ (all_are_below 16 undone tt op h) in (
      λ (p : composite op op ≡ 5). subst (λ (b : Bool). T b) e (subst (λ (n : ℕ). T (eqb n 5)) (sym p) tt),
      λ (t : T (restoring op)). eqb→eq _ _ (subst (λ (b : Bool). T b) (sym e) t),
    )
