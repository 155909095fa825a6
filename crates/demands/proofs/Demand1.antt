-- Demand 1, for one write: every write gets an answer, and a refused one changes nothing.
-- That refusal does not depend on the picture is said by its type: it takes the length, and no byte. Assumes nothing.
use mathlib.Core.Path.{◌≡◌, ap}
use mathlib.Core.Bool.{Bool, true, false, ◌&&◌}
use mathlib.Core.List.{List, [], ◌∷◌}
use Prim.Native.Nat.{ℕ, ◌≤◌, ◌<◌}
use native.Mathlib.Omega.{arith}
use lib.Dec.{T, ltb}
use lib.ListN.{length, take}
use borrow.Author.Tests.{ltb-true}
use Rattle.raster.proofs.Below.{left, right, is_true}
use Rattle.span.proofs.Layers.{drawn_all-length}
use Rattle.card.specs.declared.Card.{Card}
use Rattle.card.specs.declared.Write.{Write}
use Rattle.rules.specs.Lines.{walks}
use Rattle.rules.specs.Refusal.{wild_walk, no_line, rows, first_holding, refusal}
use Rattle.rules.specs.Writes.{count, operation, layers, next, picture}
use Rattle.rules.proofs.Outcome.{no_continue, count_refused, next_refused, picture_refused}

-- every row's number is below n
abbrev below : ℕ → List (ℕ × Bool) → Bool
below n [] = true
below n (r ∷ rs) = ltb r.0 n && below n rs

first_below : (n : ℕ) (rs : List (ℕ × Bool)) → 0 < n → T (below n rs) → first_holding rs < n
first_below n [] h t = h
first_below n ((k, true) ∷ rs) h t = ltb-true k n (is_true _ (left (ltb k n) (below n rs) t))
first_below n ((k, false) ∷ rs) h t = first_below n rs h (right (ltb k n) (below n rs) t)

-- the answer is at most 13; which numbers there are, and that it is the lowest that applies: `rules Outcome.lowest`
pub answered : (c : Card) (w : Write) (n : ℕ) → refusal c w n ≤ 13
unfolding refusal
answered c w n = let h = first_below 14 (rows c w n) (omega arith) tt in omega arith

-- 12 and 13 are of lines and continues alone: every other write is answered one of the numbers 0 to 9
pub answered_still : (c : Card) (w : Write) (n : ℕ) → walks c w ≡ false → refusal c w n ≤ 9
unfolding refusal wild_walk no_line
answered_still c w n still =
    let h : first_holding (take 9 (rows c w n)) < 10 = first_below 10 (take 9 (rows c w n)) (omega arith) tt in
    rw (still, no_continue c w still) (omega (arith, h))

-- a refused write returns a pixel count of 0, and the card and the video memory stay as they stood
pub refused_leaves : (c : Card) (w : Write) (v : List ℕ) → (refusal c w (length v) ≡ 0 → ⊥)
    → (count c w (length v) ≡ 0) × (next c w v ≡ c) × (picture c w v ≡ v)
refused_leaves c w v h = (count_refused c w v h, next_refused c w v h, picture_refused c w v h)

-- number and count are the same for any two pictures of one length
pub blind : (c : Card) (w : Write) (v v' : List ℕ) → length v ≡ length v'
    → (refusal c w (length v) ≡ refusal c w (length v')) × (count c w (length v) ≡ count c w (length v'))
blind c w v v' e = (ap (λ (n : ℕ). refusal c w n) e, ap (λ (n : ℕ). count c w n) e)

-- the length of the video memory never changes
pub same_length : (c : Card) (w : Write) (v : List ℕ) → length (picture c w v) ≡ length v
unfolding picture
same_length c w v = drawn_all-length (operation c w) (layers c w (length v)) v
