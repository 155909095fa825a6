-- `patterns::tiled` meets its contract: one word four times. Assumes nothing.
-- a word that is right for each place mod 8 holds its tile at any of the four places
use mathlib.Core.Path.{◌≡◌, ap, ap₂, ◌∙◌}
use mathlib.Core.List.{[], ◌∷◌}
use Prim.Native.Nat.{ℕ, ◌+◌, ◌*◌, ◌/◌, ◌%◌}
use native.Mathlib.Omega.{arith}
use lib.ListN.{get_or}
use Rattle.span.specs.Fragments.{byte}
use Rattle.span.proofs.Patterns.{Holds, pattern_at}
use Rattle.patterns.proofs.Chosen.{turned_pair}
use Rattle.patterns.proofs.tiled.Goals as goal

holds : (low high at g r : ℕ) → ((j : ℕ) → byte r (j % 8) ≡ byte (get_or (low ∷ high ∷ []) ((at + j) % 8 / 4) 0) ((at + j) % 4))
    → Holds (λ j. byte (get_or (low ∷ high ∷ []) ((at + j) % 8 / 4) 0) ((at + j) % 4)) g r
holds low high at g r e k h =
    let p : k ≡ (8 * g + k) % 8 = omega arith in ap (λ (i : ℕ). byte r i) p ∙ e (8 * g + k)

pub returns : goal.returns
returns c =
    let a = c.args in
    let e = turned_pair a.low a.high a.at _ _ c.pair.ensures c.turned-w.ensures in
    λ j.
    let p : (a.at + j % 32) % 8 ≡ (a.at + j) % 8 = omega arith in
    let q : (a.at + j % 32) % 4 ≡ (a.at + j) % 4 = omega arith in
    pattern_at (λ i. byte (get_or (a.low ∷ a.high ∷ []) ((a.at + i) % 8 / 4) 0) ((a.at + i) % 4)) _ _ _ _
    (holds a.low a.high a.at 0 _ e)
    (holds a.low a.high a.at 1 _ e)
    (holds a.low a.high a.at 2 _ e)
    (holds a.low a.high a.at 3 _ e)
    j
    ∙ ap₂ (λ (s t : ℕ). byte (get_or (a.low ∷ a.high ∷ []) (s / 4) 0) t) p q
