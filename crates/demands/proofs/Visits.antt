-- What the visits of a line or a continue draw: no more pixels than there are visits, and none twice where no two have one place. The latter is
-- the premise of `dots_apart`; the rest assumes nothing.
use mathlib.Core.Path.{◌≡◌, refl}
use mathlib.Core.Bool.{Bool, true, false, cond, not, ◌||◌}
use mathlib.Core.List.{List, [], ◌∷◌, map}
use mathlib.Core.Logic.{◌⊎◌, inl, inr}
use Prim.Native.Nat.{ℕ, zero, suc, ◌%◌, ◌≤◌}
use native.Mathlib.Decide.{ℕ_discrete}
use native.Mathlib.Omega.{arith}
use lib.Dec.{eqb}
use lib.ListN.{length}
use Rattle.span.specs.Fragments.{stays}
use Rattle.span.specs.Layers.{Each, Apart, summed}
use Rattle.span.specs.Spans.{Span, spanned, enabled_in}
use Rattle.span.proofs.Counted.{counted_le}
use Rattle.span.proofs.Spans.{spanned_elsewhere}
use Rattle.card.specs.Registers.{is_set}
use Rattle.card.specs.declared.Card.{Card}
use Rattle.card.specs.declared.Write.{Write}
use Rattle.rules.specs.Modes.{mode_of, is_opaque_line, effective}
use Rattle.rules.specs.Lines.{visits, start, capped, stepped, visit_count, visits_of, address_of, none, dot, dots, line_spans}
use Rattle.rules.specs.Sequences.{Different}
use Rattle.rules.specs.declared.Visit.{Visit}

-- ---- How many.

visits-length : (a b k : ℕ) (s : Visit) → length (visits a b k s) ≡ k
unfolding visits
visits-length a b zero s = refl
visits-length a b (suc k) s = rw (visits-length a b k (stepped a b s))

few_visits : (c : Card) (w : Write) → visit_count c w ≤ 16
unfolding visit_count
few_visits c w = go (eqb w.space 1) (is_set c.line.kept) (eqb (c.registers.bresenham3 % 16) 0)
  where
    go : (x y z : Bool) → cond x (cond y 16 0) (cond z 16 (c.registers.bresenham3 % 16)) ≤ 16
    go true true z = omega arith
    go true false z = omega arith
    go false y true = omega arith
    go false y false = omega arith

dots_enable : (o k : Bool) (c : Card) (w : Write) (i : ℕ) (ss : List Visit) → summed enabled_in (dots o k c w i ss) ≤ length ss
unfolding dots
dots_enable o k c w i [] = omega arith
dots_enable o k c w i (s ∷ ss) = omega (arith, counted_le 1 (dot o (k || not (none ss)) c w i (address_of s)).on, dots_enable o k c w (suc i) ss)

pub line_enables : (c : Card) (w : Write) → summed enabled_in (line_spans c w) ≤ 16
unfolding visits_of
line_enables c w =
    let m : ℕ = c.registers.mode in
    omega (
      arith,
      dots_enable (is_opaque_line (mode_of m)) (capped m) c w 0 (visits_of c w),
      visits-length c.registers.bresenham1 c.registers.bresenham2 (visit_count c w) (start c w),
      few_visits c w,
    )

-- ---- None twice.

-- of two at different places, one leaves the byte
one_leaves : (c : Card) (s t : Span) → s.width ≡ 1 → t.width ≡ 1 → (s.first ≡ t.first → ⊥) → (p : ℕ)
    → (spanned (effective c) s p ≡ stays) ⊎ (spanned (effective c) t p ≡ stays)
one_leaves c s t es et h p = go (ℕ_discrete p s.first)
  where
    go : Dec (p ≡ s.first) → (spanned (effective c) s p ≡ stays) ⊎ (spanned (effective c) t p ≡ stays)
    go (yes e) = inr (spanned_elsewhere (effective c) t et p (λ q. h (omega arith)))
    go (no e) = inl (spanned_elsewhere (effective c) s es p e)

module _ (o k : Bool) (c : Card) (w : Write) where
  aside : (s : Span) → s.width ≡ 1 → (i : ℕ) (ss : List Visit) → Each (λ t. s.first ≡ address_of t → ⊥) ss
      → Each (λ g. (p : ℕ) → (spanned (effective c) s p ≡ stays) ⊎ (g p ≡ stays)) (map (spanned (effective c)) (dots o k c w i ss))
  unfolding dots
  aside s e i [] h = tt
  aside s e i (t ∷ ss) (h, hs) = (one_leaves c s _ e refl h, aside s e (suc i) ss hs)

  pub dots_apart : (i : ℕ) (ss : List Visit) → Different ss → Apart (map (spanned (effective c)) (dots o k c w i ss))
  unfolding dots
  dots_apart i [] d = tt
  dots_apart i (s ∷ ss) (d, ds) = (aside _ refl (suc i) ss d, dots_apart (suc i) ss ds)
