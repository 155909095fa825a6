-- A write that counts no pixel leaves the picture, and one that reads none into the copy buffer leaves the same card on every picture of one
-- length. Assumes nothing.
use mathlib.Core.Path.{◌≡◌, refl, ap, sym, ◌∙◌}
use mathlib.Core.Bool.{Bool, true, false, cond, not, ◌&&◌}
use mathlib.Core.List.{List, [], ◌∷◌}
use Prim.Native.Nat.{ℕ}
use native.Mathlib.Decide.{ℕ_discrete}
use native.Mathlib.Omega.{arith}
use lib.Dec.{eqb}
use lib.ListN.{length}
use Rattle.span.specs.Fragments.{stays}
use Rattle.span.specs.Layers.{Each, summed}
use Rattle.span.specs.Spans.{Span, spanned, enabled_in}
use Rattle.span.proofs.Counted.{counted-zero}
use Rattle.span.proofs.Layers.{drawn_all-none}
use Rattle.span.proofs.Spans.{spanned_off}
use Rattle.card.specs.Registers.{is_set, ◌is◌}
use Rattle.card.specs.Access.{stores}
use Rattle.card.specs.declared.Card.{Card}
use Rattle.card.specs.declared.Write.{Write}
use Rattle.card.specs.declared.Register.TheVariants.{CopySource}
use Rattle.rules.specs.Modes.{mode_of, is_copy, effective, register_of}
use Rattle.rules.specs.Lines.{spans_of}
use Rattle.rules.specs.Refusal.{refusal}
use Rattle.rules.specs.Writes.{accepted, count, layers, operation, picture, after_frame, after_register, next}
use Rattle.rules.specs.Sequences.{reads_pixels}
use Rattle.rules.proofs.Outcome.{picture_refused, count-accepted}
use Rattle.demands.proofs.Demand2.{each_layer}

-- spans of which no pixel is counted do nothing
none-on : (c : Card) (ss : List Span) → summed enabled_in ss ≡ 0 → Each (λ (s : Span). (p : ℕ) → spanned (effective c) s p ≡ stays) ss
none-on c [] e = tt
none-on c (s ∷ ss) e = (spanned_off (effective c) s (counted-zero s.width s.on (omega arith)), none-on c ss (omega arith))

pub none-drawn : (c : Card) (w : Write) (v : List ℕ) → count c w (length v) ≡ 0 → picture c w v ≡ v
unfolding picture
none-drawn c w v e = go (ℕ_discrete (refusal c w (length v)) 0)
  where
    quiet : refusal c w (length v) ≡ 0 → Each (λ f. (p : ℕ) → f p ≡ stays) (layers c w (length v))
    quiet ok = each_layer (λ f. (p : ℕ) → f p ≡ stays) c w (length v) (none-on c (spans_of c w) (sym (count-accepted c w v ok) ∙ e))

    go : Dec (refusal c w (length v) ≡ 0) → picture c w v ≡ v
    go (yes ok) = drawn_all-none (operation c w) (layers c w (length v)) v (quiet ok)
    go (no h) = picture_refused c w v h

pub next_blind : (c : Card) (w : Write) (v v' : List ℕ) → length v ≡ length v' → reads_pixels c w (length v) ≡ false → next c w v ≡ next c w v'
unfolding next after_register after_frame stores
next_blind c w v v' l e = go (accepted c w (length v)) (eqb w.space 1) e ∙ ap (λ (n : ℕ). after (accepted c w n) (eqb w.space 1) v') l
  where
    after : Bool → Bool → List ℕ → Card
    after a r u = cond a (cond r (after_register c w u) (after_frame c w u)) c

    go : (a r : Bool) → a && cond r (register_of w is CopySource) (is_copy (mode_of c.registers.mode) && not (is_set c.copier.writing)) ≡ false
        → after a r v ≡ after a r v'
    go true true q = rw q
    go true false q = rw q
    go false r q = refl
