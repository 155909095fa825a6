-- Ask 4: the number of pixels changed, for every card, write and picture. `five`, `alike` and `twice` assume pictures of bytes (`Bytes`) and a draw that obeys
-- the raster operation.
use mathlib.Core.Path.{◌≡◌, ap, sym, ◌∙◌}
use mathlib.Core.Bool.{Bool, true, cond}
use mathlib.Core.List.{List}
use mathlib.Core.Logic.{◌↔◌}
use Prim.Native.Nat.{ℕ, ◌≤◌, ◌<◌}
use native.Mathlib.Decide.{ℕ_discrete}
use native.Mathlib.Omega.{arith}
use lib.Dec.{T}
use lib.ListN.{length}
use Rattle.raster.specs.Operations.{restoring}
use Rattle.raster.proofs.Operations.{undoes_itself}
use Rattle.span.specs.Fragments.{Fragment, Bytes, differing}
use Rattle.span.specs.Layers.{changed_all}
use Rattle.span.proofs.Changed.{differing-none, changed_all-within, changed_all-zero, changed_all_apart, changed_all_op, changed_all_five, changed_all_alike}
use Rattle.span.proofs.Layers.{drawn_all-bytes}
use Rattle.card.specs.declared.Card.{Card}
use Rattle.card.specs.declared.Write.{Write}
use Rattle.rules.specs.Modes.{effective}
use Rattle.rules.specs.Lines.{spans_of}
use Rattle.rules.specs.Refusal.{refusal}
use Rattle.rules.specs.Writes.{count, layers, in_block_mode, operation, picture, changed}
use Rattle.rules.specs.Sequences.{with_operation, drawn_with, obeys, VisitsOnce}
use Rattle.rules.proofs.Outcome.{count-accepted, changed-accepted, changed_refused}
use Rattle.demands.proofs.Demand1.{same_length}
use Rattle.demands.proofs.Demand3.{layers_same, operation_with, apart, obeying}

module _ (c : Card) (w : Write) (v : List ℕ) where
  -- a refused write changes none
  pub refused_changes : (refusal c w (length v) ≡ 0 → ⊥) → changed c w v ≡ 0
  refused_changes h = changed_refused c w v h

  -- never above the enabled count
  pub within : changed c w v ≤ count c w (length v)
  within = go (ℕ_discrete (refusal c w (length v)) 0)
    where
      go : Dec (refusal c w (length v) ≡ 0) → changed c w v ≤ count c w (length v)
      go (yes e) =
          omega (arith, changed-accepted c w v e, count-accepted c w v e, changed_all-within (operation c w) (effective c) (spans_of c w) v)
      go (no h) = omega (arith, changed_refused c w v h)

  -- where none is changed the picture stays
  pub none-changed : changed c w v ≡ 0 → picture c w v ≡ v
  unfolding changed picture
  none-changed = changed_all-zero (operation c w) (layers c w (length v)) v

  module _ (once : VisitsOnce c w (length v)) where
    -- a write that visits no pixel twice: the number is that of the pixels that differ between the picture before and the picture after
    pub whole : changed c w v ≡ differing v (picture c w v)
    unfolding changed picture
    whole = changed_all_apart (operation c w) (layers c w (length v)) v (apart c w (length v) once)

    -- and it is 0 exactly when the picture stays
    pub stays_exactly : (changed c w v ≡ 0) ↔ (picture c w v ≡ v)
    stays_exactly = (none-changed, λ e. whole ∙ (ap (differing v) e ∙ differing-none v))

-- a picture of bytes stays one
pub picture-bytes : (c : Card) (w : Write) (v : List ℕ) → Bytes v → Bytes (picture c w v)
unfolding picture
picture-bytes c w v b = drawn_all-bytes (operation c w) (layers c w (length v)) v b

-- a draw with a, which obeys it
changed_with : (a : ℕ) (c : Card) (w : Write) (v : List ℕ) → obeys c w ≡ true → changed (with_operation a c) w v ≡ changed_all a (layers c w (length v)) v
unfolding changed
changed_with a c w v o =
    ap (λ (fs : List (ℕ → Fragment)). changed_all (operation (with_operation a c) w) fs v) (layers_same a c w (length v))
    ∙ (changed_all_op _ _ (layers c w (length v)) v (operation_with a c w)
    ∙ ap (λ (b : Bool). changed_all (cond b 3 a) (layers c w (length v)) v) (obeying (in_block_mode c w) o))

-- a draw with operation 5 changes none
pub five : (c : Card) (w : Write) (v : List ℕ) → Bytes v → obeys c w ≡ true → changed (with_operation 5 c) w v ≡ 0
five c w v b o = changed_with 5 c w v o ∙ changed_all_five (layers c w (length v)) v b

module _ (op : ℕ) (h : op < 16) (t : T (restoring op)) (c : Card) (w : Write) (o : obeys c w ≡ true) where
  -- a draw with 5, 6, 9 or 10 changes as many pixels on every picture of one length
  pub alike : (v u : List ℕ) → Bytes v → Bytes u → length u ≡ length v → changed (with_operation op c) w u ≡ changed (with_operation op c) w v
  alike v u bv bu l =
      changed_with op c w u o
      ∙ (ap (λ (n : ℕ). changed_all op (layers c w n) u) l
      ∙ (changed_all_alike op ((undoes_itself op h).1 t) (layers c w (length v)) v u l bv bu ∙ sym (changed_with op c w v o)))

  -- made twice, it reports the same number both times
  pub twice : (v : List ℕ) → Bytes v → changed (with_operation op c) w (drawn_with op c w v) ≡ changed (with_operation op c) w v
  twice v b = alike v (drawn_with op c w v) b (picture-bytes (with_operation op c) w v b) (same_length (with_operation op c) w v)
