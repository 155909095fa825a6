-- Beyond demand 3's single draw: a caliper is a handful of writes, and made again from the same card the whole list takes it off.
-- Register writes and refused ones may be among them. `taken_off` assumes a picture of bytes (`Bytes`).
use mathlib.Core.Path.{◌≡◌, refl, ap, ap₂, sym, subst, ◌∙◌}
use mathlib.Core.Bool.{Bool, true, false}
use mathlib.Core.List.{List, [], ◌∷◌}
use mathlib.Core.Logic.{◌⊎◌, inl, inr}
use Prim.Native.Nat.{ℕ, ◌<◌}
use native.Mathlib.Decide.{dec_lt}
use native.Mathlib.Omega.{arith}
use lib.Dec.{T}
use lib.ListN.{length}
use borrow.Author.Tests.{ne_eqb}
use Rattle.raster.specs.Pixel.{composite, result, number, bit}
use Rattle.raster.specs.Operations.{restoring}
use Rattle.raster.proofs.Operations.{undoes_itself}
use Rattle.span.specs.Fragments.{Fragment, Bytes}
use Rattle.span.specs.Layers.{drawn_all, changed_all}
use Rattle.span.proofs.Changed.{changed_all_alike}
use Rattle.span.proofs.Layers.{Restores, drawn_all_restores, drawn_all_swap}
use Rattle.card.specs.declared.Card.{Card}
use Rattle.card.specs.declared.Write.{Write}
use Rattle.rules.specs.Refusal.{refusal}
use Rattle.rules.specs.Writes.{count, layers, in_block_mode, operation, picture, changed, next}
use Rattle.rules.specs.Sequences.{card_after, picture_after, answers_of, obeys, EachUndoable}
use Rattle.demands.proofs.Changed.{within, picture-bytes}
use Rattle.demands.proofs.Demand1.{same_length}
use Rattle.demands.proofs.Demand3.{obeying}
use Rattle.demands.proofs.Quiet.{none-drawn, next_blind}

-- a draw that undoes itself: an operation that restores, and the layers that it draws
record Draw : Type 0 where
  op : ℕ
  fs : List (ℕ → Fragment)
  restores : Restores op

unfoldable drawing : List Draw → List ℕ → List ℕ
drawing [] v = v
drawing (d ∷ ds) v = drawing ds (drawn_all d.op d.fs v)

drawing-past : (d : Draw) (ds : List Draw) (v : List ℕ) → drawn_all d.op d.fs (drawing ds v) ≡ drawing ds (drawn_all d.op d.fs v)
unfolding drawing
drawing-past d [] v = refl
drawing-past d (e ∷ ds) v =
    drawing-past d ds (drawn_all e.op e.fs v) ∙ ap (drawing ds) (drawn_all_swap e.op d.op d.fs e.fs v e.restores d.restores)

-- such draws, made one after the other and then all again, cancel
drawing_twice : (ds : List Draw) (v : List ℕ) → Bytes v → drawing ds (drawing ds v) ≡ v
unfolding drawing
drawing_twice [] v b = refl
drawing_twice (d ∷ ds) v b =
    ap (drawing ds) (drawing-past d ds (drawn_all d.op d.fs v) ∙ ap (drawing ds) (drawn_all_restores d.op d.fs v d.restores b))
    ∙ drawing_twice ds v b

five : Restores 5
unfolding composite result number bit
five = refl

below : (op : ℕ) → T (restoring op) → op < 16
below op t = go (dec_lt op 16)
  where
    go : Dec (op < 16) → op < 16
    go (yes h) = h
    go (no h) =
        let none : restoring op ≡ false
        = simp (ne_eqb op 5 (λ e. omega arith), ne_eqb op 6 (λ e. omega arith), ne_eqb op 9 (λ e. omega arith), ne_eqb op 10 (λ e. omega arith))
        in absurd (subst (λ (b : Bool). T b) none t)

by_register : (c : Card) (w : Write) → obeys c w ≡ true → operation c w ≡ c.registers.raster
unfolding operation
by_register c w o = rw (obeying (in_block_mode c w) o)

-- an undoable write is such a draw, whatever the picture
draw_of : (c : Card) (w : Write) (n : ℕ) → (count c w n ≡ 0) ⊎ (T (restoring c.registers.raster) × (obeys c w ≡ true)) → Draw
draw_of c w n (inl e) = record { op = 5; fs = []; restores = five }
draw_of c w n (inr (t, o)) =
    record { op = c.registers.raster; fs = layers c w n; restores = (undoes_itself c.registers.raster (below c.registers.raster t)).1 t }

draw_shows : (c : Card) (w : Write) (n : ℕ) (u : (count c w n ≡ 0) ⊎ (T (restoring c.registers.raster) × (obeys c w ≡ true))) (v : List ℕ) → length v ≡ n
    → picture c w v ≡ drawn_all (draw_of c w n u).op (draw_of c w n u).fs v
unfolding picture drawn_all draw_of
draw_shows c w n (inl e) v l = none-drawn c w v (ap (λ (k : ℕ). count c w k) l ∙ e)
draw_shows c w n (inr (t, o)) v l = ap₂ (λ (op k : ℕ). drawn_all op (layers c w k) v) (by_register c w o) l

-- and changes as many pixels on every picture of one length
draw_changes : (c : Card) (w : Write) (n : ℕ) → (count c w n ≡ 0) ⊎ (T (restoring c.registers.raster) × (obeys c w ≡ true)) → (v v' : List ℕ) → length v ≡ n
    → length v' ≡ n → Bytes v → Bytes v' → changed c w v' ≡ changed c w v
unfolding changed
draw_changes c w n (inl e) v v' l l' b b' =
    omega (arith, within c w v, within c w v', e, ap (λ (k : ℕ). count c w k) l, ap (λ (k : ℕ). count c w k) l')
draw_changes c w n (inr (t, o)) v v' l l' b b' =
    ap₂ (λ (op k : ℕ). changed_all op (layers c w k) v') (by_register c w o) l'
    ∙ (changed_all_alike c.registers.raster ((undoes_itself c.registers.raster (below c.registers.raster t)).1 t) (layers c w n) v v' (l' ∙ sym l) b b'
    ∙ sym (ap₂ (λ (op k : ℕ). changed_all op (layers c w k) v) (by_register c w o) l))

draws : (ws : List Write) (c : Card) (v : List ℕ) → EachUndoable ws c v → List Draw
draws [] c v u = []
draws (w ∷ ws) c v (u, us) = draw_of c w (length v) u.drawing ∷ draws ws (next c w v) (picture c w v) us

after_bytes : (ws : List Write) (c : Card) (v : List ℕ) → Bytes v → Bytes (picture_after ws c v)
unfolding picture_after
after_bytes [] c v b = b
after_bytes (w ∷ ws) c v b = after_bytes ws (next c w v) (picture c w v) (picture-bytes c w v b)

-- from one card the list makes the same draws, the same answers and the same card on every picture of that length
record Same (ws : List Write) (c : Card) (v v' : List ℕ) (u : EachUndoable ws c v) : Type 0 where
  shows : picture_after ws c v' ≡ drawing (draws ws c v u) v'
  answers : answers_of ws c v' ≡ answers_of ws c v
  leaves : card_after ws c v' ≡ card_after ws c v
  sized : length (picture_after ws c v') ≡ length v'

same : (ws : List Write) (c : Card) (v v' : List ℕ) (u : EachUndoable ws c v) → length v' ≡ length v → Bytes v → Bytes v' → Same ws c v v' u
unfolding picture_after answers_of card_after drawing draws
same [] c v v' u l b b' = record { shows = refl; answers = refl; leaves = refl; sized = refl }
same (w ∷ ws) c v v' (u, us) l b b' =
    let n : next c w v' ≡ next c w v = sym (next_blind c w v v' (sym l) u.reading) in
    let i = same ws (next c w v) (picture c w v) (picture c w v') us (same_length c w v' ∙ (l ∙ sym (same_length c w v))) (picture-bytes c w v b) (picture-bytes c w v' b') in
    record {
      shows = ap (λ (x : Card). picture_after ws x (picture c w v')) n
          ∙ (i.shows ∙ ap (drawing (draws ws (next c w v) (picture c w v) us)) (draw_shows c w (length v) u.drawing v' l));
      answers = ap₂ (λ (k : ℕ) (x : Card). (refusal c w k, count c w k, changed c w v') ∷ answers_of ws x (picture c w v')) l n
          ∙ ap₂ (λ (m : ℕ) (rest : List (ℕ × ℕ × ℕ)). (refusal c w (length v), count c w (length v), m) ∷ rest)
          (draw_changes c w (length v) u.drawing v v' refl l b b') i.answers;
      leaves = ap (λ (x : Card). card_after ws x (picture c w v')) n ∙ i.leaves;
      sized = ap (λ (x : Card). length (picture_after ws x (picture c w v'))) n ∙ (i.sized ∙ same_length c w v');
    }

-- a list of undoable writes, made from a card and then again from that same card, restores every picture; number, count and pixels changed of each write, and
-- the card that is left, are the same both times
pub record TakenOff (ws : List Write) (c : Card) (v : List ℕ) : Type 0 where
  pub restored : picture_after ws c (picture_after ws c v) ≡ v
  pub answers : answers_of ws c (picture_after ws c v) ≡ answers_of ws c v
  pub leaves : card_after ws c (picture_after ws c v) ≡ card_after ws c v

pub taken_off : (ws : List Write) (c : Card) (v : List ℕ) → Bytes v → EachUndoable ws c v → TakenOff ws c v
taken_off ws c v b u =
    let once = same ws c v v u refl b b in
    let again = same ws c v (picture_after ws c v) u once.sized b (after_bytes ws c v b) in
    record {
      restored = again.shows ∙ (ap (drawing (draws ws c v u)) once.shows ∙ drawing_twice (draws ws c v u) v b);
      answers = again.answers;
      leaves = again.leaves;
    }
