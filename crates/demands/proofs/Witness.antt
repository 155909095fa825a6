-- Demand 3, the last clause: each operation but 5, 6, 9 and 10 has an accepted draw in simple mode that made twice does not restore.
-- One test over all sixteen operations, which antt computes. `restores_exactly` speaks of pictures of bytes (`Bytes`).
use mathlib.Core.Path.{◌≡◌, refl, ap, sym, subst}
use mathlib.Core.Bool.{Bool, true, false, cond, not, ◌&&◌, ◌||◌}
use mathlib.Core.List.{List}
use mathlib.Core.Logic.{◌↔◌}
use Prim.Native.Nat.{ℕ, ◌/◌, ◌%◌, ◌<◌}
use lib.Dec.{T, T_not, eqb, eqb→eq, eqb_refl, lit<}
use lib.ListN.{length, get_or, replicate, get_or-replicate}
use Rattle.raster.specs.Pixel.{bit, number, result, made}
use Rattle.raster.specs.Operations.{restoring}
use Rattle.raster.proofs.Below.{all_below, all_are_below, left, right}
use Rattle.span.specs.Fragments.{Bytes, byte, from, before, drawn}
use Rattle.card.specs.declared.Card.{Card}
use Rattle.span.specs.Layers.{drawn_all}
use Rattle.card.specs.declared.Write.{Write}
use Rattle.card.specs.Registers.{row_at, row_in, table}
use Rattle.card.specs.Reset.{reset_card}
use Rattle.span.specs.Spans.{spanned}
use Rattle.rules.specs.Modes.{mode_of, frame_span, effective_by}
use Rattle.rules.specs.Lines.{walks, spans_of}
use Rattle.rules.specs.Refusal.{bad_length, bad_space, bad_lanes, no_register, bad_mode, bad_raster, off_boundary, outside, unloaded, wild_walk, no_line, refusal}
use Rattle.rules.specs.Writes.{operation, layers, picture}
use Rattle.rules.specs.declared.Mode.TheVariants.{Simple}
use Rattle.rules.specs.Sequences.{with_operation, drawn_with, obeys}
use Rattle.demands.proofs.Demand3.{restores}

-- with source bits 1 the operation gives one bit for both old bits, or with source bits 0 it does: that source, and the other bit
abbrev flat : ℕ → Bool
flat op = eqb (op % 4) 0 || eqb (op % 4) 3

abbrev draw : ℕ → Write
draw op = record { space = 0; lanes = 15; address = 0; «data» = cond (flat op) 4294967295 0 }

abbrev old : ℕ → ℕ
old op = cond (eqb (cond (flat op) (op % 4) (op / 4)) 0) 255 0

abbrev screen : ℕ → List ℕ
screen op = replicate 64 (old op)

-- the screen after the draw, made twice
abbrev twice : ℕ → List ℕ
twice op = drawn_with op (reset_card 0) (draw op) (drawn_with op (reset_card 0) (draw op) (screen op))

abbrev fails : ℕ → Bool
fails op = restoring op || (eqb (refusal (with_operation op (reset_card 0)) (draw op) 64) 0 && not (eqb (get_or (twice op) 0 0) (old op)))

every_op : T (all_below 16 fails)
unfolding refusal bad_length bad_space bad_lanes no_register bad_mode bad_raster off_boundary outside unloaded wild_walk no_line walks mode_of frame_span spans_of spanned effective_by picture layers operation reset_card row_at row_in table byte from before drawn drawn_all made number result bit
every_op = tt

second : (a b : Bool) → (T a → ⊥) → T (a || b) → T b
second true b n t = absurd (n tt)
second false b n t = t

-- the card at reset with that operation in it is in simple mode; on it the frame write is accepted, and made twice it leaves another picture
pub record Witnessed (op : ℕ) : Type 0 where
  pub simple : mode_of (with_operation op (reset_card 0)).registers.mode ≡ Simple
  pub frame : (draw op).space ≡ 0
  pub accepted : refusal (with_operation op (reset_card 0)) (draw op) (length (screen op)) ≡ 0
  pub differs : twice op ≡ screen op → ⊥

pub witness : (op : ℕ) → op < 16 → (T (restoring op) → ⊥) → Witnessed op
unfolding reset_card mode_of row_at row_in table
witness op h n =
    let t = second (restoring op) _ n (all_are_below 16 fails every_op op h) in
    record {
      simple = refl;
      frame = refl;
      accepted = eqb→eq _ 0 (left (eqb (refusal (with_operation op (reset_card 0)) (draw op) 64) 0) _ t);
      differs = λ e.
          T_not (eqb (get_or (twice op) 0 0) (old op)) (right (eqb (refusal (with_operation op (reset_card 0)) (draw op) 64) 0) _ t)
          (subst (λ (x : ℕ). T (eqb x (old op))) (sym (ap (λ (u : List ℕ). get_or u 0 0) e)) (eqb_refl (old op)));
    }

screen_bytes : (op : ℕ) → Bytes (screen op)
screen_bytes op i h = rw (get_or-replicate 64 i (old op) 0 h) (small (eqb (cond (flat op) (op % 4) (op / 4)) 0))
  where
    small : (b : Bool) → cond b 255 0 < 256
    small true = lit< tt
    small false = lit< tt

simple_obeys : (op : ℕ) → obeys (reset_card 0) (draw op) ≡ true
unfolding reset_card mode_of row_at row_in table
simple_obeys op = refl

-- an operation restores every picture, on every card, for every draw that obeys it, exactly when it is 5, 6, 9 or 10
pub restores_exactly : (op : ℕ) → op < 16
    → ((c : Card) (w : Write) (v : List ℕ) → Bytes v → obeys c w ≡ true → drawn_with op c w (drawn_with op c w v) ≡ v) ↔ T (restoring op)
restores_exactly op h = (λ all. go all (restoring op) refl, restores op h)
  where
    go : ((c : Card) (w : Write) (v : List ℕ) → Bytes v → obeys c w ≡ true → drawn_with op c w (drawn_with op c w v) ≡ v)
        → (b : Bool) → restoring op ≡ b → T b
    go all true e = tt
    go all false e =
        (witness op h (λ t. subst (λ (x : Bool). T x) e t)).differs (all (reset_card 0) (draw op) (screen op) (screen_bytes op) (simple_obeys op))
