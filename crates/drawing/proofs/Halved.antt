-- The whole copy buffer, drawn in two halves: the lower half and then the upper half are the whole. Assumes that it lies inside the picture.
use mathlib.Core.Path.{◌≡◌, refl, ap, ap₂, sym, ◌∙◌}
use mathlib.Core.List.{List}
use Prim.Native.Nat.{ℕ, ◌+◌, ◌≤◌}
use native.Mathlib.Omega.{arith}
use lib.ListN.{length}
use Rattle.span.specs.Fragments.{drawn, differing}
use Rattle.span.specs.Spans.{spanned, enabled_in, piece}
use Rattle.span.specs.Strokes.{Drew, Draws}
use Rattle.span.specs.declared.Strokes.{Strokes}
use Rattle.span.specs.declared.Tally.{Tally}
use Rattle.span.proofs.Changed.{differing-within}
use Rattle.span.proofs.Counted.{counted_le}
use Rattle.span.proofs.Drawn.{drawn-length}
use Rattle.span.proofs.Spans.{drew, cut_shows, cut_counts, cut_changes}
use Rattle.card.specs.declared.Card.{Card}
use Rattle.rules.specs.Modes.{effective}
use Rattle.plan.specs.Plan.{planned}
use Rattle.plan.specs.declared.Plan.{Plan}
use Rattle.drawing.specs.Contract.{CarriedOut}

module _ (p : Plan) (c : Card) (v : List ℕ) (inside : p.first + p.width ≤ length v) (wide : p.width ≡ 64) {s t : Strokes} {r q : Tally} {u w : List ℕ}
    (low : Draws s p.op (effective c) (piece 0 32 (planned p c))) (lower : Drew s p.first v r u)
    (high : Draws t p.op (effective c) (piece 32 32 (planned p c))) (upper : Drew t (p.first + 32) u q w) where
  first : (u ≡ drawn p.op (spanned (effective c) (piece 0 32 (planned p c))) v) × (r.enabled ≡ enabled_in (piece 0 32 (planned p c))) × (r.changed ≡ differing v u)
  first = drew s p.op (effective c) (piece 0 32 (planned p c)) low p.first v lower (omega arith) (omega arith)

  second : (w ≡ drawn p.op (spanned (effective c) (piece 32 32 (planned p c))) u) × (q.enabled ≡ enabled_in (piece 32 32 (planned p c))) × (q.changed ≡ differing u w)
  second =
      let n : length u ≡ length v = ap length first.0 ∙ drawn-length p.op _ v in
      drew t p.op (effective c) (piece 32 32 (planned p c)) high (p.first + 32) u upper refl (omega (arith, n))

  -- each half counts at most its 32 pixels
  pub few_enabled : (r.enabled ≤ 32) × (q.enabled ≤ 32)
  few_enabled = (
    omega (arith, first.1, counted_le 32 (piece 0 32 (planned p c)).on),
    omega (arith, second.1, counted_le 32 (piece 32 32 (planned p c)).on),
  )

  pub few_changed : (r.changed ≤ 32) × (q.changed ≤ 32)
  few_changed = (
    omega (
      arith,
      first.2 ∙ ap (differing v) first.0,
      differing-within p.op (effective c) (piece 0 32 (planned p c)) v,
      counted_le 32 (piece 0 32 (planned p c)).on,
    ),
    omega (
      arith,
      second.2 ∙ ap (differing u) second.0,
      differing-within p.op (effective c) (piece 32 32 (planned p c)) u,
      counted_le 32 (piece 32 32 (planned p c)).on,
    ),
  )

  pub whole : CarriedOut p c v (record { enabled = r.enabled + q.enabled; changed = r.changed + q.changed }) w
  whole =
      let e : 32 + 32 ≡ p.width = omega arith in
      let l : w ≡ drawn p.op (spanned (effective c) (piece 32 32 (planned p c))) (drawn p.op (spanned (effective c) (piece 0 32 (planned p c))) v)
      = second.0 ∙ ap (drawn p.op (spanned (effective c) (piece 32 32 (planned p c)))) first.0
      in record {
        shows = l ∙ cut_shows (planned p c) 32 32 e p.op (effective c) v;
        counts = ap₂ (λ (m n : ℕ). m + n) first.1 second.1 ∙ cut_counts (planned p c) 32 32 e;
        changes = ap₂ (λ (m n : ℕ). m + n) first.2 second.2
            ∙ (ap₂ (λ (x y : List ℕ). differing v x + differing x y) first.0 l
            ∙ (cut_changes (planned p c) 32 32 e p.op (effective c) v ∙ ap (differing v) (sym l)));
      }
