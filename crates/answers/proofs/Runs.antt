-- The offset of the unread part fits 32 bits, and stands for the part of the definitions. Assumes nothing.
use mathlib.Core.Path.{◌≡◌, ap}
use mathlib.Core.List.{List}
use Prim.Native.Nat.{ℕ, ◌*◌, ◌^◌, ◌<◌}
use native.Mathlib.Omega.{arith}
use lib.ListN.{drop}
use Rattle.card.specs.declared.Card.{Card}
use Rattle.trace.specs.Run.{State, outcome_of, run, unread}
use Rattle.rules.specs.Numbers.{told_by}
use Rattle.trace.specs.declared.Ran.{Ran}
use Rattle.trace.proofs.Demands.{outcome}
use Rattle.answers.specs.Answers.{Replayed}

module _ (part : List ℕ) (budget : ℕ) (c : Card) (v : List ℕ) (r : Ran) {c' : Card} {v' : List ℕ} (e : outcome_of r c' v' ≡ run part budget c v) where
  pub rest_fits : 12 * r.applied < 2 ^ 32
  rest_fits = omega (arith, (outcome part budget c v).within-largest, ap (λ (s : State). s.applied) e)

  -- what a run answers, with the offset of its unread part
  pub replayed : Replayed part budget c v (record { number = told_by r.refused; entries = r.applied; pixels = r.pixels; changed = r.changed; rest = 12 * r.applied }) c' v'
  unfolding unread
  replayed =
      record {
        number = ap (λ (s : State). s.number) e;
        entries = ap (λ (s : State). s.applied) e;
        pixels = ap (λ (s : State). s.pixels) e;
        changes = ap (λ (s : State). s.changed) e;
        rest = ap (λ (s : State). 12 * s.applied) e;
        unreads = ap (λ (s : State). drop (12 * s.applied) part) e;
        leaves = ap (λ (s : State). s.card) e;
        shows = ap (λ (s : State). s.picture) e;
      }
