-- What a walk answers, refused or drawn. Assumes nothing.
use mathlib.Core.Path.{◌≡◌, refl, sym, ◌∙◌}
use mathlib.Core.Bool.{Bool, true, false, cond}
use mathlib.Core.List.{List, [], ◌∷◌}
use Prim.Native.Nat.{ℕ}
use lib.Dec.{eqb}
use lib.ListN.{length}
use borrow.Author.Tests.{eq-eqb, ne_eqb}
use Rattle.span.specs.declared.Tally.{Tally}
use Rattle.card.specs.declared.Card.{Card}
use Rattle.card.specs.declared.Write.{Write}
use Rattle.rules.specs.Lines.{start, visit_count, visits, walked, visits_of, line_left, strays, wild, word}
use Rattle.rules.specs.declared.Visit.{Visit}
use Rattle.rules.specs.Numbers.{number_of}
use Rattle.rules.specs.Refusal.{first_holding}
use Rattle.rules.specs.declared.Refusal.{Refusal}
use Rattle.rules.proofs.Numbers.{numbered, some_number}
use Rattle.plan.specs.Plan.{walk_number}
use Rattle.walks.specs.Contract.{Visited, Walked}
use Rattle.rules.specs.declared.Refusal.TheVariants.{NoLine}
use Rattle.std.proofs.Common.{Ok, Err}

module _ (c : Card) (w : Write) (v : List ℕ) where
  -- the walk as the code has it
  module _ (s : Visit) (k : ℕ) (es : s ≡ start c w) (ek : k ≡ visit_count c w) where
    abbrev a : ℕ
    a = c.registers.bresenham1

    abbrev b : ℕ
    b = c.registers.bresenham2

    pub same_visits : visits a b k s ≡ visits_of c w
    unfolding visits_of
    same_visits = rw (es, ek)

    -- what is found of the whole walk: a place outside, or an error
    abbrev judged : ℕ
    judged = first_holding ((8, strays (length v) (visits a b k s)) ∷ (12, wild a b (visits a b k s)) ∷ [])

    either : (x y z : Bool) (n : ℕ) → (n ≡ 0 → ⊥) → n ≡ cond x 8 (cond y 12 0) → n ≡ cond x 8 (cond y 12 (cond z 13 0))
    either true y z n h e = e
    either false true z n h e = e
    either false false z n h e = absurd (h e)

    neither : (x y z : Bool) → ◌≡◌ {A = ℕ} 0 (cond x 8 (cond y 12 0)) → ◌≡◌ {A = ℕ} (cond x 8 (cond y 12 (cond z 13 0))) (cond z 13 0)
    neither true y z e = cc
    neither false true z e = cc
    neither false false z e = refl

    pub refused : (e : Refusal) → number_of e ≡ judged → Walked c w v (Err e) c v
    unfolding walk_number
    refused e n =
        record {
          number = either _ _ (eqb (visit_count c w) 0) _ (some_number e) (rw same_visits at n);
          shows = rw (numbered e);
          counts = rw (numbered e);
          changes = rw (numbered e);
          leaves = rw (numbered e);
        }

    module _ (n : 0 ≡ judged) where
      left_to_count : walk_number c w (length v) ≡ cond (eqb k 0) 13 0
      unfolding walk_number
      left_to_count = neither _ _ _ (rw same_visits at n) ∙ rw ek

      pub had_none : k ≡ 0 → Walked c w v (Err NoLine) c v
      had_none z = record { number = sym (left_to_count ∙ rw (eq-eqb _ _ z)); shows = refl; counts = refl; changes = refl; leaves = refl }

      pub was_drawn : {t : Tally} {v' : List ℕ} → (k ≡ 0 → ⊥) → Visited c w (visits a b k s) v t v' → (e : Visit) → e ≡ walked a b k s
          → Walked c w v (Ok t) (record c { line = record { place = word e.place; error = word e.error; kept = 1 } }) v'
      unfolding line_left
      was_drawn z d e ee =
          record {
            number = sym (left_to_count ∙ rw (ne_eqb _ _ z));
            shows = rw (← same_visits) d.shows;
            counts = rw (← same_visits) d.counts;
            changes = rw (← same_visits) d.changes;
            leaves = rw (ee, es, ek);
          }
