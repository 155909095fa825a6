-- One turn of the loop of `run`: what is left of the entries, run from the state now, gives what the whole gives. Assumes nothing.
use mathlib.Core.Path.{◌≡◌, refl, ap, sym, ◌∙◌}
use mathlib.Core.Bool.{true, false}
use mathlib.Core.List.{List, [], ◌∷◌}
use Prim.Native.Nat.{ℕ, suc, ◌+◌, ◌-◌, ◌*◌, ◌≤◌, ◌<◌}
use native.Mathlib.Omega.{arith}
use lib.ListN.{length}
use Rattle.card.specs.declared.Card.{Card}
use Rattle.card.specs.declared.Write.{Write}
use Rattle.std.proofs.Common.{Result, Ok, Err, None, min}
use native.Mathlib.Decide.{dec_lt}
use Rattle.span.specs.declared.Tally.{Tally}
use Rattle.rules.specs.Numbers.{number_of, tally_of}
use Rattle.rules.specs.declared.Refusal.{Refusal}
use Rattle.rules.proofs.Numbers.{some_number}
use Rattle.rules.specs.Refusal.{bad_length}
use Rattle.engine.specs.Contract.{Written}
use Rattle.demands.proofs.Changed.{within}
use Rattle.demands.proofs.Counting.{count_bound}
use Rattle.demands.proofs.Demand1.{same_length}
use Rattle.rules.proofs.Outcome.{next_refused, picture_refused}
use Rattle.format.specs.Traces.{largest, write_at, entry_at, writes_at, entry_count, writes, well_formed}
use Rattle.format.proofs.Inside.{inside}
use Rattle.format.proofs.Tested.{formed}
use Rattle.trace.specs.declared.Ran.{Ran}
use Rattle.trace.specs.Run.{State, outcome_of, answer, apply, refuse, ran, run}
use Rattle.trace.proofs.Runs.{ran_refused, ran-applied, run_good}

-- accepted so far
abbrev pub standing : ℕ → ℕ → ℕ → Card → List ℕ → State
standing applied pixels changed c v = record { number = 0; applied = applied; pixels = pixels; changed = changed; card = c; picture = v }

-- what is left of n entries and of the budget, from entry i on
abbrev pub remaining : List ℕ → ℕ → ℕ → ℕ → State → State
remaining part n budget i s = ran (writes_at part (12 * i) (n - i)) (budget - i) s

-- before the first entry
pub all_left : (part : List ℕ) (budget : ℕ) (c : Card) (v : List ℕ) → well_formed part ≡ true → bad_length (length v) ≡ false
    → remaining part (entry_count part) budget 0 (standing 0 0 0 c v) ≡ run part budget c v
unfolding writes
all_left part budget c v d e =
    let all : entry_count part - 0 ≡ entry_count part = omega arith in
    let whole : budget - 0 ≡ budget = omega arith in
    cc (all, whole) ∙ sym (run_good part budget c v d e)

-- nothing is left of the one or of the other
pub all_done : (part : List ℕ) (n budget i : ℕ) (s : State) → min n budget ≤ i → s ≡ remaining part n budget i s
unfolding ran writes_at
all_done part n budget i s h = go (dec_lt i n)
  where
    spent : (ws : List Write) → s ≡ ran ws 0 s
    spent [] = refl
    spent (w ∷ ws) = refl

    go : Dec (i < n) → s ≡ remaining part n budget i s
    go (yes more) = let e : budget - i ≡ 0 = omega arith in rw e (spent (writes_at part (12 * i) (n - i)))
    go (no none) = let e : n - i ≡ 0 = omega arith in rw e

-- entry i lies inside the part
pub read_inside : (part : List ℕ) (budget i : ℕ) {w : Write} → i < min (entry_count part) budget → w ≡ entry_at part (12 * i) → w ≡ write_at part (12 * i)
read_inside part budget i h e = e ∙ inside part (12 * i) (omega arith)

-- no more pixels are changed than counted, after one write more
pub turn_changed : {c : Card} {w : Write} {v : List ℕ} {r : Result Tally Refusal} {c' : Card} {v' : List ℕ} → Written c w v r c' v'
    → (pixels changed : ℕ) → changed ≤ pixels → changed + (tally_of r).changed ≤ pixels + (tally_of r).enabled
turn_changed {c} {w} {v} done pixels changed h = omega (arith, done.counts, done.changes, within c w v)

-- where the loop stands before entry i: every entry before it was accepted
pub record Going (part : List ℕ) (n budget i : ℕ) (c₀ : Card) (v₀ : List ℕ) (r : Ran) (c : Card) (v : List ℕ) : Type 0 where
  pub few : n ≤ largest
  pub accepted : r.refused ≡ None
  pub applied : r.applied ≡ i
  pub size : length v ≡ length v₀
  pub pixels : r.pixels ≤ 2048 * i
  pub changed : r.changed ≤ r.pixels
  pub left : remaining part n budget i (outcome_of r c v) ≡ run part budget c₀ v₀

pub begins : (part : List ℕ) (budget : ℕ) (c : Card) (v : List ℕ) → well_formed part ≡ true → bad_length (length v) ≡ false
    → Going part (entry_count part) budget 0 c v (record { refused = None; applied = 0; pixels = 0; changed = 0 }) c v
begins part budget c v d e =
    record { few = (formed part d).few; accepted = refl; applied = refl; size = refl; pixels = omega arith; changed = omega arith; left = all_left part budget c v d e }

module _ {part : List ℕ} {n budget i : ℕ} {c₀ : Card} {v₀ : List ℕ} {r : Ran} {c : Card} {v : List ℕ} (g : Going part n budget i c₀ v₀ r c v) where
  pub ends : min n budget ≤ i → outcome_of r c v ≡ run part budget c₀ v₀
  ends h = all_done part n budget i (outcome_of r c v) h ∙ g.left

  module _ (more : i < min n budget) {w : Write} (reads : w ≡ write_at part (12 * i)) where
    head : remaining part n budget i (outcome_of r c v) ≡ ran (w ∷ writes_at part (12 * i + 12) (n - (i + 1))) (suc (budget - (i + 1))) (outcome_of r c v)
    unfolding writes_at
    head =
        let e : n - i ≡ suc (n - (i + 1)) = omega arith in
        let f : budget - i ≡ suc (budget - (i + 1)) = omega arith in
        rw (e, f, reads)

    pub turn_refused : {e : Refusal} {c' : Card} {v' : List ℕ} → Written c w v (Err e) c' v'
        → record { number = number_of e; applied = r.applied; pixels = r.pixels; changed = r.changed; card = c'; picture = v' } ≡ run part budget c₀ v₀
    unfolding refuse
    turn_refused {e} done =
        let refuses : answer (outcome_of r c v) w ≡ 0 → ⊥ = λ q. some_number e (done.number ∙ q) in
        cc (done.number, done.leaves ∙ next_refused c w v refuses, done.shows ∙ picture_refused c w v refuses)
        ∙ sym (head ∙ ran_refused w _ _ (outcome_of r c v) refuses) ∙ g.left

    pub turn_applied : {t : Tally} {c' : Card} {v' : List ℕ} → Written c w v (Ok t) c' v'
        → Going part n budget (i + 1) c₀ v₀ (record { refused = r.refused; applied = r.applied + 1; pixels = r.pixels + t.enabled; changed = r.changed + t.changed }) c' v'
    unfolding apply
    turn_applied done =
        let next : 12 * (i + 1) ≡ 12 * i + 12 = omega arith in
        record {
          few = g.few;
          accepted = g.accepted;
          applied = omega arith;
          size = ap length done.shows ∙ same_length c w v ∙ g.size;
          pixels = omega (arith, done.counts, count_bound c w (length v));
          changed = turn_changed done r.pixels r.changed g.changed;
          left = cc (next, done.counts, done.changes, done.leaves, done.shows, g.accepted)
              ∙ sym (head ∙ ran-applied w _ _ (outcome_of r c v) (sym done.number)) ∙ g.left;
        }
