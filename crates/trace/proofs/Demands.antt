-- Demands 1 and 2 over traces. What was drawn before a refused entry stays: the picture and the card are those of the entries
-- applied, and the unread part begins there. The held planes keep every bit through any run, from any card and from any reset.
-- Assumes nothing.
use mathlib.Core.Path.{◌≡◌, refl, ap, sym, ◌∙◌}
use mathlib.Core.Bool.{Bool, true, false}
use mathlib.Core.List.{List, [], ◌∷◌}
use Prim.Native.Nat.{ℕ, suc, ◌+◌, ◌*◌, ◌≤◌, ◌<◌}
use native.Mathlib.Nat.{zero-add}
use native.Mathlib.Omega.{arith}
use lib.ListN.{length, get_or, take, drop, drop_of_length-le}
use Rattle.raster.specs.Pixel.{bit}
use Rattle.card.specs.declared.Card.{Card}
use Rattle.card.specs.declared.Write.{Write}
use Rattle.card.specs.Reset.{reset_card}
use Rattle.rules.specs.Refusal.{bad_length, refusal}
use Rattle.rules.specs.Sequences.{card_after, picture_after}
use Rattle.demands.proofs.Changed.{within}
use Rattle.demands.proofs.Counting.{count_bound}
use Rattle.demands.proofs.Demand1.{answered}
use Rattle.demands.proofs.Demand2.{held_through, held_chosen}
use Rattle.format.specs.Traces.{largest, entry_size, entry_count, writes, well_formed}
use Rattle.format.proofs.Tested.{Formed, formed}
use Rattle.format.proofs.Encoding.{length-writes}
use Rattle.trace.specs.Run.{State, nothing, apply, refuse, ran, run, most_pixels, unread}
use Rattle.trace.proofs.Remaining.{left-writes}
use Rattle.trace.proofs.Runs.{Runs, ends, spent, refused, applied, runs, steps, counts, runs_within_budget, runs_within_entries, run-malformed, run_bad, run_good}

-- the picture and the card of the entries applied
runs_shows : {ws : List Write} {b k : ℕ} {s r : State} → Runs ws b s k r → r.picture ≡ picture_after (take k ws) s.card s.picture
unfolding picture_after apply refuse
runs_shows ends = refl
runs_shows spent = refl
runs_shows (refused n) = refl
runs_shows (applied e p) = runs_shows p

runs_leaves : {ws : List Write} {b k : ℕ} {s r : State} → Runs ws b s k r → r.card ≡ card_after (take k ws) s.card s.picture
unfolding card_after apply refuse
runs_leaves ends = refl
runs_leaves spent = refl
runs_leaves (refused n) = refl
runs_leaves (applied e p) = runs_leaves p

-- each entry draws at most 2,048 pixels
pixels_bound : {ws : List Write} {b k : ℕ} {s r : State} → Runs ws b s k r → r.pixels ≤ s.pixels + 2048 * k
unfolding apply refuse
pixels_bound ends = omega arith
pixels_bound spent = omega arith
pixels_bound (refused n) = omega arith
pixels_bound (applied {w = w} {s = s} e p) = omega (arith, pixels_bound p, count_bound s.card w (length s.picture))

-- and changes no more than it draws
changed_bound : {ws : List Write} {b k : ℕ} {s r : State} → s.changed ≤ s.pixels → Runs ws b s k r → r.changed ≤ r.pixels
unfolding apply refuse
changed_bound h ends = h
changed_bound h spent = h
changed_bound h (refused n) = h
changed_bound h (applied {w = w} {s = s} e p) = changed_bound (omega (arith, within s.card w s.picture)) p

-- a number from the engine
runs_number : {ws : List Write} {b k : ℕ} {s r : State} → s.number ≡ 0 → Runs ws b s k r → r.number ≤ 13
unfolding apply refuse
runs_number z ends = omega arith
runs_number z spent = omega arith
runs_number z (refused {w = w} {s = s} n) = answered s.card w (length s.picture)
runs_number z (applied e p) = runs_number refl p

-- how a run ends: the budget or the entries ended, or the first entry that is left was refused, and its number is the answer
data Ended (b n : ℕ) (left : List Write) (k : ℕ) (r : State) : Type 0 where
  budget_ends : r.number ≡ 0 → k ≡ b → Ended b n left k r
  entries_end : r.number ≡ 0 → k ≡ n → Ended b n left k r
  refuses : {w : Write} {rest : List Write} → left ≡ w ∷ rest → r.number ≡ refusal r.card w (length r.picture) → (r.number ≡ 0 → ⊥) → Ended b n left k r

ends_so : {ws : List Write} {b k : ℕ} {s r : State} → s.number ≡ 0 → Runs ws b s k r → Ended b (length ws) (drop k ws) k r
unfolding apply refuse
ends_so z ends = entries_end z refl
ends_so z spent = budget_ends z refl
ends_so z (refused n) = refuses refl refl n
ends_so z (applied e p) = one_more (ends_so refl p)
  where
    one_more : {b n k : ℕ} {left : List Write} {r : State} → Ended b n left k r → Ended (suc b) (suc n) left (suc k) r
    one_more (budget_ends y f) = budget_ends y (ap suc f)
    one_more (entries_end y f) = entries_end y (ap suc f)
    one_more (refuses f g h) = refuses f g h

-- what holds of every run
pub record Outcome (part : List ℕ) (b : ℕ) (c : Card) (v : List ℕ) (s : State) : Type 0 where
  -- demand 1: at most 13
  pub number : s.number ≤ 13
  -- never above the budget, the part or the largest number
  pub within_budget : s.applied ≤ b
  pub within_part : entry_size * s.applied ≤ length part
  pub within-largest : s.applied ≤ largest
  -- the total never exceeds 134,217,728
  pub total : s.pixels ≤ most_pixels
  -- those changed never exceed the pixels
  pub changes : s.changed ≤ s.pixels
  -- demand 1: picture and card are those of the entries applied
  pub shows : s.picture ≡ picture_after (take s.applied (writes part)) c v
  pub leaves : s.card ≡ card_after (take s.applied (writes part)) c v

nothing-drawn : (part : List ℕ) (b : ℕ) (c : Card) (v : List ℕ) (n : ℕ) → n ≤ 13 → Outcome part b c v (nothing n c v)
unfolding picture_after card_after
nothing-drawn part b c v n h =
    record {
      number = h;
      within_budget = omega arith;
      within_part = omega arith;
      within-largest = omega arith;
      total = omega arith;
      changes = omega arith;
      shows = refl;
      leaves = refl;
    }

-- where a run that passed the checks 10 and 1 stops at s, and what part u it leaves unread
pub data Stops (part : List ℕ) (b : ℕ) (s : State) (u : List ℕ) : Type 0 where
  -- at a refused entry, whose number is the answer: u begins at that entry
  at_refused : {w : Write} {rest : List Write} → writes u ≡ w ∷ rest → s.number ≡ refusal s.card w (length s.picture) → (s.number ≡ 0 → ⊥) → Stops part b s u
  -- where the part ends: u is empty
  at_end : s.number ≡ 0 → u ≡ [] → Stops part b s u
  -- where the budget ends: u is the rest
  at_budget : s.number ≡ 0 → s.applied ≡ b → u ≡ drop (entry_size * b) part → Stops part b s u

-- the part u that the scope paper's run, which ends at s, hands back as unread
pub record UnreadPart (part : List ℕ) (b : ℕ) (c : Card) (v : List ℕ) (s : State) (u : List ℕ) : Type 0 where
  -- the part without its first `applied` entries; it has so many
  pub within : entry_size * s.applied ≤ length part
  pub rest : u ≡ drop (entry_size * s.applied) part
  -- where check 10 or 1 fails at the start: nothing is drawn, and u is the whole part
  pub whole_at_10 : well_formed part ≡ false → (s ≡ nothing 10 c v) × (u ≡ part)
  pub whole_at_1 : well_formed part ≡ true → bad_length (length v) ≡ true → (s ≡ nothing 1 c v) × (u ≡ part)
  -- else at a refused entry, the end of the part or that of the budget
  pub stops : well_formed part ≡ true → bad_length (length v) ≡ false → Stops part b s u

module _ (part : List ℕ) (b : ℕ) (c : Card) (v : List ℕ) where
  drawn : Formed part → Outcome part b c v (ran (writes part) b (nothing 0 c v))
  drawn f =
      let ws : List Write = writes part in
      let p = runs ws b (nothing 0 c v) in
      let k : (ran ws b (nothing 0 c v)).applied ≡ steps ws b (nothing 0 c v) = counts p ∙ zero-add _ in
      let few : steps ws b (nothing 0 c v) ≤ entry_count part = omega (arith, runs_within_entries p, length-writes part) in
      record {
        number = omega (arith, runs_number refl p);
        within_budget = omega (arith, runs_within_budget p);
        within_part = omega (arith, f.whole);
        within-largest = omega (arith, f.few);
        total = omega (arith, f.few, pixels_bound p);
        changes = changed_bound (omega arith) p;
        shows = runs_shows p ∙ ap (λ (n : ℕ). picture_after (take n ws) c v) (sym k);
        leaves = runs_leaves p ∙ ap (λ (n : ℕ). card_after (take n ws) c v) (sym k);
      }

  pub outcome : Outcome part b c v (run part b c v)
  outcome = go (well_formed part) (bad_length (length v)) refl refl
    where
      go : (x y : Bool) → well_formed part ≡ x → bad_length (length v) ≡ y → Outcome part b c v (run part b c v)
      go false y d e = rw (run-malformed part b c v d) (nothing-drawn part b c v 10 (omega arith))
      go true true d e = rw (run_bad part b c v d e) (nothing-drawn part b c v 1 (omega arith))
      go true false d e = rw (run_good part b c v d e) (drawn (formed part d))

  -- where the checks 10 and 1 pass, how it ends; the unread part begins at the refused entry
  ended : well_formed part ≡ true → bad_length (length v) ≡ false
      → Ended b (entry_count part) (writes (unread part (run part b c v).applied)) (run part b c v).applied (run part b c v)
  unfolding ran
  ended d e =
      let ws : List Write = writes part in
      let k : ℕ = steps ws b (nothing 0 c v) in
      let p : Runs ws b (nothing 0 c v) k (ran ws b (nothing 0 c v)) = runs ws b (nothing 0 c v) in
      let far : (ran ws b (nothing 0 c v)).applied ≡ k = counts p ∙ zero-add k in
      let within : k ≤ entry_count part = omega (arith, runs_within_entries p, length-writes part) in
      rw (run_good part b c v d e, far, left-writes part (formed part d) k within, ← length-writes part) (ends_so refl p)

  -- what `unread` hands back after a run is the scope paper's unread part, for every part, budget, card and picture
  pub unread_part : UnreadPart part b c v (run part b c v) (unread part (run part b c v).applied)
  unfolding unread
  unread_part =
      record {
        within = outcome.within_part;
        rest = refl;
        whole_at_10 = λ d. let r = run-malformed part b c v d in (r, all r);
        whole_at_1 = λ d e. let r = run_bad part b c v d e in (r, all r);
        stops = λ d e. by_end (formed part d) (ended d e);
      }
    where
      s : State
      s = run part b c v

      u : List ℕ
      u = unread part s.applied

      all : {n : ℕ} → s ≡ nothing n c v → u ≡ part
      all e = ap (λ (r : State). drop (entry_size * r.applied) part) e

      by_end : Formed part → Ended b (entry_count part) (writes u) s.applied s → Stops part b s u
      by_end f (budget_ends z k) = at_budget z k (ap (λ (n : ℕ). drop (entry_size * n) part) k)
      by_end f (entries_end z k) = at_end z (drop_of_length-le part {i = entry_size * s.applied} (omega (arith, f.whole)))
      by_end f (refuses l e n) = at_refused l e n

  -- demand 2: every bit of a held plane is as it was
  pub held_planes : (i k : ℕ) → i < length v → k < 8 → bit c.held k ≡ true → bit (get_or (run part b c v).picture i 0) k ≡ bit (get_or v i 0) k
  held_planes i k h l e = ap (λ (x : List ℕ). bit (get_or x i 0) k) outcome.shows ∙ held_through _ c v i k h l e

  -- and the planes stay held
  pub held_planes_stay : (run part b c v).card.held ≡ c.held
  held_planes_stay = ap (λ (x : Card). x.held) outcome.leaves ∙ held_chosen _ c v

-- from reset on
pub held_from_reset : (planes : ℕ) (part : List ℕ) (b : ℕ) (v : List ℕ) (i k : ℕ) → i < length v → k < 8 → bit planes k ≡ true
    → bit (get_or (run part b (reset_card planes) v).picture i 0) k ≡ bit (get_or v i 0) k
unfolding reset_card
held_from_reset planes part b v i k h l e = held_planes part b (reset_card planes) v i k h l e
