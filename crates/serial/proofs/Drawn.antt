-- One entry drawn by the engine is what `draws` defines. Assumes nothing.
use mathlib.Core.Path.{◌≡◌, ap, sym, ◌∙◌}
use mathlib.Core.List.{List}
use Prim.Native.Nat.{ℕ, ◌+◌}
use Rattle.card.specs.declared.Card.{Card}
use Rattle.card.specs.declared.Write.{Write}
use Rattle.std.proofs.Common.{Ok, Err}
use Rattle.span.specs.declared.Tally.{Tally}
use Rattle.rules.specs.Numbers.{number_of}
use Rattle.rules.specs.declared.Refusal.{Refusal}
use Rattle.rules.proofs.Numbers.{some_number}
use Rattle.engine.specs.Contract.{Written}
use Rattle.rules.proofs.Outcome.{next_refused, picture_refused}
use Rattle.trace.specs.Run.{State, answer, apply, refuse}
use Rattle.line.specs.declared.Reader.{Reader}
use Rattle.line.specs.Serial.{Standing, standing, state_of, counted, draws}
use Rattle.line.proofs.Kept.{one_applied, one_refused}

module _ (r : Reader) (c : Card) (w : Write) (v : List ℕ) where
  abbrev before : State
  before = state_of (standing r c v)

  -- where the reading stands after an entry that left the run at t
  abbrev lands : State → Standing
  lands t = standing (counted t r) t.card t.picture

  pub drew_refused : {e : Refusal} {c' : Card} {v' : List ℕ} → Written c w v (Err e) c' v'
      → lands (record { number = number_of e; applied = r.applied; pixels = r.pixels; changed = r.changed; card = c'; picture = v' }) ≡ draws w (standing r c v)
  unfolding draws refuse
  drew_refused {e} done =
      let refuses : answer before w ≡ 0 → ⊥ = λ q. some_number e (done.number ∙ q) in
      cc (done.number, done.leaves ∙ next_refused c w v refuses, done.shows ∙ picture_refused c w v refuses) ∙ ap lands (sym (one_refused w before refuses))

  pub drew_applied : {t : Tally} {c' : Card} {v' : List ℕ} → Written c w v (Ok t) c' v'
      → lands (record { number = 0; applied = r.applied + 1; pixels = r.pixels + t.enabled; changed = r.changed + t.changed; card = c'; picture = v' })
      ≡ draws w (standing r c v)
  unfolding draws apply
  drew_applied done =
      cc (done.counts, done.changes, done.leaves, done.shows) ∙ ap lands (sym (one_applied w before (sym done.number)))
