-- A run, entry by entry: how far it goes, and that this is what `ran` defines. Assumes nothing.
use mathlib.Core.Path.{◌≡◌, refl, ◌∙◌}
use mathlib.Core.Bool.{Bool, true, false, cond}
use mathlib.Core.List.{List, [], ◌∷◌}
use Prim.Native.Nat.{ℕ, zero, suc, ◌+◌, ◌≤◌, suc-le-suc}
use native.Mathlib.Omega.{arith}
use lib.Dec.{eqb}
use lib.ListN.{length}
use borrow.Author.Tests.{eq-eqb, ne_eqb, eqb-true, eqb-false}
use Rattle.card.specs.declared.Card.{Card}
use Rattle.card.specs.declared.Write.{Write}
use Rattle.rules.specs.Refusal.{bad_length}
use Rattle.demands.proofs.Demand1.{same_length}
use Rattle.format.specs.Traces.{writes, well_formed}
use Rattle.trace.specs.Run.{State, nothing, answer, apply, refuse, ran, run, run_up_to}

-- from state s these writes under this budget go k entries far, to state r
pub data Runs : List Write → ℕ → State → ℕ → State → Type 0 where
  ends : {b : ℕ} {s : State} → Runs [] b s 0 s
  spent : {w : Write} {ws : List Write} {s : State} → Runs (w ∷ ws) 0 s 0 s
  refused : {w : Write} {ws : List Write} {b : ℕ} {s : State} → (answer s w ≡ 0 → ⊥) → Runs (w ∷ ws) (suc b) s 0 (refuse s w)
  applied : {w : Write} {ws : List Write} {b k : ℕ} {s r : State} → answer s w ≡ 0 → Runs ws b (apply s w) k r → Runs (w ∷ ws) (suc b) s (suc k) r

-- how far
unfoldable pub steps : List Write → ℕ → State → ℕ
steps [] b s = 0
steps (w ∷ ws) zero s = 0
steps (w ∷ ws) (suc b) s = cond (eqb (answer s w) 0) (suc (steps ws b (apply s w))) 0

pub runs : (ws : List Write) (b : ℕ) (s : State) → Runs ws b s (steps ws b s) (ran ws b s)
unfolding ran steps
runs [] b s = ends
runs (w ∷ ws) zero s = spent
runs (w ∷ ws) (suc b) s = go (eqb (answer s w) 0) refl (runs ws b (apply s w))
  where
    go : (t : Bool) → eqb (answer s w) 0 ≡ t → Runs ws b (apply s w) (steps ws b (apply s w)) (ran ws b (apply s w))
        → Runs (w ∷ ws) (suc b) s (cond t (suc (steps ws b (apply s w))) 0) (cond t (ran ws b (apply s w)) (refuse s w))
    go true e p = applied (eqb-true _ _ e) p
    go false e p = refused (eqb-false _ _ e)

-- one entry
pub ran_refused : (w : Write) (ws : List Write) (b : ℕ) (s : State) → (answer s w ≡ 0 → ⊥) → ran (w ∷ ws) (suc b) s ≡ refuse s w
unfolding ran
ran_refused w ws b s n = rw (ne_eqb _ _ n)

pub ran-applied : (w : Write) (ws : List Write) (b : ℕ) (s : State) → answer s w ≡ 0 → ran (w ∷ ws) (suc b) s ≡ ran ws b (apply s w)
unfolding ran
ran-applied w ws b s e = rw (eq-eqb _ _ e)

pub counts : {ws : List Write} {b k : ℕ} {s r : State} → Runs ws b s k r → r.applied ≡ s.applied + k
unfolding apply refuse
counts ends = omega arith
counts spent = omega arith
counts (refused n) = omega arith
counts (applied e p) = omega (arith, counts p)

-- never above the budget or the entries
pub runs_within_budget : {ws : List Write} {b k : ℕ} {s r : State} → Runs ws b s k r → k ≤ b
runs_within_budget ends = omega arith
runs_within_budget spent = omega arith
runs_within_budget (refused n) = omega arith
runs_within_budget (applied e p) = suc-le-suc (runs_within_budget p)

pub runs_within_entries : {ws : List Write} {b k : ℕ} {s r : State} → Runs ws b s k r → k ≤ length ws
runs_within_entries ends = omega arith
runs_within_entries spent = omega arith
runs_within_entries (refused n) = omega arith
runs_within_entries (applied e p) = suc-le-suc (runs_within_entries p)

-- the picture keeps its length
pub keeps-length : {ws : List Write} {b k : ℕ} {s r : State} → Runs ws b s k r → length r.picture ≡ length s.picture
unfolding apply refuse
keeps-length ends = refl
keeps-length spent = refl
keeps-length (refused n) = refl
keeps-length (applied {w = w} {s = s} e p) = keeps-length p ∙ same_length s.card w s.picture

-- how a run begins: 10, then 1, then entry after entry
module _ (part : List ℕ) (b : ℕ) (c : Card) (v : List ℕ) where
  pub run-malformed : well_formed part ≡ false → run part b c v ≡ nothing 10 c v
  unfolding run_up_to
  run-malformed e = rw e

  pub run_bad : well_formed part ≡ true → bad_length (length v) ≡ true → run part b c v ≡ nothing 1 c v
  unfolding run_up_to
  run_bad e d = rw (e, d)

  pub run_good : well_formed part ≡ true → bad_length (length v) ≡ false → run part b c v ≡ ran (writes part) b (nothing 0 c v)
  unfolding run_up_to
  run_good e d = rw (e, d)
