-- Running under a budget and going on from the unread part with the rest gives what one run gives. Assumes nothing.
use mathlib.Core.Path.{◌≡◌, refl, ap, sym, ◌∙◌, subst}
use mathlib.Core.Bool.{Bool, true, false, cond}
use mathlib.Core.List.{List, [], ◌∷◌}
use Prim.Native.Nat.{ℕ, zero, suc, ◌+◌, ◌≤◌}
use native.Mathlib.Nat.{add-zero, zero-add, add_assoc, suc-add}
use native.Mathlib.Omega.{arith}
use lib.Dec.{eqb}
use lib.ListN.{length, drop}
use borrow.Author.Tests.{eq-eqb, eqb-true}
use Rattle.card.specs.declared.Card.{Card}
use Rattle.card.specs.declared.Write.{Write}
use Rattle.rules.specs.Refusal.{bad_length}
use Rattle.rules.specs.Writes.{count, changed}
use Rattle.format.specs.Traces.{entry_count, writes, well_formed}
use Rattle.format.proofs.Tested.{formed}
use Rattle.format.proofs.Encoding.{length-writes}
use Rattle.trace.specs.Run.{State, nothing, answer, apply, refuse, ran, run, unread}
use Rattle.trace.proofs.Remaining.{left_formed, left-writes}
use Rattle.trace.proofs.Runs.{Runs, ends, spent, refused, applied, runs, steps, counts, runs_within_entries, keeps-length, ran_refused, ran-applied, run-malformed, run_bad, run_good}

-- from this card and picture on, nothing counted yet
abbrev fresh : State → State
fresh s = nothing 0 s.card s.picture

-- with so many entries, pixels and changes counted before
abbrev more : ℕ → ℕ → ℕ → State → State
more x y z s =
    record { number = s.number; applied = x + s.applied; pixels = y + s.pixels; changed = z + s.changed; card = s.card; picture = s.picture }

-- what two runs give, one going on where the other stopped: the first number that is not 0, the counts of both, the last card and picture
abbrev pub follows : State → State → State
follows s r =
    record {
      number = cond (eqb s.number 0) r.number s.number;
      applied = s.applied + r.applied;
      pixels = s.pixels + r.pixels;
      changed = s.changed + r.changed;
      card = r.card;
      picture = r.picture;
    }

-- states are one where their numbers are
same : (c : Card) (v : List ℕ) {n n' a a' p p' q q' : ℕ} → n ≡ n' → a ≡ a' → p ≡ p' → q ≡ q'
    → ◌≡◌ {A = State} (record { number = n; applied = a; pixels = p; changed = q; card = c; picture = v }) (record { number = n'; applied = a'; pixels = p'; changed = q'; card = c; picture = v })
same c v e f g h = cc

-- counts made before go along unchanged
along : (x y z : ℕ) (ws : List Write) (b : ℕ) (s : State) → ran ws b (more x y z s) ≡ more x y z (ran ws b s)
unfolding ran apply refuse
along x y z [] b s = refl
along x y z (w ∷ ws) zero s = refl
along x y z (w ∷ ws) (suc b) s =
    let e : apply (more x y z s) w ≡ more x y z (apply s w)
    = cc (
      add_assoc x s.applied 1,
      add_assoc y s.pixels (count s.card w (length s.picture)),
      add_assoc z s.changed (changed s.card w s.picture),
    )
    in
    ap (λ (r : State). cond (eqb (answer s w) 0) r (refuse (more x y z s) w)) (ap (ran ws b) e ∙ along x y z ws b (apply s w))
    ∙ out (eqb (answer s w) 0) (ran ws b (apply s w)) (refuse s w)
  where
    out : (t : Bool) (p q : State) → cond t (more x y z p) (more x y z q) ≡ more x y z (cond t p q)
    out true p q = refl
    out false p q = refl

-- so a run from some state is what follows on it
joined : (ws : List Write) (b : ℕ) (s : State) → s.number ≡ 0 → ran ws b s ≡ follows s (ran ws b (fresh s))
joined ws b s z =
    let e : s ≡ more s.applied s.pixels s.changed (fresh s)
    = same s.card s.picture z (sym (add-zero s.applied)) (sym (add-zero s.pixels)) (sym (add-zero s.changed))
    in ap (ran ws b) e ∙ along s.applied s.pixels s.changed ws b (fresh s) ∙ rw (eq-eqb _ _ z)

-- nothing more
idle : (s : State) (n : ℕ) → (s.number ≡ 0 → n ≡ 0) → s ≡ follows s (nothing n s.card s.picture)
idle s n h =
    same s.card s.picture (sym (go (eqb s.number 0) refl)) (sym (add-zero s.applied)) (sym (add-zero s.pixels)) (sym (add-zero s.changed))
  where
    go : (t : Bool) → eqb s.number 0 ≡ t → cond t n s.number ≡ s.number
    go true e = h (eqb-true _ _ e) ∙ sym (eqb-true _ _ e)
    go false e = refl

-- two budgets
split : {ws : List Write} {a k : ℕ} {s r : State} (b : ℕ) → s.number ≡ 0 → Runs ws a s k r → ran ws (a + b) s ≡ follows r (ran (drop k ws) b (fresh r))
unfolding ran apply refuse
split {s = s} b z ends = idle s 0 (λ _. refl)
split {s = s} b z (spent {w = w} {ws = ws}) = ap (λ (n : ℕ). ran (w ∷ ws) n s) (zero-add b) ∙ joined (w ∷ ws) b s z
split {s = s} b z (refused {w = w} {ws = ws} {b = a} n) =
    ap (λ (m : ℕ). ran (w ∷ ws) m s) (suc-add a b) ∙ ran_refused w ws (a + b) s n ∙ again b
  where
    again : (b : ℕ) → refuse s w ≡ follows (refuse s w) (ran (w ∷ ws) b (fresh (refuse s w)))
    again zero = idle (refuse s w) 0 (λ _. refl)
    again (suc b) =
        idle (refuse s w) (answer s w) (λ e. e) ∙ ap (follows (refuse s w)) (sym (ran_refused w ws b (fresh (refuse s w)) n))
split {s = s} b z (applied {w = w} {ws = ws} {b = a} e p) =
    ap (λ (m : ℕ). ran (w ∷ ws) m s) (suc-add a b) ∙ ran-applied w ws (a + b) s e ∙ split b refl p

module _ (part : List ℕ) (a b : ℕ) (c : Card) (v : List ℕ) where
  -- going on from where the run stands at s gives the whole
  abbrev Whole : State → Type 0
  Whole s = run part (a + b) c v ≡ follows s (run (unread part s.applied) b s.card s.picture)

  stopped : (n : ℕ) → ((m : ℕ) → run part m c v ≡ nothing n c v) → Whole (run part a c v)
  unfolding unread
  stopped n e = subst Whole (sym (e a)) (e (a + b) ∙ idle (nothing n c v) n (λ z. z) ∙ ap (follows (nothing n c v)) (sym (e b)))

  module _ (d : well_formed part ≡ true) (e : bad_length (length v) ≡ false) where
    abbrev first : State
    first = ran (writes part) a (nothing 0 c v)

    abbrev k : ℕ
    k = steps (writes part) a (nothing 0 c v)

    p : Runs (writes part) a (nothing 0 c v) k first
    p = runs (writes part) a (nothing 0 c v)

    within : k ≤ entry_count part
    within = omega (arith, runs_within_entries p, length-writes part)

    second : run (unread part first.applied) b first.card first.picture ≡ ran (drop k (writes part)) b (fresh first)
    second =
        ap (λ (n : ℕ). run (unread part n) b first.card first.picture) (counts p ∙ zero-add k)
        ∙ run_good (unread part k) b first.card first.picture
        (left_formed part (formed part d) k within)
        (ap bad_length (keeps-length p) ∙ e)
        ∙ ap (λ (ws : List Write). ran ws b (fresh first)) (left-writes part (formed part d) k within)

    went : Whole (run part a c v)
    went = subst Whole (sym (run_good part a c v d e)) (run_good part (a + b) c v d e ∙ split b refl p ∙ ap (follows first) (sym second))

  -- one run under both budgets, and two runs, the second of what the first left unread
  pub going_on : run part (a + b) c v
      ≡ follows (run part a c v) (run (unread part (run part a c v).applied) b (run part a c v).card (run part a c v).picture)
  going_on = go (well_formed part) (bad_length (length v)) refl refl
    where
      go : (x y : Bool) → well_formed part ≡ x → bad_length (length v) ≡ y → Whole (run part a c v)
      go false y d e = stopped 10 (λ m. run-malformed part m c v d)
      go true true d e = stopped 1 (λ m. run_bad part m c v d e)
      go true false d e = went d e
