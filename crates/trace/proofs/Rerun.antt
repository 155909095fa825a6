-- Demand 2, the last sentence, through `run`: what a start and any appends recorded runs as the writes appended. Assumes nothing but
-- that the writes are as the bus delivers them.
use mathlib.Core.Path.{◌≡◌}
use mathlib.Core.Bool.{cond}
use mathlib.Core.List.{List}
use Prim.Native.Nat.{ℕ}
use lib.ListN.{length, take}
use Rattle.card.specs.declared.Card.{Card}
use Rattle.card.specs.declared.Write.{Write}
use Rattle.rules.specs.Refusal.{bad_length}
use Rattle.format.specs.Traces.{check_part}
use Rattle.format.proofs.RoundTrip.{Recorded, checked}
use Rattle.trace.specs.Run.{nothing, ran, run, run_up_to}

-- running the part that `check` hands back is running those writes: 1 where the lent VRAM has a bad length, else one write after the other
pub run_again : {vram : ℕ} {ws : List Write} {b : List ℕ} {used : ℕ} → Recorded vram ws b used → (budget : ℕ) (c : Card) (v : List ℕ)
    → run (check_part (take used b)) budget c v ≡ cond (bad_length (length v)) (nothing 1 c v) (ran ws budget (nothing 0 c v))
unfolding run_up_to
run_again r budget c v = let h = checked r in rw (h.runnable, h.same)
