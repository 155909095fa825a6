-- A replay, case by case. Assumes nothing.
use mathlib.Core.Path.{◌≡◌, ap, ap₂, ◌∙◌}
use mathlib.Core.List.{List, ◌++◌}
use Prim.Native.Nat.{ℕ, ◌≤◌, ◌<◌}
use lib.ListN.{length, take, drop}
use borrow.Author.Tests.{eq-eqb, ne_eqb, le-leb, lt-leb}
use Rattle.card.specs.declared.Card.{Card}
use Rattle.card.specs.Reset.{reset_card}
use Rattle.format.specs.Traces.{check_number, check_part, check_length}
use Rattle.trace.specs.Run.{State, run}
use Rattle.player.specs.declared.Played.{Played}
use Rattle.player.specs.Playing.{whole, played, pictured}

abbrev answer : ℕ → Played
answer n = record { number = n; entries = 0; pixels = 0; changed = 0; length = 0 }

module _ (bytes v : List ℕ) (held : ℕ) where
  -- the bytes are no trace
  pub no_trace : (n : ℕ) → n ≡ check_number bytes → (n ≡ 0 → ⊥) → (answer n ≡ played bytes held v) × (v ≡ pictured bytes held v)
  unfolding played pictured
  no_trace n e h = let z : check_number bytes ≡ 0 → ⊥ = λ q. h (e ∙ q) in (ap answer e ∙ simp (ne_eqb _ _ z), simp (ne_eqb _ _ z))

  module _ (e : check_number bytes ≡ 0) where
    -- the VRAM is too short
    pub too_short : length v < check_length bytes → (answer 1 ≡ played bytes held v) × (v ≡ pictured bytes held v)
    unfolding played pictured
    too_short h = (simp (eq-eqb _ _ e, lt-leb _ _ h), simp (eq-eqb _ _ e, lt-leb _ _ h))

    -- the trace is run, and what lies past its VRAM stays
    pub plays : (n : ℕ) → n ≡ check_length bytes → check_length bytes ≤ length v → (s : State) → s ≡ whole bytes held v
        → (record { number = s.number; entries = s.applied; pixels = s.pixels; changed = s.changed; length = n } ≡ played bytes held v)
        × (s.picture ++ drop n v ≡ pictured bytes held v)
    unfolding played pictured
    plays n f h s g = (
      ap₂ (λ (r : State) (k : ℕ). record { number = r.number; entries = r.applied; pixels = r.pixels; changed = r.changed; length = k }) g f
          ∙ simp (eq-eqb _ _ e, le-leb _ _ h),
      ap₂ (λ (r : State) (k : ℕ). r.picture ++ drop k v) g f ∙ simp (eq-eqb _ _ e, le-leb _ _ h),
    )

  -- the run that the code makes is the whole run
  pub whole_run : {part : List ℕ} {card : Card} {n : ℕ} → part ≡ check_part bytes → card ≡ reset_card held → n ≡ check_length bytes
      → run part 4294967295 card (take n v) ≡ whole bytes held v
  whole_run {n = n} p r k =
      ap₂ (λ (l : List ℕ) (u : Card). run l 4294967295 u (take n v)) p r
      ∙ ap (λ (m : ℕ). run (check_part bytes) 4294967295 (reset_card held) (take m v)) k
