-- A turn of the loop over the bytes that are left: a whole entry in front of them, or one byte. Assumes nothing.
use mathlib.Core.Path.{◌≡◌, refl, ap, ◌∙◌}
use mathlib.Core.Bool.{true}
use mathlib.Core.List.{List}
use Prim.Native.Nat.{ℕ, ◌-◌, ◌≤◌}
use lib.ListN.{length, get_or, take, drop}
use lib.Seq.{drop-cons}
use Rattle.card.specs.declared.Card.{Card}
use Rattle.card.specs.declared.Write.{Write}
use Rattle.format.specs.Traces.{entry_at}
use Rattle.format.proofs.Inside.{inside}
use Rattle.format.proofs.Parts.{from_on}
use Rattle.line.specs.declared.Reader.{Reader}
use Rattle.line.specs.Serial.{Standing, byte, draws, sound, sound_up_to, stuck}
use Rattle.line.specs.Ahead.{whole_at}
use Rattle.line.proofs.Turns.{Going, Whole, whole, turn_byte, turn_entry}
use Rattle.serial.specs.Steps.{before}

-- a reader can be, whatever its number
pub any_number : (n : ℕ) (r : Reader) → sound (stuck n r) ≡ sound r
unfolding sound_up_to
any_number n r = refl

pub whole_here : (r : Reader) (v : List ℕ) → whole_at r v 0 ≡ true → Whole (stuck 0 r) v 0
unfolding whole_at
whole_here r v e = whole (stuck 0 r) v 0 e

module _ {v₀ : List ℕ} {s₀ : Standing} {v : List ℕ} (r : Reader) {c : Card} {p : List ℕ} (g : Going v₀ s₀ v (before r c p)) where
  pub entry : whole_at r v 0 ≡ true → length r.waiting ≡ 16 → {w : Write} → w ≡ entry_at v 0 → {t : Standing} → t ≡ draws w (before r c p)
      → Going v₀ s₀ (take (length v - 12) (drop 12 v)) t
  entry e room f h =
      let w = whole_here r v e in
      rw (from_on 12 v) (turn_entry g refl room w (h ∙ ap (λ (x : Write). draws x (before r c p)) (f ∙ inside v 0 w.stands.long)))

  pub one : 1 ≤ length v → {t : Standing} → t ≡ byte (before r c p) (get_or v 0 0) → Going v₀ s₀ (take (length v - 1) (drop 1 v)) t
  one h e = rw (from_on 1 v) (turn_byte g (drop-cons v 0 0 h) e)
