-- Which writes go the shorter way, and which leave the card but for its pixel mask. Nothing here has to be believed: every way keeps the contract of any write.
use Rattle.std.specs.Prelude.{Bool, true, cond, not, ◌&&◌, ℕ, ◌-◌, ◌^◌, eqb}
use Rattle.card.specs.declared.Card.{Card}
use Rattle.card.specs.declared.Write.{Write}
use Rattle.rules.specs.Refusal.{refusal}

-- text: a frame write in opaque stipple mode, with operation 3 and every plane in the plane mask
unfoldable pub is_text : Card → Write → Bool
is_text c w =
    eqb c.registers.raster 3
    && (eqb c.registers.plane (2 ^ 32 - 1) && (eqb c.registers.mode 0x01 && not (eqb w.space 1)))

-- a refused write and text leave all of the card but its pixel mask
unfoldable pub keeps : Card → Write → ℕ → Bool
keeps c w n = cond (eqb (refusal c w n) 0) (is_text c w) true
