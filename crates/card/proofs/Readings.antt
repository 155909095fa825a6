-- A register read, where there is one and where there is none. With these the crate itself holds `reading` to the bits that a row keeps. Assumes nothing.
use mathlib.Core.Path.{◌≡◌}
use mathlib.Core.Bool.{true, false}
use Prim.Native.Nat.{ℕ}
use lib.Bits.{bit_and}
use Rattle.card.specs.Registers.{row_at}
use Rattle.card.specs.Access.{holds, reading}
use Rattle.card.specs.declared.Card.{Card}

-- a register that can be read answers 0 with what it holds, as its row keeps it
pub reading_held : (c : Card) (a : ℕ) → (row_at a).readable ≡ true → record { number = 0; value = bit_and (holds c (row_at a).register) (row_at a).kept } ≡ reading c a
unfolding reading
reading_held c a e = rw e

-- any other offset answers 4 with 0
pub reading_missing : (c : Card) (a : ℕ) → (row_at a).readable ≡ false → record { number = 4; value = 0 } ≡ reading c a
unfolding reading
reading_missing c a e = rw e
