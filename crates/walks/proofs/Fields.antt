-- How far a walk's start and a step of it reach. Assumes nothing.
use mathlib.Core.Bool.{Bool, true, false, cond}
use Prim.Native.Nat.{ℕ, ◌+◌, ◌/◌, ◌%◌, ◌^◌, ◌≤◌, ◌<◌}
use native.Mathlib.Omega.{arith}
use lib.Dec.{eqb, ltb}
use Rattle.card.specs.Registers.{is_set}
use Rattle.card.specs.declared.Card.{Card}
use Rattle.card.specs.declared.Write.{Write}
use Rattle.rules.specs.Modes.{fill_first}
use Rattle.rules.specs.Lines.{natural, signed, start, visit_count, stepped, below_zero, plus, minus}
use Rattle.rules.specs.declared.Visit.{Visit}
use Rattle.walks.specs.Reach.{Parts, Near}

cond_le : (b : Bool) (n : ℕ) → cond b 0 n ≤ n
cond_le true n = omega arith
cond_le false n = omega arith

pub nearer : (m m' : ℕ) (s : Visit) → m ≤ m' → Near m s → Near m' s
nearer m m' s h ((pm, pl), (em, el)) = ((omega arith, omega arith), (omega arith, omega arith))

-- what a walk starts with is no more than a word and a little
word_parts : (n : ℕ) → Parts (2 ^ 33) (signed 32 0 n)
word_parts n = (omega arith, omega (arith, cond_le (ltb (n / 1 % 4294967296) 2147483648) 4294967296))

error_parts : (n : ℕ) → Parts (2 ^ 33) (signed 17 15 n)
error_parts n = (omega arith, omega (arith, cond_le (ltb (n / 32768 % 131072) 65536) 131072))

pub start_near : (c : Card) (w : Write) → w.address < 2 ^ 32 → Near (2 ^ 33) (start c w)
unfolding start
start_near c w h = go (eqb w.space 1)
  where
    go : (b : Bool) → Near (2 ^ 33)
        (cond b (record { place = signed 32 0 c.line.place; error = signed 32 0 c.line.error })
        (record { place = natural (fill_first w); error = signed 17 15 c.registers.bresenham3 }))
    go true = (word_parts c.line.place, word_parts c.line.error)
    go false = ((omega arith, omega arith), error_parts c.registers.bresenham3)

-- and it has few visits
pub count_few : (c : Card) (w : Write) → visit_count c w ≤ 16
unfolding visit_count
count_few c w = go (eqb w.space 1) (is_set c.line.kept) (eqb (c.registers.bresenham3 % 16) 0)
  where
    go : (a b d : Bool) → cond a (cond b 16 0) (cond d 16 (c.registers.bresenham3 % 16)) ≤ 16
    go true true d = omega arith
    go true false d = omega arith
    go false b true = omega arith
    go false b false = omega arith

-- an increment is a short step
short : (k n : ℕ) → Parts 65536 (signed 16 k n)
short k n = (omega arith, cond_le (ltb (n / 2 ^ k % 65536) 32768) 65536)

-- and so is one of the walk
pub stepped_near : (a b m : ℕ) (s : Visit) → Near m s → Near (m + 65536) (stepped a b s)
unfolding stepped
stepped_near a b m s ((pm, pl), (em, el)) = go (below_zero s.error)
  where
    go : (t : Bool) → Near (m + 65536)
        (cond t (record { place = plus s.place (signed 16 16 a); error = plus s.error (signed 16 0 a) })
        (record { place = plus s.place (signed 16 16 b); error = minus s.error (signed 16 0 b) }))
    go true =
        ((omega (arith, short 16 a), omega (arith, short 16 a)), (omega (arith, short 0 a), omega (arith, short 0 a)))
    go false =
        ((omega (arith, short 16 b), omega (arith, short 16 b)), (omega (arith, short 0 b), omega (arith, short 0 b)))
