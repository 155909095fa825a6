-- How one pixel is made, over a width of w bits. Scope paper, "How one pixel is made"; manual (000) Table 4-21.
use Rattle.std.specs.Prelude.{Bool, true, false, cond, ℕ, zero, suc, ◌+◌, ◌-◌, ◌*◌, ◌/◌, ◌%◌, ◌^◌, eqb, ltb}

-- bit k of n
unfoldable pub bit : ℕ → ℕ → Bool
bit n k = eqb (n / 2 ^ k % 2) 1

-- a bit as a number
abbrev pub value : Bool → ℕ
value true = 1
value false = 0

-- the number below 2 ^ w whose bit k is f k
unfoldable pub number : ℕ → (ℕ → Bool) → ℕ
number zero f = 0
number (suc w) f = value (f 0) + 2 * number w (λ k. f (suc k))

-- the new bit, for source bit s and old bit d: bit (3 - 2s - d) of the raster operation
unfoldable pub result : ℕ → Bool → Bool → Bool
result op s d = bit op (3 - 2 * value s - value d)

-- the new pixel: bits outside the mask keep their old state, inside it the operation gives the new bit
unfoldable pub made : (w op mask source old : ℕ) → ℕ
made w op mask source old =
    number w (λ k. cond (bit mask k) (result op (bit source k) (bit old k)) (bit old k))

-- the composite of a then b: for each s and d the bit that b gives for s and for the bit that a gives for s and d.
-- Bit k stands for s and d with k = 3 - 2s - d
unfoldable pub composite : ℕ → ℕ → ℕ
composite a b = number 4 (λ k. let s = ltb k 2 in result b s (result a s (eqb (k % 2) 0)))

infixl 20 ◌then◌
-- a list of one or more operations, in the order in which they are drawn
pub data Operations : Type 0 where
  only : ℕ → Operations
  ◌then◌ : Operations → ℕ → Operations

-- of one operation, that operation; of a longer list, the composite of all but the last, then the last
unfoldable pub composite_of : Operations → ℕ
composite_of (only a) = a
composite_of (ops then a) = composite (composite_of ops) a
