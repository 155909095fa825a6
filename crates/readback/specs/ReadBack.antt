-- Scope paper, "Modes", the last paragraph: read-back of n pixels from address a.
use Rattle.std.specs.Prelude.{cond, List, [], ℕ, ◌+◌, eqb, ltb, length, take, drop}
use Rattle.rules.specs.Refusal.{bad_length}

-- 1, or 8 where a + n, as whole numbers, exceeds the length, or 0
unfoldable pub back_number : ℕ → ℕ → ℕ → ℕ
back_number size a n = cond (bad_length size) 1 (cond (ltb size (a + n)) 8 0)

-- that part of VRAM, or an empty part
unfoldable pub back_part : List ℕ → ℕ → ℕ → List ℕ
back_part v a n = cond (eqb (back_number (length v) a n) 0) (take n (drop a v)) []
