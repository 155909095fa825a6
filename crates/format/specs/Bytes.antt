-- Scope paper, "Traces": numbers are little-endian.
use Rattle.std.specs.Prelude.{cond, List, [], ◌∷◌, ℕ, ◌+◌, ◌*◌, ◌^◌, leb, length, get_or}
use Rattle.span.specs.Fragments.{byte}

-- the 32-bit number whose first byte stands at a
unfoldable pub word : List ℕ → ℕ → ℕ
word v a = get_or v a 0 + 2 ^ 8 * get_or v (a + 1) 0 + 2 ^ 16 * get_or v (a + 2) 0 + 2 ^ 24 * get_or v (a + 3) 0

-- the same; 0 where four bytes do not stand from a on
unfoldable pub word_at : List ℕ → ℕ → ℕ
word_at v a = cond (leb (a + 4) (length v)) (word v a) 0

-- the four bytes of a number
unfoldable pub bytes : ℕ → List ℕ
bytes x = byte x 0 ∷ byte x 1 ∷ byte x 2 ∷ byte x 3 ∷ []
