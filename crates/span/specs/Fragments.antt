-- What a write does to the picture, chosen without looking at the picture: one fragment for each address of VRAM.
-- "Fragment" is the graphics term for what is about to be written to one pixel.
use Rattle.std.specs.Prelude.{Bool, cond, not, List, [], ◌∷◌, ℕ, zero, suc, ◌+◌, ◌-◌, ◌/◌, ◌%◌, ◌^◌, ◌<◌, eqb, ltb, length, get_or}
use Rattle.raster.specs.Pixel.{value, made}

-- byte k of a register, byte 0 being its bits 7:0
unfoldable pub byte : ℕ → ℕ → ℕ
byte n k = n / 256 ^ k % 256

-- every element is a byte
abbrev pub Bytes : List ℕ → Type 0
Bytes v = (i : ℕ) → i < length v → get_or v i 0 < 256

-- the byte stays, or a pixel is made under a mask from a source
pub data Fragment : Type 0 where
  stays : Fragment
  paint : (mask source : ℕ) → Fragment

-- one byte after it, under raster operation op
abbrev pub painted : ℕ → Fragment → ℕ → ℕ
painted op stays old = old
painted op (paint mask source) old = made 8 op mask source old

-- whether the byte is another afterwards
abbrev pub alters : ℕ → Fragment → ℕ → Bool
alters op f old = not (eqb (painted op f old) old)

-- the picture after the fragments f, one for each address
unfoldable pub drawn : ℕ → (ℕ → Fragment) → List ℕ → List ℕ
drawn op f [] = []
drawn op f (x ∷ xs) = painted op (f 0) x ∷ drawn op (λ p. f (suc p)) xs

-- the fragments f up to address n, none from there on
unfoldable pub before : ℕ → (ℕ → Fragment) → ℕ → Fragment
before n f p = cond (ltb p n) (f p) stays

-- the fragments f moved up to start at address a
unfoldable pub from : ℕ → (ℕ → Fragment) → ℕ → Fragment
from a f p = cond (ltb p a) stays (f (p - a))

-- how many of the first n pass the test
unfoldable pub counted : ℕ → (ℕ → Bool) → ℕ
counted zero on = 0
counted (suc n) on = counted n on + value (on n)

-- pixel p, which is one byte here, is not the same in the two pictures
abbrev pub differs : List ℕ → List ℕ → ℕ → Bool
differs v v' p = not (eqb (get_or v' p 0) (get_or v p 0))

-- how many pixels of the picture v are not the same in v', which is as long
unfoldable pub differing : List ℕ → List ℕ → ℕ
differing v v' = counted (length v) (differs v v')

-- the list of f 0 to f (n - 1)
unfoldable pub listed : ℕ → (ℕ → ℕ) → List ℕ
listed zero f = []
listed (suc n) f = f 0 ∷ listed n (λ k. f (suc k))
