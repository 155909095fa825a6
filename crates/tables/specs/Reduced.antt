-- A fragment reduced, as X servers call it, to two bytes: an old byte becomes (old & keeps) ^ flips. The span routine's tables hold these.
use Rattle.std.specs.Prelude.{◌≡◌, ℕ}
use Rattle.std.specs.Int.Bits.{bit_xor}
use Rattle.span.specs.Fragments.{Fragment, painted}
use Rattle.span.specs.Strokes.{pattern_byte}
use Rattle.tables.specs.declared.Table.{Table}

-- what becomes of a byte of zeros
abbrev pub flips : ℕ → Fragment → ℕ
flips op f = painted op f 0

-- the bits that come out otherwise of a byte of ones than of a byte of zeros
abbrev pub keeps : ℕ → Fragment → ℕ
keeps op f = bit_xor (painted op f 0) (painted op f 255)

-- the table t makes the fragments f, which repeat after 32 pixels, under operation op
pub record Makes (t : Table) (op : ℕ) (f : ℕ → Fragment) : Type 0 where
  pub and : (j : ℕ) → pattern_byte t.and j ≡ keeps op (f j)
  pub xor : (j : ℕ) → pattern_byte t.xor j ≡ flips op (f j)
