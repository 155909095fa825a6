-- `patterns::byte_at` meets its contract. Assumes nothing.
use Prim.Native.Nat.{◌%◌}
use native.Mathlib.Omega.{arith}
use Rattle.span.proofs.Bytes.{byte_of}
use Rattle.patterns.proofs.byte_at.Goals as goal

pub returns : goal.returns
returns c = byte_of c.args.x (c.args.address % 4) c.to_le_bytes.ensures (omega arith)
