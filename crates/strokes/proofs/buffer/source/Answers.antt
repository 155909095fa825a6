-- `strokes::buffer::source` meets its contract. The loop's invariant: the first k words are read. Assumes nothing.
use mathlib.Core.Path.{◌≡◌, ap, ◌∙◌}
use mathlib.Core.Bool.{cond}
use mathlib.Core.List.{◌++◌}
use Prim.Native.Nat.{ℕ, ◌+◌, ◌*◌}
use native.Mathlib.Omega.{arith}
use lib.Bits.{bit_and}
use lib.ListN.{length, get_or, drop}
use lib.Seq.{length-sets}
use Rattle.raster.specs.Pixel.{bit}
use Rattle.span.specs.Fragments.{byte, listed}
use Rattle.span.proofs.Bytes.{byte_of}
use Rattle.span.proofs.Listed.{listed-none}
use Rattle.strokes.proofs.Stored.{stored_listed}
use Rattle.strokes.proofs.Buffers.{read_byte}
use Rattle.strokes.proofs.buffer.source.Goals as goal

pub loop-k-init : goal.loop-k-init
loop-k-init c = (omega (arith, c.well_formed.1.1), listed-none _ _)

pub loop-k-preserved : goal.loop-k-preserved
loop-k-preserved c =
    let l = c.loop-k in
    let a = c.args in
    let v = a.vram.now in
    let e : 8 * l.k + 8 ≡ 8 * (l.k + 1) = omega arith in
    let f : ℕ → ℕ = λ i. cond (bit a.bits i) (get_or v (a.address + i) 0) 0 in (
      ap length c.store.ensures ∙ (length-sets l.buffer (8 * l.k) (listed 8 (byte (bit_and c.load.result c.widen.result))) ∙ l.invariant.0),
      c.store.ensures
          ∙ (stored_listed 8 (8 * l.k) f _ a.buffer.now l.buffer (omega (arith, c.well_formed.1.1)) l.invariant.1
          (λ i h.
          read_byte v a.address l.k a.bits _ _ _ i (λ j. (c.shared_slice_known-1.given j).fits) h
          (byte_of a.bits l.k c.to_le_bytes-enabled.ensures (omega arith))
          c.widen.ensures
          c.load.ensures)
          ∙ ap (λ (n : ℕ). listed n f ++ drop n a.buffer.now) e),
    )
