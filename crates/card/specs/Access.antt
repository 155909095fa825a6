-- Scope paper, "Registers": what reading and storing by the table mean.
use Rattle.std.specs.Prelude.{cond, ◌||◌, ℕ, ◌%◌, get_or, set}
use Rattle.std.specs.Int.Bits.{bit_and}
use Rattle.card.specs.Registers.{row_at, index, ◌is◌}
use Rattle.card.specs.declared.Card.{Card}
use Rattle.card.specs.declared.Copier.{Copier}
use Rattle.card.specs.declared.Mask.{Mask}
use Rattle.card.specs.declared.Register.{Register}
use Rattle.card.specs.declared.Register.TheVariants.{Foreground, Background, PlaneMask, PixelMaskOnce, Mode, RasterOperation, PixelShift, Bresenham1, Bresenham2, Bresenham3, Continue, PixelMask, FillMask, BlockColour, CopySource, CopyDestination, Missing}
use Rattle.card.specs.declared.Registers.{Registers}
use Rattle.card.specs.declared.Reading.{Reading}

-- what a register holds. Pixel shift only ever holds 0
abbrev pub holds : Card → Register → ℕ
holds c Foreground = c.registers.foreground
holds c Background = c.registers.background
holds c PlaneMask = c.registers.plane
holds c PixelMaskOnce = c.mask.bits
holds c Mode = c.registers.mode
holds c RasterOperation = c.registers.raster
holds c PixelShift = 0
holds c Bresenham1 = c.registers.bresenham1
holds c Bresenham2 = c.registers.bresenham2
holds c Bresenham3 = c.registers.bresenham3
holds c Continue = 0
holds c PixelMask = c.mask.bits
holds c FillMask = c.registers.fill
holds c (BlockColour k) = get_or c.registers.block (k % 8) 0
holds c CopySource = 0
holds c CopyDestination = 0
holds c Missing = 0

-- read are the bits that the row keeps; an offset that is not listed, or is write only, answers 4 with the number 0
unfoldable pub reading : Card → ℕ → Reading
reading c offset =
    let r = row_at offset in
    cond r.readable (record { number = 0; value = bit_and (holds c r.register) r.kept }) (record { number = 4; value = 0 })

-- v stored in one of the registers; `is BlockColour 0` tells any of the block colours, and `index` which
abbrev pub stored_in : Registers → Register → ℕ → Registers
stored_in r g v =
    record {
      foreground = cond (g is Foreground) v r.foreground;
      background = cond (g is Background) v r.background;
      plane = cond (g is PlaneMask) v r.plane;
      mode = cond (g is Mode) v r.mode;
      raster = cond (g is RasterOperation) v r.raster;
      bresenham1 = cond (g is Bresenham1) v r.bresenham1;
      bresenham2 = cond (g is Bresenham2) v r.bresenham2;
      bresenham3 = cond (g is Bresenham3) v r.bresenham3;
      fill = cond (g is FillMask) v r.fill;
      block = cond (g is BlockColour 0) (set r.block (index g % 8) v) r.block;
    }

-- both pixel-mask offsets hold one value; a write at 002Ch also marks it one-shot, one at 005Ch unmarks it
abbrev pub masked : Mask → Register → ℕ → Mask
masked m g v =
    record {
      bits = cond (g is PixelMaskOnce || g is PixelMask) v m.bits;
      marked = cond (g is PixelMaskOnce) 1 (cond (g is PixelMask) 0 m.marked);
    }

-- a pixel-shift write returns the copy direction to "read source"
abbrev pub turned : Copier → Register → Copier
turned k g = record { buffer = k.buffer; loaded = k.loaded; writing = cond (g is PixelShift) 0 k.writing }

-- the card with v stored in a register
unfoldable pub stores : Card → Register → ℕ → Card
stores c g v =
    record {
      registers = stored_in c.registers g v;
      mask = masked c.mask g v;
      copier = turned c.copier g;
      line = c.line;
      held = c.held;
    }
