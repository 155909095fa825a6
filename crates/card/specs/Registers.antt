-- Scope paper, "Registers": the one table, and what tells registers and marks apart.
-- Where it differs from the manual (000) and from Linux: docs/CHIP.md.
use Rattle.std.specs.Prelude.{Bool, true, false, cond, not, List, [], ◌∷◌, ℕ, ◌+◌, ◌^◌, ◌-◌, eqb}
use Rattle.card.specs.declared.Register.{Register}
use Rattle.card.specs.declared.Register.TheVariants.{Foreground, Background, PlaneMask, PixelMaskOnce, Mode, RasterOperation, PixelShift, Bresenham1, Bresenham2, Bresenham3, Continue, PixelMask, FillMask, BlockColour, CopySource, CopyDestination, Missing}
use Rattle.card.specs.declared.Row.{Row}

abbrev ones : ℕ
ones = 2 ^ 32 - 1

-- the lowest bit of the initial error in Bresenham 3. The manual is split (31:15 in 4.4.12, 31:16 in 6.2.12); only with 17 bits can an
-- error lie outside 16 "at the start", as Ask 5 has it
abbrev pub error_bit : ℕ
error_bit = 15

abbrev pub row : ℕ → Register → ℕ → ℕ → Bool → Row
row offset register kept reset readable =
    record { offset = offset; register = register; kept = kept; reset = reset; readable = readable }

-- offset, what it holds, the bits kept, at reset, readable. Of Bresenham 3 the initial error and the length are kept, bits 3:0.
-- The 64-byte copy and continue hold nothing, so their bits and their reset are not used
unfoldable pub table : List Row
table =
    row 0x0020 Foreground ones 0 true
    ∷ row 0x0024 Background ones 0 true
    ∷ row 0x0028 PlaneMask ones ones true
    ∷ row 0x002C PixelMaskOnce ones ones true
    ∷ row 0x0030 Mode ones 0 true
    ∷ row 0x0034 RasterOperation 0xF 3 true
    ∷ row 0x0038 PixelShift 0xF 0 true
    ∷ row 0x0040 Bresenham1 ones 0 true
    ∷ row 0x0044 Bresenham2 ones 0 true
    ∷ row 0x0048 Bresenham3 (2 ^ 32 - 2 ^ error_bit + 0xF) 0 true
    ∷ row 0x004C Continue ones 0 false
    ∷ row 0x005C PixelMask ones ones true
    ∷ row 0x0080 FillMask ones 0 true
    ∷ row 0x0140 (BlockColour 0) ones 0 true
    ∷ row 0x0144 (BlockColour 1) ones 0 true
    ∷ row 0x0148 (BlockColour 2) ones 0 true
    ∷ row 0x014C (BlockColour 3) ones 0 true
    ∷ row 0x0150 (BlockColour 4) ones 0 true
    ∷ row 0x0154 (BlockColour 5) ones 0 true
    ∷ row 0x0158 (BlockColour 6) ones 0 true
    ∷ row 0x015C (BlockColour 7) ones 0 true
    ∷ row 0x0160 CopySource ones 0 false
    ∷ row 0x0164 CopyDestination ones 0 false
    ∷ []

-- the first row of an offset, or the row of no register
unfoldable pub row_in : List Row → ℕ → Row
row_in [] offset = row offset Missing 0 0 false
row_in (r ∷ rs) offset = cond (eqb r.offset offset) r (row_in rs offset)

unfoldable pub row_at : ℕ → Row
row_at offset = row_in table offset

-- a number for each register, to tell them apart; the eight block colours have one between them
abbrev pub code : Register → ℕ
code Foreground = 0
code Background = 1
code PlaneMask = 2
code PixelMaskOnce = 3
code Mode = 4
code RasterOperation = 5
code PixelShift = 6
code Bresenham1 = 7
code Bresenham2 = 8
code Bresenham3 = 9
code Continue = 10
code PixelMask = 11
code FillMask = 12
code (BlockColour k) = 13
code CopySource = 14
code CopyDestination = 15
code Missing = 16

infix 40 ◌is◌
abbrev pub ◌is◌ : Register → Register → Bool
g is h = eqb (code g) (code h)

-- which of the block colours
abbrev pub index : Register → ℕ
index Foreground = 0
index Background = 0
index PlaneMask = 0
index PixelMaskOnce = 0
index Mode = 0
index RasterOperation = 0
index PixelShift = 0
index Bresenham1 = 0
index Bresenham2 = 0
index Bresenham3 = 0
index Continue = 0
index PixelMask = 0
index FillMask = 0
index (BlockColour k) = k
index CopySource = 0
index CopyDestination = 0
index Missing = 0

-- a mark is a word, and set where it is not 0
abbrev pub is_set : ℕ → Bool
is_set mark = not (eqb mark 0)
