-- Scope paper, "Numbers returned", 1 to 9, and Ask 5's 12 and 13. A refusal looks at the card, the write and the length of VRAM, never at the picture.
use Rattle.std.specs.Prelude.{Bool, false, cond, not, ◌&&◌, ◌||◌, List, [], ◌∷◌, ℕ, ◌+◌, ◌/◌, ◌%◌, ◌^◌, eqb, ltb}
use Rattle.card.specs.Registers.{is_set, ◌is◌}
use Rattle.card.specs.declared.Card.{Card}
use Rattle.card.specs.declared.Write.{Write}
use Rattle.card.specs.declared.Register.{Register}
use Rattle.card.specs.declared.Register.TheVariants.{Mode, RasterOperation, PixelShift, Continue, CopySource, CopyDestination, Missing}
use Rattle.span.specs.Spans.{Span}
use Rattle.rules.specs.Modes.{mode_of, unlisted, is_simple, is_copy, is_line, register_of}
use Rattle.rules.specs.Lines.{walks, visits_of, strays, wild, spans_of}

-- the write is a write of this register
abbrev pub names : Write → Register → Bool
names w g = eqb w.space 1 && register_of w is g

-- the largest VRAM, in bytes
abbrev pub largest_vram : ℕ
largest_vram = 2097152

-- 1: VRAM length is 0, no multiple of 64, or over 2,097,152
unfoldable pub bad_length : ℕ → Bool
bad_length n = eqb n 0 || not (eqb (n % 64) 0) || ltb largest_vram n

-- 2: space is not 0 (frame) or 1 (register), or lanes exceed 15
unfoldable pub bad_space : Write → Bool
bad_space w = ltb 1 w.space || ltb 15 w.lanes

-- 3: lanes are not 15, on a register write or in any mode but simple
unfoldable pub bad_lanes : Card → Write → Bool
bad_lanes c w = (eqb w.space 1 || not (is_simple (mode_of c.registers.mode))) && not (eqb w.lanes 15)

-- 4: no such register
unfoldable pub no_register : Write → Bool
no_register w = names w Missing

-- 5: a mode write of a value that is no listed code, or a card handed in with one; a continue outside the line modes
unfoldable pub bad_mode : Card → Write → Bool
bad_mode c w =
    unlisted (mode_of c.registers.mode) || (names w Mode && unlisted (mode_of w.«data»))
    || (names w Continue && not (is_line (mode_of c.registers.mode)))

-- 6: raster-operation write with any of bits 11:8 set, pixel-shift write with any of bits 3:0 set,
-- or a card handed in with a raster operation above 15
unfoldable pub bad_raster : Card → Write → Bool
bad_raster c w =
    ltb 15 c.registers.raster || (names w RasterOperation && not (eqb (w.«data» / 2 ^ 8 % 16) 0))
    || (names w PixelShift && not (eqb (w.«data» % 16) 0))

-- 7: address off its boundary: frame addresses are multiples of 4, in copy mode of 8, for the 64-byte copy of 64
unfoldable pub off_boundary : Card → Write → Bool
off_boundary c w =
    cond (eqb w.space 1) ((names w CopySource || names w CopyDestination) && not (eqb (w.«data» % 64) 0))
    (not (eqb (w.address % cond (is_copy (mode_of c.registers.mode)) 8 4) 0))

-- one of the spans ends past n
abbrev pub past : ℕ → List Span → Bool
past n [] = false
past n (s ∷ ss) = ltb n (s.first + s.width) || past n ss

-- 8: a pixel of the spans, masked or not, lies outside VRAM; of a line or a continue any visited place, drawn or not
unfoldable pub outside : Card → Write → ℕ → Bool
outside c w n = cond (walks c w) (strays n (visits_of c w)) (past n (spans_of c w))

-- 9: 64-byte destination write with no 64-byte source loaded
unfoldable pub unloaded : Card → Write → Bool
unloaded c w = names w CopyDestination && not (is_set c.copier.loaded)

-- 12: an error of the walk lies outside signed 16 bits, at the start or after any step, the last too
unfoldable pub wild_walk : Card → Write → Bool
wild_walk c w = walks c w && wild c.registers.bresenham1 c.registers.bresenham2 (visits_of c w)

-- 13: a continue before any accepted line
unfoldable pub no_line : Card → Write → Bool
no_line c w = names w Continue && not (is_set c.line.kept)

-- each number and its test, in the order in which they are tried
abbrev pub rows : Card → Write → ℕ → List (ℕ × Bool)
rows c w n =
    (1, bad_length n)
    ∷ (2, bad_space w)
    ∷ (3, bad_lanes c w)
    ∷ (4, no_register w)
    ∷ (5, bad_mode c w)
    ∷ (6, bad_raster c w)
    ∷ (7, off_boundary c w)
    ∷ (8, outside c w n)
    ∷ (9, unloaded c w)
    ∷ (12, wild_walk c w)
    ∷ (13, no_line c w)
    ∷ []

-- the first number whose test holds, or 0
abbrev pub first_holding : List (ℕ × Bool) → ℕ
first_holding [] = 0
first_holding (r ∷ rs) = cond r.1 r.0 (first_holding rs)

-- the lowest number that applies, or 0: accepted
unfoldable pub refusal : Card → Write → ℕ → ℕ
refusal c w n = first_holding (rows c w n)
