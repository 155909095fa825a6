-- Scope paper, "Modes" and the first lines of "How one pixel is made": for each mode the first pixel, the width of the span,
-- which pixels are enabled, and what each takes. Nothing here looks at the picture.
use Rattle.std.specs.Prelude.{Bool, true, false, cond, ◌&&◌, List, [], ◌∷◌, ℕ, ◌+◌, ◌/◌, ◌%◌, ◌^◌, eqb, get_or}
use Rattle.raster.specs.Pixel.{bit, number}
use Rattle.span.specs.Fragments.{byte}
use Rattle.span.specs.Spans.{Span, span}
use Rattle.card.specs.Registers.{row_at, is_set, ◌is◌}
use Rattle.card.specs.declared.Card.{Card}
use Rattle.card.specs.declared.Write.{Write}
use Rattle.card.specs.declared.Register.{Register}
use Rattle.card.specs.declared.Register.TheVariants.{CopySource, CopyDestination}
use Rattle.rules.specs.declared.Mode.{Mode}
use Rattle.rules.specs.declared.Mode.TheVariants.{Simple, OpaqueStipple, TransparentStipple, OpaqueFill, TransparentFill, BlockStipple, BlockFill, Copy, OpaqueLine, TransparentLine, Unlisted}

-- a mode and its code
pub record Coded : Type 0 where
  pub code : ℕ
  pub mode : Mode

abbrev coded : ℕ → Mode → Coded
coded n m = record { code = n; mode = m }

-- the mode codes; where the manual (000) and Linux have others: docs/CHIP.md. The cap bit, bit 15, is allowed in the line modes only (Ask 5)
abbrev pub modes : List Coded
modes =
    coded 0x00 Simple
    ∷ coded 0x01 OpaqueStipple
    ∷ coded 0x05 TransparentStipple
    ∷ coded 0x21 OpaqueFill
    ∷ coded 0x45 TransparentFill
    ∷ coded 0x0D BlockStipple
    ∷ coded 0x2D BlockFill
    ∷ coded 0x07 Copy
    ∷ coded 0x02 OpaqueLine
    ∷ coded 0x06 TransparentLine
    ∷ coded 0x8002 OpaqueLine
    ∷ coded 0x8006 TransparentLine
    ∷ []

abbrev pub mode_in : List Coded → ℕ → Mode
mode_in [] v = Unlisted
mode_in (m ∷ ms) v = cond (eqb v m.code) m.mode (mode_in ms v)

-- the mode of a whole 32-bit register value
unfoldable pub mode_of : ℕ → Mode
mode_of v = mode_in modes v

-- no listed code
abbrev pub unlisted : Mode → Bool
unlisted Simple = false
unlisted OpaqueStipple = false
unlisted TransparentStipple = false
unlisted OpaqueFill = false
unlisted TransparentFill = false
unlisted BlockStipple = false
unlisted BlockFill = false
unlisted Copy = false
unlisted OpaqueLine = false
unlisted TransparentLine = false
unlisted Unlisted = true

-- simple mode
abbrev pub is_simple : Mode → Bool
is_simple Simple = true
is_simple OpaqueStipple = false
is_simple TransparentStipple = false
is_simple OpaqueFill = false
is_simple TransparentFill = false
is_simple BlockStipple = false
is_simple BlockFill = false
is_simple Copy = false
is_simple OpaqueLine = false
is_simple TransparentLine = false
is_simple Unlisted = false

-- copy mode
abbrev pub is_copy : Mode → Bool
is_copy Simple = false
is_copy OpaqueStipple = false
is_copy TransparentStipple = false
is_copy OpaqueFill = false
is_copy TransparentFill = false
is_copy BlockStipple = false
is_copy BlockFill = false
is_copy Copy = true
is_copy OpaqueLine = false
is_copy TransparentLine = false
is_copy Unlisted = false

-- the block modes
abbrev pub is_block : Mode → Bool
is_block Simple = false
is_block OpaqueStipple = false
is_block TransparentStipple = false
is_block OpaqueFill = false
is_block TransparentFill = false
is_block BlockStipple = true
is_block BlockFill = true
is_block Copy = false
is_block OpaqueLine = false
is_block TransparentLine = false
is_block Unlisted = false

-- the line modes, and the opaque one
abbrev pub is_line : Mode → Bool
is_line Simple = false
is_line OpaqueStipple = false
is_line TransparentStipple = false
is_line OpaqueFill = false
is_line TransparentFill = false
is_line BlockStipple = false
is_line BlockFill = false
is_line Copy = false
is_line OpaqueLine = true
is_line TransparentLine = true
is_line Unlisted = false

abbrev pub is_opaque_line : Mode → Bool
is_opaque_line Simple = false
is_opaque_line OpaqueStipple = false
is_opaque_line TransparentStipple = false
is_opaque_line OpaqueFill = false
is_opaque_line TransparentFill = false
is_opaque_line BlockStipple = false
is_opaque_line BlockFill = false
is_opaque_line Copy = false
is_opaque_line OpaqueLine = true
is_opaque_line TransparentLine = false
is_opaque_line Unlisted = false

-- no pixel at all
abbrev nothing : Span
nothing = span 0 0 (λ j. false) (λ j. 0)

-- pixel p uses byte p mod 4 of foreground and background
abbrev pub foreground : Card → ℕ → ℕ
foreground c p = byte c.registers.foreground (p % 4)

abbrev pub background : Card → ℕ → ℕ
background c p = byte c.registers.background (p % 4)

-- and byte p mod 8 of block colours 0 and 1, colour 0 first
abbrev pub colour : Card → ℕ → ℕ
colour c p = byte (get_or c.registers.block (p % 8 / 4) 0) (p % 4)

-- its effective mask is byte p mod 4 of the plane mask with the bits of the held planes cleared
unfoldable pub effective_by : (plane held p : ℕ) → ℕ
effective_by plane held p = number 8 (λ k. cond (bit held k) false (bit (byte plane (p % 4)) k))

abbrev pub effective : Card → ℕ → ℕ
effective c p = effective_by c.registers.plane c.held p

-- fills: data bits 10:0 are the pixel count less one, bits 17:16, low, are added to the address
abbrev pub fill_low : Write → ℕ
fill_low w = w.«data» / 2 ^ 16 % 4

abbrev pub fill_first : Write → ℕ
fill_first w = w.address + fill_low w

abbrev pub fill_width : Write → ℕ
fill_width w = w.«data» % 2 ^ 11 + 1

-- pixel j of a fill uses fill-mask bit (j + low) mod 32 (change requests, Ask 1; manual 4.4.8.2)
abbrev pub fill_bit : Card → Write → ℕ → Bool
fill_bit c w j = bit c.registers.fill ((j + fill_low w) % 32)

-- the span of a frame write; what a line draws stands in Lines
unfoldable pub frame_span : Mode → Card → Write → Span
frame_span Simple c w = span w.address 4 (λ i. bit w.lanes i && bit c.mask.bits i) (λ i. byte w.«data» i)
frame_span OpaqueStipple c w =
    span w.address 32 (λ i. bit c.mask.bits i)
    (λ i. cond (bit w.«data» i) (foreground c (w.address + i)) (background c (w.address + i)))
frame_span TransparentStipple c w = span w.address 32 (λ i. bit w.«data» i) (λ i. foreground c (w.address + i))
frame_span OpaqueFill c w =
    span (fill_first w) (fill_width w) (λ j. true)
    (λ j. cond (fill_bit c w j) (foreground c (fill_first w + j)) (background c (fill_first w + j)))
frame_span TransparentFill c w = span (fill_first w) (fill_width w) (λ j. fill_bit c w j) (λ j. foreground c (fill_first w + j))
frame_span BlockStipple c w = span w.address 32 (λ i. bit w.«data» i) (λ i. colour c (w.address + i))
frame_span BlockFill c w = span (fill_first w) (fill_width w) (λ j. fill_bit c w j) (λ j. colour c (fill_first w + j))
frame_span Copy c w = span w.address 32 (λ i. is_set c.copier.writing && bit w.«data» i) (λ i. get_or c.copier.buffer i 0)
frame_span OpaqueLine c w = nothing
frame_span TransparentLine c w = nothing
frame_span Unlisted c w = nothing

-- the spans of a register write: the 64-byte copy's, whose data is the address; every other has none here. A continue's stand in Lines
abbrev pub register_spans : Register → Card → Write → List Span
register_spans g c w =
    cond (g is CopySource) (span w.«data» 64 (λ i. false) (λ i. 0) ∷ [])
    (cond (g is CopyDestination) (span w.«data» 64 (λ i. true) (λ i. get_or c.copier.buffer i 0) ∷ []) [])

-- the register that a write names
abbrev pub register_of : Write → Register
register_of w = (row_at w.address).register
