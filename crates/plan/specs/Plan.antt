-- The plan of a write, as the code makes it. Nothing here has to be believed: proofs/Plan*.antt show that it is what the definitions of
-- `rules` say.
use Rattle.std.specs.Prelude.{Bool, true, false, cond, not, ◌&&◌, ◌||◌, List, [], ◌∷◌, ℕ, ◌+◌, ◌-◌, ◌/◌, ◌%◌, ◌^◌, eqb, leb, ltb, length, get_or, take, drop}
use Rattle.std.specs.Int.Bits.{bit_and}
use Rattle.raster.specs.Pixel.{bit, number}
use Rattle.span.specs.Fragments.{byte}
use Rattle.span.specs.Spans.{Span, span}
use Rattle.card.specs.Registers.{row_at, is_set, ◌is◌}
use Rattle.card.specs.Access.{stores}
use Rattle.card.specs.declared.Card.{Card}
use Rattle.card.specs.declared.Copier.{Copier}
use Rattle.card.specs.declared.Write.{Write}
use Rattle.card.specs.declared.Register.{Register}
use Rattle.card.specs.declared.Register.TheVariants.{Mode as ModeRegister, RasterOperation, PixelShift, Continue, CopySource, CopyDestination, Missing}
use Rattle.rules.specs.Modes.{mode_of, unlisted, is_simple, is_block, is_copy, is_line, fill_low, fill_first, frame_span, register_of}
use Rattle.rules.specs.Lines.{visits_of, visit_count, strays, wild}
use Rattle.rules.specs.Refusal.{bad_length, bad_space, first_holding}
use Rattle.rules.specs.Writes.{used_up, sourced}
use Rattle.rules.specs.declared.Mode.{Mode}
use Rattle.rules.specs.declared.Mode.TheVariants.{Simple, OpaqueStipple, TransparentStipple, OpaqueFill, TransparentFill, BlockStipple, BlockFill, Copy, OpaqueLine, TransparentLine, Unlisted}
use Rattle.plan.specs.declared.Effect.{Effect}
use Rattle.plan.specs.declared.Effect.TheVariants.{UsesMask, ReadsSource, DrawsDestination, Stores, Loads, Unloads}
use Rattle.plan.specs.declared.Faults.{Faults}
use Rattle.plan.specs.declared.Paint.{Paint}
use Rattle.plan.specs.declared.Paint.TheVariants.{Stippled, Tiled, Half, Whole}
use Rattle.plan.specs.declared.Plan.{Plan}

abbrev ones : ℕ
ones = 2 ^ 32 - 1

-- what is at fault with a frame write, and with a register write
abbrev pub frame_faults : Mode → Card → Write → Faults
frame_faults m c w =
    record {
      lanes = not (is_simple m) && not (eqb w.lanes 15);
      register = false;
      mode = unlisted m;
      raster = ltb 15 c.registers.raster;
      address = not (eqb (w.address % cond (is_copy m) 8 4) 0);
      source = false;
    }

abbrev pub register_faults : Register → Card → Write → Faults
register_faults g c w =
    record {
      lanes = not (eqb w.lanes 15);
      register = g is Missing;
      mode = unlisted (mode_of c.registers.mode) || (g is ModeRegister && unlisted (mode_of w.«data»))
          || (g is Continue && not (is_line (mode_of c.registers.mode)));
      raster = ltb 15 c.registers.raster || (g is RasterOperation && not (eqb (w.«data» / 2 ^ 8 % 16) 0))
          || (g is PixelShift && not (eqb (w.«data» % 16) 0));
      address = (g is CopySource || g is CopyDestination) && not (eqb (w.«data» % 64) 0);
      source = g is CopyDestination && not (is_set c.copier.loaded);
    }

-- the word x rotated, its bit low first
unfoldable pub rotated : (x low : ℕ) → ℕ
rotated x low = number 32 (λ k. bit x ((k + low) % 32))

-- the fill mask of a write, so that pixel j goes by bit j mod 32
abbrev fill_of : Card → Write → ℕ
fill_of c w = rotated c.registers.fill (fill_low w)

-- the word whose bit j mod 32 enables pixel j
abbrev pub enable_of : Mode → Card → Write → ℕ
enable_of Simple c w = bit_and w.lanes c.mask.bits
enable_of OpaqueStipple c w = c.mask.bits
enable_of TransparentStipple c w = w.«data»
enable_of OpaqueFill c w = ones
enable_of TransparentFill c w = fill_of c w
enable_of BlockStipple c w = w.«data»
enable_of BlockFill c w = fill_of c w
enable_of Copy c w = cond (is_set c.copier.writing) w.«data» 0
enable_of OpaqueLine c w = 0
enable_of TransparentLine c w = 0
enable_of Unlisted c w = 0

-- one word for all pixels, and block colours 0 and 1
abbrev solid : ℕ → ℕ → Paint
solid x at = Tiled x x at

abbrev blocks : Card → ℕ → Paint
blocks c at = Tiled (get_or c.registers.block 0 0) (get_or c.registers.block 1 0) at

abbrev pub paint_of : Mode → Card → Write → Paint
paint_of Simple c w = solid w.«data» 0
paint_of OpaqueStipple c w = Stippled w.«data» c.registers.foreground c.registers.background w.address
paint_of TransparentStipple c w = solid c.registers.foreground w.address
paint_of OpaqueFill c w = Stippled (fill_of c w) c.registers.foreground c.registers.background (fill_first w)
paint_of TransparentFill c w = solid c.registers.foreground (fill_first w)
paint_of BlockStipple c w = blocks c w.address
paint_of BlockFill c w = blocks c (fill_first w)
paint_of Copy c w = Half
paint_of OpaqueLine c w = Half
paint_of TransparentLine c w = Half
paint_of Unlisted c w = Half

abbrev pub frame_effect : Mode → Card → Effect
frame_effect m c = cond (is_copy m) (cond (is_set c.copier.writing) DrawsDestination ReadsSource) UsesMask

-- of a frame write. A line's plan draws nothing: what is at fault with the write is told from it, and its walk is gone apart (crate `walks`)
abbrev pub frame_plan : Mode → Card → Write → Plan
frame_plan m c w =
    record {
      faults = frame_faults m c w;
      first = (frame_span m c w).first;
      width = (frame_span m c w).width;
      op = cond (is_block m) 3 (c.registers.raster % 16);
      enable = enable_of m c w;
      paint = paint_of m c w;
      effect = frame_effect m c;
    }

-- the same from what the code has in hand: in any mode but copy, and in copy mode, whose boundary is another
abbrev pub drawing_plan : Faults → ℕ → ℕ → ℕ → ℕ → Paint → Plan
drawing_plan faults first width op enable paint =
    record { faults = faults; first = first; width = width; op = op; enable = enable; paint = paint; effect = UsesMask }

abbrev pub halved_plan : Faults → ℕ → ℕ → ℕ → Effect → Plan
halved_plan faults first op enable effect =
    record { faults = faults; first = first; width = 32; op = op; enable = enable; paint = Half; effect = effect }

abbrev pub copy_plan : Faults → ℕ → Write → ℕ → Plan
copy_plan f writing w op =
    record {
      faults = record {
        lanes = f.lanes;
        register = f.register;
        mode = f.mode;
        raster = f.raster;
        address = not (eqb (w.address % 8) 0);
        source = f.source;
      };
      first = w.address;
      width = 32;
      op = op;
      enable = cond (is_set writing) w.«data» 0;
      paint = Half;
      effect = cond (is_set writing) DrawsDestination ReadsSource;
    }

-- of a register write: the 64-byte copy reaches 64 pixels, every other none
abbrev pub storing_plan : Faults → ℕ → Register → ℕ → Plan
storing_plan faults op g v =
    record { faults = faults; first = 0; width = 0; op = op; enable = 0; paint = Half; effect = Stores g v }

abbrev pub copying_plan : Faults → ℕ → ℕ → ℕ → Effect → Plan
copying_plan faults op a enable effect =
    record { faults = faults; first = a; width = 64; op = op; enable = enable; paint = Whole; effect = effect }

-- by whether it is the copy's source or its destination, and what it stores
abbrev pub register_plan_by : (source destination : Bool) → Register → ℕ → Card → Write → Plan
register_plan_by source destination g v c w =
    let faults = register_faults g c w in
    let op = c.registers.raster % 16 in
    cond source (copying_plan faults op w.«data» 0 Loads)
    (cond destination (copying_plan faults op w.«data» ones Unloads) (storing_plan faults op g v))

abbrev pub register_plan : Register → Card → Write → Plan
register_plan g c w = register_plan_by (g is CopySource) (g is CopyDestination) g (bit_and w.«data» (row_at w.address).kept) c w

unfoldable pub plan_of : Card → Write → Plan
plan_of c w = cond (eqb w.space 1) (register_plan (register_of w) c w) (frame_plan (mode_of c.registers.mode) c w)

-- the number of a write from what is at fault and whether its span ends past VRAM
unfoldable pub judged_by : Faults → Bool → Write → ℕ → ℕ
judged_by f past w n =
    first_holding
    ((1, bad_length n)
    ∷ (2, bad_space w)
    ∷ (3, f.lanes)
    ∷ (4, f.register)
    ∷ (5, f.mode)
    ∷ (6, f.raster)
    ∷ (7, f.address)
    ∷ (8, past)
    ∷ (9, f.source)
    ∷ [])

abbrev pub judged : Plan → Write → ℕ → ℕ
judged p w n = judged_by p.faults (ltb n (p.first + p.width)) w n

-- the same over numbers and tests in two lists of one length, as the code has them
abbrev pub first_of : List ℕ → List Bool → ℕ
first_of [] bs = 0
first_of (k ∷ ks) [] = 0
first_of (k ∷ ks) (b ∷ bs) = cond b k (first_of ks bs)

-- the number of a write that walks and has nothing else at fault
unfoldable pub walk_number : Card → Write → ℕ → ℕ
walk_number c w n =
    first_holding
    ((8, strays n (visits_of c w))
    ∷ (12, wild c.registers.bresenham1 c.registers.bresenham2 (visits_of c w))
    ∷ (13, eqb (visit_count c w) 0)
    ∷ [])

-- the whole copy buffer is taken
abbrev pub is_whole : Paint → Bool
is_whole (Stippled bits foreground background at) = false
is_whole (Tiled low high at) = false
is_whole Half = false
is_whole Whole = true

-- what pixel j takes, with this copy buffer
abbrev pub taken_by : Paint → List ℕ → ℕ → ℕ
taken_by (Stippled bits foreground background at) buffer j =
    cond (bit bits (j % 32)) (byte foreground ((at + j) % 4)) (byte background ((at + j) % 4))
taken_by (Tiled low high at) buffer j = byte (get_or (low ∷ high ∷ []) ((at + j) % 8 / 4) 0) ((at + j) % 4)
taken_by Half buffer j = get_or buffer (j % 32) 0
taken_by Whole buffer j = get_or buffer j 0

-- the span that a plan draws
abbrev pub planned : Plan → Card → Span
planned p c = span p.first p.width (λ j. bit p.enable (j % 32)) (taken_by p.paint c.copier.buffer)

-- it can be drawn in n bytes: the span lies inside, and the whole copy buffer is 64 pixels
unfoldable pub drawable : Plan → ℕ → Bool
drawable p n = not (ltb n (p.first + p.width)) && (not (is_whole p.paint) || eqb p.width 64)

-- the card that it leaves
abbrev with_copier : Card → Copier → Card
with_copier c k = record { registers = c.registers; mask = c.mask; copier = k; line = c.line; held = c.held }

abbrev used : Card → Copier → Card
used c k = record { registers = c.registers; mask = used_up c.mask; copier = k; line = c.line; held = c.held }

-- the copier that has read pixels; its buffer stays where they do not all lie inside VRAM
unfoldable pub reads : Copier → Write → List ℕ → Copier
reads k w v =
    record { buffer = cond (leb (w.address + 32) (length v)) (sourced k.buffer w v) k.buffer; loaded = 0; writing = 1 }

unfoldable pub loads : Copier → Write → List ℕ → Copier
loads k w v =
    record {
      buffer = cond (leb (w.«data» + 64) (length v)) (take 64 (drop w.«data» v)) k.buffer;
      loaded = 1;
      writing = k.writing;
    }

unfoldable pub left : Effect → Card → Write → List ℕ → Card
left UsesMask c w v = used c c.copier
left ReadsSource c w v = used c (reads c.copier w v)
left DrawsDestination c w v = used c (record { buffer = c.copier.buffer; loaded = c.copier.loaded; writing = 0 })
left (Stores g x) c w v = stores c g x
left Loads c w v = with_copier c (loads c.copier w v)
left Unloads c w v = with_copier c (record { buffer = c.copier.buffer; loaded = 0; writing = c.copier.writing })
