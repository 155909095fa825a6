-- What one write leaves: the count, the picture, the number of pixels changed and the next card. A refused write counts none, changes none and leaves both.
use Rattle.std.specs.Prelude.{Bool, cond, not, ◌&&◌, List, [], ◌++◌, map, ℕ, ◌+◌, ◌-◌, ◌^◌, eqb, length, get_or, take, drop}
use Rattle.std.specs.Int.Bits.{bit_and}
use Rattle.raster.specs.Pixel.{bit}
use Rattle.span.specs.Fragments.{Fragment, listed}
use Rattle.span.specs.Layers.{drawn_all, changed_all, summed}
use Rattle.span.specs.Spans.{spanned, enabled_in}
use Rattle.card.specs.Registers.{row_at, is_set, ◌is◌}
use Rattle.card.specs.Access.{stores}
use Rattle.card.specs.declared.Card.{Card}
use Rattle.card.specs.declared.Copier.{Copier}
use Rattle.card.specs.declared.Line.{Line}
use Rattle.card.specs.declared.Mask.{Mask}
use Rattle.card.specs.declared.Write.{Write}
use Rattle.card.specs.declared.Register.{Register}
use Rattle.card.specs.declared.Register.TheVariants.{CopySource, CopyDestination}
use Rattle.rules.specs.Modes.{mode_of, is_copy, is_block, register_of, effective}
use Rattle.rules.specs.Lines.{walks, line_left, spans_of}
use Rattle.rules.specs.Refusal.{refusal}

abbrev pub accepted : Card → Write → ℕ → Bool
accepted c w n = eqb (refusal c w n) 0

-- the number of pixels enabled, whether or not a bit changes
unfoldable pub count : Card → Write → ℕ → ℕ
count c w n = cond (accepted c w n) (summed enabled_in (spans_of c w)) 0

-- what the write does at each address of VRAM, span by span
unfoldable pub layers : Card → Write → ℕ → List (ℕ → Fragment)
layers c w n = cond (accepted c w n) (map (spanned (effective c)) (spans_of c w)) []

-- a frame write in a block mode
abbrev pub in_block_mode : Card → Write → Bool
in_block_mode c w = eqb w.space 0 && is_block (mode_of c.registers.mode)

-- block modes ignore the raster operation and take the source
unfoldable pub operation : Card → Write → ℕ
operation c w = cond (in_block_mode c w) 3 c.registers.raster

-- the picture after
unfoldable pub picture : Card → Write → List ℕ → List ℕ
picture c w v = drawn_all (operation c w) (layers c w (length v)) v

-- the number of pixels changed, those whose byte is another afterwards (change requests, Ask 4): each span is judged on the picture before it
unfoldable pub changed : Card → Write → List ℕ → ℕ
changed c w v = changed_all (operation c w) (layers c w (length v)) v

-- a one-shot pixel mask is used up: all ones, and unmarked
abbrev pub used_up : Mask → Mask
used_up m = record { bits = cond (is_set m.marked) (2 ^ 32 - 1) m.bits; marked = 0 }

-- copy mode, read source: buffer byte i becomes pixel a + i where data bit i is set, else 0; bytes 32 to 63 stay
unfoldable pub sourced : List ℕ → Write → List ℕ → List ℕ
sourced buffer w v = listed 32 (λ i. cond (bit w.«data» i) (get_or v (w.address + i) 0) 0) ++ drop 32 buffer

-- the copier after an accepted frame write. Accepted copies alternate; reading the source unloads the buffer
abbrev pub alternated : Bool → Copier → Write → List ℕ → Copier
alternated copies k w v =
    let reads = copies && not (is_set k.writing) in
    record {
      buffer = cond reads (sourced k.buffer w v) k.buffer;
      loaded = cond reads 0 k.loaded;
      writing = cond reads 1 (cond copies 0 k.writing);
    }

-- what is kept for the next continue after an accepted write
unfoldable pub moved_line : Card → Write → Line
moved_line c w = cond (walks c w) (line_left c w) c.line

-- after an accepted frame write
unfoldable pub after_frame : Card → Write → List ℕ → Card
after_frame c w v =
    record {
      registers = c.registers;
      mask = used_up c.mask;
      copier = alternated (is_copy (mode_of c.registers.mode)) c.copier w v;
      line = moved_line c w;
      held = c.held;
    }

-- the copier after an accepted register write. The 64-byte source loads the buffer, the destination unloads it
abbrev pub carried : Register → Copier → Write → List ℕ → Copier
carried g k w v =
    record {
      buffer = cond (g is CopySource) (take 64 (drop w.«data» v)) k.buffer;
      loaded = cond (g is CopySource) 1 (cond (g is CopyDestination) 0 k.loaded);
      writing = k.writing;
    }

-- after an accepted register write
unfoldable pub after_register : Card → Write → List ℕ → Card
after_register c w v =
    let g = register_of w in
    let stored = stores c g (bit_and w.«data» (row_at w.address).kept) in
    record {
      registers = stored.registers;
      mask = stored.mask;
      copier = carried g stored.copier w v;
      line = moved_line c w;
      held = stored.held;
    }

-- the next card
unfoldable pub next : Card → Write → List ℕ → Card
next c w v = cond (accepted c w (length v)) (cond (eqb w.space 1) (after_register c w v) (after_frame c w v)) c
