-- Why demand 3's draws are alike in number and count and not in the pixels changed: four pixels, drawn twice with operation 3. Assumes nothing.
use mathlib.Core.Path.{◌≡◌, refl}
use mathlib.Core.List.{List}
use Prim.Native.Nat.{ℕ}
use lib.ListN.{length, replicate}
use Rattle.raster.specs.Pixel.{bit, number, result, made}
use Rattle.span.specs.Fragments.{byte, from, before, drawn, counted, differing}
use Rattle.span.specs.Layers.{drawn_all, changed_all}
use Rattle.span.specs.Spans.{spanned}
use Rattle.card.specs.declared.Card.{Card}
use Rattle.card.specs.declared.Write.{Write}
use Rattle.card.specs.Registers.{row_at, row_in, table}
use Rattle.card.specs.Reset.{reset_card}
use Rattle.rules.specs.Modes.{mode_of, frame_span, effective_by}
use Rattle.rules.specs.Lines.{walks, spans_of}
use Rattle.rules.specs.Refusal.{bad_length, bad_space, bad_lanes, no_register, bad_mode, bad_raster, off_boundary, outside, unloaded, wild_walk, no_line, refusal}
use Rattle.rules.specs.Writes.{count, operation, layers, picture, changed}
use Rattle.rules.specs.Sequences.{with_operation, drawn_with}

abbrev draw : Write
draw = record { space = 0; lanes = 15; address = 0; «data» = 0x44332211 }

abbrev card : Card
card = with_operation 3 (reset_card 0)

abbrev screen : List ℕ
screen = replicate 64 0

-- both draws enable four pixels; the first changes four, the second none
pub record NotAlike : Type 0 where
  pub enabled : (count card draw (length screen) ≡ 4) × (count card draw (length (drawn_with 3 (reset_card 0) draw screen)) ≡ 4)
  pub first : changed card draw screen ≡ 4
  pub second : changed card draw (drawn_with 3 (reset_card 0) draw screen) ≡ 0

pub not_alike : NotAlike
unfolding refusal bad_length bad_space bad_lanes no_register bad_mode bad_raster off_boundary outside unloaded wild_walk no_line walks mode_of frame_span spans_of spanned effective_by count operation layers picture changed reset_card row_at row_in table byte from before drawn drawn_all changed_all counted differing made number result bit
not_alike = record { enabled = (refl, refl); first = refl; second = refl }
