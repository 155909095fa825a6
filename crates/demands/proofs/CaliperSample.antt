-- The caliper's conditions can be met by a list that draws: the operation set to exclusive-or, then four pixels. Assumes nothing.
use mathlib.Core.Path.{◌≡◌, refl}
use mathlib.Core.List.{List, [], ◌∷◌}
use mathlib.Core.Logic.{inl, inr}
use lib.ListN.{replicate}
use Rattle.raster.specs.Pixel.{bit, number, result, made}
use Rattle.span.specs.Fragments.{byte, from, before, drawn, counted, differing, listed}
use Rattle.span.specs.Layers.{drawn_all, changed_all}
use Rattle.span.specs.Spans.{spanned}
use Rattle.card.specs.declared.Write.{Write}
use Rattle.card.specs.Registers.{row_at, row_in, table}
use Rattle.card.specs.Access.{stores}
use Rattle.card.specs.Reset.{reset_card}
use Rattle.rules.specs.Modes.{mode_of, frame_span, effective_by}
use Rattle.rules.specs.Lines.{walks, spans_of}
use Rattle.rules.specs.Refusal.{bad_length, bad_space, bad_lanes, no_register, bad_mode, bad_raster, off_boundary, outside, unloaded, wild_walk, no_line, refusal}
use Rattle.rules.specs.Writes.{count, operation, layers, picture, changed, sourced, moved_line, after_frame, after_register, next}
use Rattle.rules.specs.Sequences.{answers_of, EachUndoable}

abbrev caliper : List Write
caliper =
    record { space = 1; lanes = 15; address = 0x0034; «data» = 6 } ∷ record { space = 0; lanes = 15; address = 0; «data» = 0x44332211 } ∷ []

pub met : EachUndoable caliper (reset_card 0) (replicate 64 0)
    × (answers_of caliper (reset_card 0) (replicate 64 0) ≡ (0, 0, 0) ∷ (0, 4, 4) ∷ [])
unfolding answers_of refusal bad_length bad_space bad_lanes no_register bad_mode bad_raster off_boundary outside unloaded wild_walk no_line walks moved_line mode_of frame_span spans_of spanned effective_by count operation layers picture changed sourced after_frame after_register next reset_card row_at row_in table stores byte from before drawn drawn_all changed_all counted differing listed made number result bit
met = ((record { drawing = inl refl; reading = refl }, (record { drawing = inr (tt, refl); reading = refl }, tt)), refl)
