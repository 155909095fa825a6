-- The trace of sample S12, with the write of S1, comes in three chunks, one of them empty, and ends: it draws what S1 draws. With its last
-- byte missing it answers 10 at the end call and draws nothing. Computed from the definitions. Assumes nothing.
use mathlib.Core.Path.{◌≡◌, refl}
use mathlib.Core.List.{List, [], ◌∷◌}
use Prim.Native.Nat.{ℕ}
use lib.ListN.{take, drop, replicate}
use Rattle.raster.specs.Pixel.{bit, number, result, made}
use Rattle.span.specs.Fragments.{byte as byte_at, from, before, drawn, counted, differing, listed}
use Rattle.span.specs.Layers.{drawn_all, changed_all}
use Rattle.span.specs.Spans.{spanned}
use Rattle.card.specs.Registers.{row_at, row_in, table}
use Rattle.card.specs.Reset.{reset_card}
use Rattle.rules.specs.Modes.{mode_of, frame_span, effective_by}
use Rattle.rules.specs.Lines.{walks, spans_of}
use Rattle.rules.specs.Refusal.{bad_length, bad_space, bad_lanes, no_register, bad_mode, bad_raster, off_boundary, outside, unloaded, wild_walk, no_line, refusal}
use Rattle.rules.specs.Writes.{count, operation, layers, picture, changed, sourced, moved_line, after_frame, after_register, next}
use Rattle.format.specs.Bytes.{word}
use Rattle.format.specs.Traces.{write_at, good_header_up_to}
use Rattle.trace.specs.Run.{State, nothing, apply, refuse, ran}
use Rattle.trace.proofs.Samples.{s12_bytes}
use Rattle.line.specs.Serial.{new_reader, state_of, complete, bad_pad, waits, opens, draws, byte_up_to, reads_up_to, sound_up_to, chunk_up_to, chunks, chunks_up_to, ended_up_to, finished}
use Rattle.line.proofs.Arriving.{fresh}

-- the first 20 bytes, none, the 7 or 8 that are left
abbrev pieces : ℕ → List (List ℕ)
pieces n = take 20 s12_bytes ∷ [] ∷ take n (drop 20 s12_bytes) ∷ []

abbrev after : ℕ → State
after n = state_of (finished (chunks (pieces n) (fresh (reset_card 0) (replicate 64 0))))

pub arrived : ((after 8).number ≡ 0) × ((after 8).applied ≡ 1) × ((after 8).pixels ≡ 4) × ((after 8).changed ≡ 4) × ((after 8).picture ≡ 0x11 ∷ 0x22 ∷ 0x33 ∷ 0x44 ∷ replicate 60 0)
unfolding new_reader complete bad_pad waits opens draws byte_up_to reads_up_to sound_up_to chunk_up_to chunks_up_to ended_up_to word write_at good_header_up_to ran apply refuse reset_card row_at row_in table bit number result made byte_at from before drawn counted differing listed drawn_all changed_all spanned mode_of frame_span spans_of effective_by bad_length bad_space bad_lanes no_register bad_mode bad_raster off_boundary outside unloaded wild_walk no_line walks refusal count operation layers picture changed sourced moved_line after_frame after_register next
arrived = (refl, refl, refl, refl, refl)

pub broken_off : after 7 ≡ nothing 10 (reset_card 0) (replicate 64 0)
unfolding new_reader complete bad_pad waits opens byte_up_to reads_up_to sound_up_to chunk_up_to chunks_up_to ended_up_to word good_header_up_to bad_length
broken_off = refl
