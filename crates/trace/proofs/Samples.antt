-- Sample S12 of the scope paper, with the write of S1: its bytes, and that they are read back. With it S1 to S12 stand together. And a run of two
-- writes that changes each pixel twice (Ask 4). Assumes nothing.
use mathlib.Core.Path.{◌≡◌, refl}
use mathlib.Core.List.{List, [], ◌∷◌}
use Prim.Native.Nat.{ℕ}
use lib.ListN.{replicate}
use Rattle.raster.specs.Pixel.{bit, number, result, made}
use Rattle.span.specs.Fragments.{byte, from, before, drawn, counted, differing, listed}
use Rattle.span.specs.Layers.{drawn_all, changed_all}
use Rattle.span.specs.Spans.{spanned}
use Rattle.card.specs.declared.Write.{Write}
use Rattle.card.specs.Registers.{row_at, row_in, table}
use Rattle.card.specs.Reset.{reset_card}
use Rattle.rules.specs.Modes.{mode_of, frame_span, effective_by}
use Rattle.rules.specs.Lines.{walks, spans_of}
use Rattle.rules.specs.Refusal.{bad_length, bad_space, bad_lanes, no_register, bad_mode, bad_raster, off_boundary, outside, unloaded, wild_walk, no_line, refusal}
use Rattle.rules.specs.Writes.{count, operation, layers, picture, changed, sourced, moved_line, after_frame, after_register, next}
use Rattle.rules.proofs.Samples.{S1, S2, S3, S4, S5, S6, S7, S8, S9, S10, S11, samples}
use Rattle.format.specs.Bytes.{word, bytes}
use Rattle.trace.specs.Run.{State, nothing, apply, refuse, ran}
use Rattle.format.specs.Traces.{header, entry, entries, encoded, write_at, writes_at, padded_at, writes, well_formed_up_to, good_header_up_to, fits_header_up_to, is_trace_up_to, trace, decoded, decoded_up_to}

abbrev s1_write : Write
s1_write = record { space = 0; lanes = 15; address = 0; «data» = 0x44332211 }

abbrev pub s12_bytes : List ℕ
s12_bytes =
    0x01 ∷ 0x00 ∷ 0x00 ∷ 0x00
    ∷ 0x10 ∷ 0x00 ∷ 0x00 ∷ 0x00
    ∷ 0x40 ∷ 0x00 ∷ 0x00 ∷ 0x00
    ∷ 0x1C ∷ 0x00 ∷ 0x00 ∷ 0x00
    ∷ 0x00 ∷ 0x0F ∷ 0x00 ∷ 0x00
    ∷ 0x00 ∷ 0x00 ∷ 0x00 ∷ 0x00
    ∷ 0x11 ∷ 0x22 ∷ 0x33 ∷ 0x44
    ∷ []

abbrev pub S12 : Type 0
S12 = (encoded 64 (s1_write ∷ []) ≡ s12_bytes) × (decoded s12_bytes ≡ trace 64 (s1_write ∷ []))

pub s12 : S12
unfolding encoded header entries entry bytes byte decoded_up_to is_trace_up_to fits_header_up_to good_header_up_to well_formed_up_to padded_at writes writes_at write_at word bad_length
s12 = (refl, refl)

pub all_samples : (S1 × S2 × S3 × S4 × S5 × S6 × S7 × S8 × S9 × S10 × S11) × S12
all_samples = (samples, s12)

-- Ask 4: the write of S1, and then four zeros, which take it back. Each pixel is changed twice, and counts twice
abbrev there_and_back : State
there_and_back =
    ran (s1_write ∷ record { space = 0; lanes = 15; address = 0; «data» = 0 } ∷ []) 2 (nothing 0 (reset_card 0) (replicate 64 0))

pub changed_twice : (there_and_back.changed ≡ 8) × (there_and_back.picture ≡ replicate 64 0)
unfolding ran apply refuse reset_card row_at row_in table bit number result made byte from before drawn counted differing listed drawn_all changed_all spanned mode_of frame_span spans_of effective_by bad_length bad_space bad_lanes no_register bad_mode bad_raster off_boundary outside unloaded wild_walk no_line walks refusal count operation layers picture changed sourced moved_line after_frame after_register next
changed_twice = (refl, refl)
