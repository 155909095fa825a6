-- Samples S1 to S11 of the scope paper, each as it stands there, S6 as Ask 1 reads it, how many pixels they change, and four more for slips, computed from the definitions.
-- Assumes nothing.
use mathlib.Core.Path.{◌≡◌, refl}
use mathlib.Core.List.{List, [], ◌∷◌, ◌++◌}
use Prim.Native.Nat.{ℕ}
use lib.ListN.{replicate}
use Rattle.raster.specs.Pixel.{bit, number, result, made, composite}
use Rattle.raster.proofs.Samples.{s9}
use Rattle.span.specs.Fragments.{byte, from, before, drawn, counted, differing, listed}
use Rattle.span.specs.Layers.{drawn_all, changed_all}
use Rattle.card.specs.declared.Write.{Write}
use Rattle.card.specs.Registers.{row_at, row_in, table}
use Rattle.card.specs.Access.{stores}
use Rattle.card.specs.Reset.{reset_card}
use Rattle.span.specs.Spans.{spanned}
use Rattle.rules.specs.Modes.{mode_of, frame_span, effective_by}
use Rattle.rules.specs.Lines.{walks, spans_of}
use Rattle.rules.specs.Refusal.{bad_length, bad_space, bad_lanes, no_register, bad_mode, bad_raster, off_boundary, outside, unloaded, wild_walk, no_line, refusal}
use Rattle.rules.specs.Writes.{count, operation, layers, picture, changed, sourced, moved_line, after_frame, after_register, next}
use Rattle.rules.specs.Sequences.{card_after, picture_after}

-- a frame write with all four lanes, and a register write
abbrev pub frame : ℕ → ℕ → Write
frame a d = record { space = 0; lanes = 15; address = a; «data» = d }

abbrev pub reg : ℕ → ℕ → Write
reg a d = record { space = 1; lanes = 15; address = a; «data» = d }

abbrev pub zeros : ℕ → List ℕ
zeros n = replicate n 0

-- what the last write of a list leaves, counts and answers, from reset with no plane held on 64 zeros
abbrev pub shows : List Write → Write → List ℕ
shows ws w = picture_after (ws ++ (w ∷ [])) (reset_card 0) (zeros 64)

abbrev pub counts : List Write → Write → ℕ
counts ws w = count (card_after ws (reset_card 0) (zeros 64)) w 64

abbrev pub answers : List Write → Write → ℕ
answers ws w = refusal (card_after ws (reset_card 0) (zeros 64)) w 64

abbrev pub S1 : Type 0
S1 = (shows [] (frame 0 0x44332211) ≡ 0x11 ∷ 0x22 ∷ 0x33 ∷ 0x44 ∷ zeros 60) × (counts [] (frame 0 0x44332211) ≡ 4)

abbrev lanes_5 : Write
lanes_5 = record { space = 0; lanes = 5; address = 0; «data» = 0x44332211 }

abbrev pub S2 : Type 0
S2 = (shows [] lanes_5 ≡ 0x11 ∷ 0 ∷ 0x33 ∷ zeros 61) × (counts [] lanes_5 ≡ 2)

-- H = 80h, all FFh
abbrev pub S3 : Type 0
S3 = picture (reset_card 0x80) (frame 0 0) (replicate 64 0xFF) ≡ replicate 4 0x80 ++ replicate 60 0xFF

abbrev stipple : List Write
stipple = reg 0x0030 0x05 ∷ reg 0x0020 0xAAAAAAAA ∷ []

abbrev pub S4 : Type 0
S4 =
    (shows stipple (frame 32 0x80000001) ≡ zeros 32 ++ (0xAA ∷ zeros 30 ++ (0xAA ∷ []))) × (counts stipple (frame 32 0x80000001) ≡ 2)

abbrev pub S5 : Type 0
S5 = answers stipple (frame 36 0x80000001) ≡ 8

abbrev fill : List Write
fill = reg 0x0030 0x21 ∷ reg 0x0020 0x01010101 ∷ reg 0x0024 0x02020202 ∷ reg 0x0080 0xF ∷ []

abbrev pub S6 : Type 0
S6 =
    (shows fill (frame 0 0x00020005) ≡ zeros 2 ++ (replicate 2 1 ++ (replicate 4 2 ++ zeros 56))) × (counts fill (frame 0 0x00020005) ≡ 6)

-- block fill with this mask
abbrev blocks : ℕ → List Write
blocks mask = reg 0x0030 0x2D ∷ reg 0x0140 0x03020100 ∷ reg 0x0144 0x07060504 ∷ reg 0x0080 mask ∷ []

abbrev pub S7 : Type 0
S7 = shows (blocks 0xFFFFFFFF) (frame 4 3) ≡ zeros 4 ++ (4 ∷ 5 ∷ 6 ∷ 7 ∷ zeros 56)

abbrev planes : List Write
planes = reg 0x0028 0x0F ∷ []

abbrev pub S8 : Type 0
S8 = (shows planes (frame 0 0xFFFFFFFF) ≡ 0x0F ∷ zeros 63) × (counts planes (frame 0 0xFFFFFFFF) ≡ 4)

abbrev pub S9 : Type 0
S9 = (composite 6 6 ≡ 5) × (composite 3 6 ≡ 0) × (composite 1 7 ≡ 3) × (composite 6 1 ≡ 2)

-- bytes 0 to 31 equal their index
abbrev ramp : List ℕ
ramp = listed 32 (λ i. i) ++ zeros 32

abbrev copying : List Write
copying = reg 0x0030 0x07 ∷ []

abbrev pub S10 : Type 0
S10 =
    (picture_after (copying ++ (frame 0 0xFFFFFFFF ∷ frame 32 0xFFFF ∷ [])) (reset_card 0) ramp ≡ listed 32 (λ i. i) ++ (listed 16 (λ i. i) ++ zeros 16))
    × (count (card_after copying (reset_card 0) ramp) (frame 0 0xFFFFFFFF) 64 ≡ 0)
    × (count (card_after (copying ++ (frame 0 0xFFFFFFFF ∷ [])) (reset_card 0) ramp) (frame 32 0xFFFF) 64 ≡ 16)

abbrev pub S11 : Type 0
S11 = answers [] (reg 0x0164 0) ≡ 9

-- beside the paper's samples, for its slip: a copy whose destination overlaps its source draws the pixels as they were read
abbrev pub Overlap : Type 0
Overlap =
    picture_after (copying ++ (frame 0 0xFFFFFFFF ∷ frame 8 0xFFFFFFFF ∷ [])) (reset_card 0) ramp ≡ listed 8 (λ i. i) ++ (listed 32 (λ i. i) ++ zeros 24)

-- and the 64-byte copy leaves the held plane of its destination as it was
abbrev pub HeldCopy : Type 0
HeldCopy =
    picture_after (reg 0x0160 0 ∷ reg 0x0164 64 ∷ []) (reset_card 0x80) (zeros 64 ++ replicate 64 0xFF) ≡ zeros 64 ++ replicate 64 0x80

-- S6's mask and data in the other two fills: only pixels 2 and 3 are drawn
abbrev transparent : List Write
transparent = reg 0x0030 0x45 ∷ reg 0x0020 0x01010101 ∷ reg 0x0080 0xF ∷ []

abbrev pub SlidFills : Type 0
SlidFills =
    (shows transparent (frame 0 0x00020005) ≡ zeros 2 ++ (1 ∷ 1 ∷ zeros 60))
    × (counts transparent (frame 0 0x00020005) ≡ 2)
    × (shows (blocks 0xF) (frame 0 0x00020005) ≡ zeros 2 ++ (2 ∷ 3 ∷ zeros 60))
    × (counts (blocks 0xF) (frame 0 0x00020005) ≡ 2)

-- an opaque stipple, its lowest bit first, under a pixel mask: no sample of the paper is one
abbrev masked : List Write
masked = reg 0x0030 0x01 ∷ reg 0x0020 0x01010101 ∷ reg 0x0024 0x02020202 ∷ reg 0x005C 0xFF ∷ []

abbrev pub LowestFirst : Type 0
LowestFirst = (shows masked (frame 0 0xF) ≡ replicate 4 1 ++ (replicate 4 2 ++ zeros 56)) × (counts masked (frame 0 0xF) ≡ 8)

-- how many pixels the last write of a list changes
abbrev pub changes : List Write → Write → ℕ
changes ws w = changed (card_after ws (reset_card 0) (zeros 64)) w (picture_after ws (reset_card 0) (zeros 64))

-- Ask 4, worked out by hand from the pictures of S1 to S8, S10 and S11: in S8 one pixel of the four enabled changes, in S10 pixel 32 takes the 0 that it has, and what is refused changes none
abbrev pub Changes : Type 0
Changes =
    (changes [] (frame 0 0x44332211) ≡ 4)
    × (changes [] lanes_5 ≡ 2)
    × (changed (reset_card 0x80) (frame 0 0) (replicate 64 0xFF) ≡ 4)
    × (changes stipple (frame 32 0x80000001) ≡ 2)
    × (changes stipple (frame 36 0x80000001) ≡ 0)
    × (changes fill (frame 0 0x00020005) ≡ 6)
    × (changes (blocks 0xFFFFFFFF) (frame 4 3) ≡ 4)
    × (changes planes (frame 0 0xFFFFFFFF) ≡ 1)
    × (changed (card_after copying (reset_card 0) ramp) (frame 0 0xFFFFFFFF) ramp ≡ 0)
    × (changed (card_after (copying ++ (frame 0 0xFFFFFFFF ∷ [])) (reset_card 0) ramp) (frame 32 0xFFFF) ramp ≡ 15)
    × (changes [] (reg 0x0164 0) ≡ 0)

computed : (S1 × S2 × S3 × S4 × S5 × S6 × S7 × S8 × S9 × S10 × S11) × Overlap × HeldCopy × SlidFills × LowestFirst × Changes
unfolding card_after picture_after refusal bad_length bad_space bad_lanes no_register bad_mode bad_raster off_boundary outside unloaded wild_walk no_line walks moved_line mode_of frame_span spans_of spanned effective_by count operation layers picture changed sourced after_frame after_register next reset_card row_at row_in table stores byte from before drawn drawn_all changed_all counted differing listed made number result bit
computed = (((refl, refl), (refl, refl), refl, (refl, refl), refl, (refl, refl), refl, (refl, refl), s9, (refl, refl, refl), refl), refl, refl, (refl, refl, refl, refl), (refl, refl), (refl, refl, refl, refl, refl, refl, refl, refl, refl, refl, refl))

pub samples : S1 × S2 × S3 × S4 × S5 × S6 × S7 × S8 × S9 × S10 × S11
samples = computed.0

pub overlap : Overlap
overlap = computed.1

pub held_copy : HeldCopy
held_copy = computed.2

pub slid_fills : SlidFills
slid_fills = computed.3

pub lowest_first : LowestFirst
lowest_first = computed.4

pub changes_samples : Changes
changes_samples = computed.5
