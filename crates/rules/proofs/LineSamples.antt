-- Samples of Ask 5, each worked out by hand from the request and computed from the definitions, all from reset with no plane held on 64 zeros. A walk is
-- written as places, each with the error that it is visited with, and what is kept after an arrow. Assumes nothing.
use mathlib.Core.Path.{◌≡◌, refl}
use mathlib.Core.List.{List, [], ◌∷◌, ◌++◌}
use Prim.Native.Nat.{ℕ}
use lib.ListN.{replicate}
use Rattle.raster.specs.Pixel.{bit, number, result, made}
use Rattle.span.specs.Fragments.{byte, from, before, drawn, counted, differing}
use Rattle.span.specs.Layers.{drawn_all, changed_all}
use Rattle.span.specs.Spans.{spanned}
use Rattle.card.specs.declared.Line.{Line}
use Rattle.card.specs.declared.Write.{Write}
use Rattle.card.specs.Registers.{row_at, row_in, table}
use Rattle.card.specs.Access.{stores}
use Rattle.card.specs.Reset.{reset_card}
use Rattle.rules.specs.Modes.{mode_of, frame_span, effective_by}
use Rattle.rules.specs.Lines.{walks, start, visit_count, visits_of, visits, stepped, walked, line_left, dots, spans_of}
use Rattle.rules.specs.Refusal.{bad_length, bad_space, bad_lanes, no_register, bad_mode, bad_raster, off_boundary, outside, unloaded, wild_walk, no_line, refusal}
use Rattle.rules.specs.Writes.{count, operation, layers, picture, changed, sourced, moved_line, after_frame, after_register, next}
use Rattle.rules.specs.Sequences.{card_after, picture_after}
use Rattle.rules.proofs.Samples.{frame, reg, zeros, shows, counts, answers, changes}

-- continue with a mask
abbrev continue : ℕ → Write
continue mask = reg 0x004C mask

-- what is kept after a list of writes
abbrev keeps : List Write → Line
keeps ws = (card_after ws (reset_card 0) (zeros 64)).line

abbrev kept : ℕ → ℕ → Line
kept place error = record { place = place; error = error; kept = 1 }

-- -1 in a word
abbrev minus_one : ℕ
minus_one = 0xFFFFFFFF

-- a mode, foreground 01 and background 02 everywhere, and Bresenham 1, 2 and 3
abbrev set : (mode one two three : ℕ) → List Write
set mode one two three =
    reg 0x0030 mode ∷ reg 0x0020 0x01010101 ∷ reg 0x0024 0x02020202 ∷ reg 0x0040 one ∷ reg 0x0044 two ∷ reg 0x0048 three ∷ []

-- 9(-1) 10(3) 19(-3) 20(1) 29(-5) -> 30(-1): +4 is 3, -6 is -3, +4 is 1, -6 is -5, +4 is -1. The data's bits 17:16 are 1; its mask is 13h,
-- so visits 0, 1 and 4 are foreground, 2 and 3 background
abbrev sloped : ℕ → List Write
sloped mode = set mode 0x00010004 0x00090006 0xFFFF8005

abbrev along : Write
along = frame 8 0x00010013

abbrev pub Capped : Type 0
Capped =
    (shows (sloped 0x8002) along ≡ zeros 9 ++ (1 ∷ 1 ∷ zeros 8 ++ (2 ∷ 2 ∷ zeros 8 ++ (1 ∷ zeros 34))))
    × (counts (sloped 0x8002) along ≡ 5)
    × (changes (sloped 0x8002) along ≡ 5)
    × (keeps (sloped 0x8002 ++ (along ∷ [])) ≡ kept 30 minus_one)

-- the cap bit clear: 29 is visited and stepped from, and not drawn
abbrev pub Uncapped : Type 0
Uncapped =
    (shows (sloped 0x0002) along ≡ zeros 9 ++ (1 ∷ 1 ∷ zeros 8 ++ (2 ∷ 2 ∷ zeros 43)))
    × (counts (sloped 0x0002) along ≡ 4)
    × (keeps (sloped 0x0002 ++ (along ∷ [])) ≡ kept 30 minus_one)

-- transparent: 19 and 20 are left alone
abbrev pub Masked : Type 0
Masked =
    (shows (sloped 0x8006) along ≡ zeros 9 ++ (1 ∷ 1 ∷ zeros 18 ++ (1 ∷ zeros 34))) × (counts (sloped 0x8006) along ≡ 3)

-- 63(0) 64(0): the last visit would not be drawn, and lies outside. With one visit, 63(0) -> 64(0), the place kept lies outside, and a continue
-- from there answers 8
abbrev level : ℕ → ℕ → List Write
level mode length = set mode 0 0x00010000 length

abbrev pub Undrawn : Type 0
Undrawn =
    (answers (level 0x0006 2) (frame 60 0x0003FFFF) ≡ 8)
    × (answers (level 0x0006 1) (frame 60 0x0003FFFF) ≡ 0)
    × (answers (level 0x0006 1 ++ (frame 60 0x0003FFFF ∷ [])) (continue 0) ≡ 8)

-- address increment 2 is -1: 2(0) 1(0) 0(0) -> -1(0), and a fourth visit would lie below 0
abbrev pub BelowZero : Type 0
BelowZero =
    (answers (set 0x8006 0 0xFFFF0000 4) (frame 0 0x0002FFFF) ≡ 8)
    × (counts (set 0x8006 0 0xFFFF0000 3) (frame 0 0x0002FFFF) ≡ 3)
    × (keeps (set 0x8006 0 0xFFFF0000 3 ++ (frame 0 0x0002FFFF ∷ [])) ≡ kept minus_one 0)
    × (answers (set 0x8006 0 0xFFFF0000 3 ++ (frame 0 0x0002FFFF ∷ [])) (continue 0) ≡ 8)

-- 0(0), and 0 less -32,768 is 32,768, which does not fit after the last step; less -32,767 it is 32,767, which does
abbrev pub LastStep : Type 0
LastStep =
    (answers (set 0x8006 0 0x00018000 1) (frame 0 1) ≡ 12)
    × (answers (set 0x8006 0 0x00018001 1) (frame 0 1) ≡ 0)
    × (keeps (set 0x8006 0 0x00018001 1 ++ (frame 0 1 ∷ [])) ≡ kept 1 32767)

-- 0(0) 64(32768): outside, and its error too: 8 comes first. 12 for an error of 32,768 at the start
abbrev pub InOrder : Type 0
InOrder =
    (answers (set 0x8006 0 0x00408000 2) (frame 0 3) ≡ 8) × (answers (set 0x8006 0 0 0x40000001) (frame 0 1) ≡ 12)

-- bit 15 of Bresenham 3 is the lowest of the initial error: 0(1) 2(0) 4(-1), so that the second step, too, goes by increment 2
abbrev pub Bit15 : Type 0
Bit15 = shows (set 0x8006 0x00010000 0x00020001 0x00008003) (frame 0 7) ≡ 1 ∷ 0 ∷ 1 ∷ 0 ∷ 1 ∷ zeros 59

-- 4(0) 5(0) 6(0) -> 7(0), 6 not drawn; on from 7 to 22 by bits 0, 1 and 15, of which 22 is not drawn; the place outlasts mode writes; with the cap
-- bit, on from 23 to 38
abbrev going : List Write
going = level 0x0006 3 ++ (frame 4 7 ∷ [])

abbrev gone : List Write
gone = going ++ (continue 0x8003 ∷ reg 0x0030 0x00 ∷ reg 0x0030 0x8006 ∷ [])

abbrev pub Continued : Type 0
Continued =
    (shows going (continue 0x8003) ≡ zeros 4 ++ (1 ∷ 1 ∷ 0 ∷ 1 ∷ 1 ∷ zeros 55))
    × (counts going (continue 0x8003) ≡ 2)
    × (shows gone (continue 0x8001) ≡ zeros 4 ++ (1 ∷ 1 ∷ 0 ∷ 1 ∷ 1 ∷ zeros 14 ++ (1 ∷ zeros 14 ++ (1 ∷ zeros 25))))
    × (keeps (gone ++ (continue 0x8001 ∷ [])) ≡ kept 39 0)

-- before any accepted line 13, also after a refused one; outside the line modes 5, also after a line
abbrev pub NotYet : Type 0
NotYet =
    (answers (level 0x8006 1) (continue 1) ≡ 13)
    × (answers (level 0x8006 1 ++ (frame 64 1 ∷ [])) (continue 1) ≡ 13)
    × (answers (level 0x0005 1) (continue 1) ≡ 5)
    × (answers (going ++ (reg 0x0030 0x05 ∷ [])) (continue 1) ≡ 5)

-- length 0 means 16: 3(0) to 18(0)
abbrev pub Sixteen : Type 0
Sixteen =
    (counts (level 0x8006 0) (frame 0 0x0003FFFF) ≡ 16) × (shows (level 0x8006 0) (frame 0 0x0003FFFF) ≡ zeros 3 ++ (replicate 16 1 ++ zeros 45))

-- increments 0: pixel 9 twice by exclusive-or with 01. Each visit is judged by itself: two are changed, and the picture is as it was
abbrev twice : List Write
twice = set 0x8006 0 0 2 ++ (reg 0x0034 6 ∷ [])

abbrev pub OnePixel : Type 0
OnePixel =
    (counts twice (frame 8 0x00010003) ≡ 2) × (changes twice (frame 8 0x00010003) ≡ 2) × (shows twice (frame 8 0x00010003) ≡ zeros 64)

-- a line draws without the pixel mask and uses a one-shot one up; a continue does not
abbrev pub PixelMask : Type 0
PixelMask =
    (counts (level 0x8006 4 ++ (reg 0x002C 0 ∷ [])) (frame 8 0xF) ≡ 4)
    × ((card_after (level 0x8006 4 ++ (reg 0x002C 0 ∷ frame 8 0xF ∷ [])) (reset_card 0) (zeros 64)).mask ≡ record { bits = 0xFFFFFFFF; marked = 0 })
    × ((card_after (going ++ (reg 0x002C 0 ∷ continue 3 ∷ [])) (reset_card 0) (zeros 64)).mask ≡ record { bits = 0; marked = 1 })

pub line_samples : Capped × Uncapped × Masked × Undrawn × BelowZero × LastStep × InOrder × Bit15 × Continued × NotYet × Sixteen × OnePixel × PixelMask
unfolding card_after picture_after refusal bad_length bad_space bad_lanes no_register bad_mode bad_raster off_boundary outside unloaded wild_walk no_line walks start visit_count visits_of visits stepped walked line_left dots moved_line mode_of frame_span spans_of spanned effective_by count operation layers picture changed sourced after_frame after_register next reset_card row_at row_in table stores byte from before drawn drawn_all changed_all counted differing made number result bit
line_samples = (
  (refl, refl, refl, refl),
  (refl, refl, refl),
  (refl, refl),
  (refl, refl, refl),
  (refl, refl, refl, refl),
  (refl, refl, refl),
  (refl, refl),
  refl,
  (refl, refl, refl, refl),
  (refl, refl, refl, refl),
  (refl, refl),
  (refl, refl, refl),
  (refl, refl, refl),
)
