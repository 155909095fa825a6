-- Why demand 3's equation asks of a line or a continue that it visits no pixel twice: a line of two visits to pixel 0 with all bits set, drawn with 0 (clear)
-- and then with 6 (exclusive-or), clears the pixel and inverts it twice; drawn with their composite it sets and sets it. Assumes nothing.
use mathlib.Core.Path.{◌≡◌, refl, ap}
use mathlib.Core.List.{List, [], ◌∷◌}
use Prim.Native.Nat.{ℕ}
use native.Mathlib.Omega.{arith}
use lib.ListN.{get_or, replicate}
use Rattle.raster.specs.Pixel.{bit, number, result, made, composite, Operations, only, ◌then◌, composite_of}
use Rattle.span.specs.Fragments.{byte, from, before, drawn}
use Rattle.span.specs.Layers.{drawn_all}
use Rattle.span.specs.Spans.{spanned}
use Rattle.card.specs.declared.Card.{Card}
use Rattle.card.specs.declared.Write.{Write}
use Rattle.card.specs.Registers.{row_at, row_in, table}
use Rattle.card.specs.Access.{stores}
use Rattle.card.specs.Reset.{reset_card}
use Rattle.rules.specs.Modes.{mode_of, frame_span, effective_by}
use Rattle.rules.specs.Lines.{walks, start, visit_count, visits_of, visits, stepped, walked, line_left, dots, spans_of}
use Rattle.rules.specs.Refusal.{bad_length, bad_space, bad_lanes, no_register, bad_mode, bad_raster, off_boundary, outside, unloaded, wild_walk, no_line, refusal}
use Rattle.rules.specs.Writes.{operation, layers, picture, moved_line, after_frame, after_register, next}
use Rattle.rules.specs.Sequences.{card_after, drawn_with, drawn_with_each}

abbrev register : ℕ → ℕ → Write
register a d = record { space = 1; lanes = 15; address = a; «data» = d }

abbrev screen : List ℕ
screen = replicate 64 0

-- transparent line with the cap bit, every bit of the foreground set, length 2 and increments 0
abbrev card : Card
card = card_after (register 0x0030 0x8006 ∷ register 0x0020 0xFFFFFFFF ∷ register 0x0048 2 ∷ []) (reset_card 0) screen

abbrev line : Write
line = record { space = 0; lanes = 15; address = 0; «data» = 3 }

abbrev operations : Operations
operations = only 0 then 6

-- the line is accepted; pixel 0 after both draws, and after one with the composite
pub record Differs : Type 0 where
  pub accepted : refusal card line 64 ≡ 0
  pub one_by_one : get_or (drawn_with_each operations card line screen) 0 0 ≡ 0
  pub at_once : get_or (drawn_with (composite_of operations) card line screen) 0 0 ≡ 0xFF

pub differs : Differs
unfolding card_after drawn_with_each composite_of refusal bad_length bad_space bad_lanes no_register bad_mode bad_raster off_boundary outside unloaded wild_walk no_line walks start visit_count visits_of visits stepped walked line_left dots moved_line mode_of frame_span spans_of spanned effective_by operation layers picture after_frame after_register next reset_card row_at row_in table stores byte from before drawn drawn_all made composite number result bit
differs = record { accepted = refl; one_by_one = refl; at_once = refl }

-- so the equation does not hold of it
pub does_not_compose : drawn_with_each operations card line screen ≡ drawn_with (composite_of operations) card line screen → ⊥
does_not_compose e = omega (arith, differs.one_by_one, differs.at_once, ap (λ (v : List ℕ). get_or v 0 0) e)
