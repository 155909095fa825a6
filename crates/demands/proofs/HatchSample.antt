-- The conditions of two hatches side by side can be met: 33 pixels with low bits 1, and 10 more with low bits 2. Assumes nothing.
use mathlib.Core.Path.{refl}
use mathlib.Core.List.{[], ◌∷◌}
use lib.ListN.{replicate}
use Rattle.span.specs.Layers.{drawn_all}
use Rattle.card.specs.declared.Card.{Card}
use Rattle.card.specs.declared.Write.{Write}
use Rattle.card.specs.Registers.{row_at, row_in, table}
use Rattle.card.specs.Access.{stores}
use Rattle.card.specs.Reset.{reset_card}
use Rattle.rules.specs.Modes.{mode_of, frame_span}
use Rattle.rules.specs.Lines.{walks, spans_of}
use Rattle.rules.specs.Refusal.{bad_length, bad_space, bad_lanes, no_register, bad_mode, bad_raster, off_boundary, outside, unloaded, wild_walk, no_line, refusal}
use Rattle.rules.specs.Writes.{layers, picture, after_register, next}
use Rattle.rules.specs.Sequences.{card_after}
use Rattle.demands.proofs.Seam.{transparent_fill}
use Rattle.demands.proofs.Hatch.{Fills, Across}

-- transparent fill, with every other bit of the mask set
abbrev hatching : Card
hatching =
    card_after
    (record { space = 1; lanes = 15; address = 0x0030; «data» = 0x45 } ∷ record { space = 1; lanes = 15; address = 0x0080; «data» = 0x55555555 } ∷ [])
    (reset_card 0) (replicate 64 0)

abbrev left : Write
left = record { space = 0; lanes = 15; address = 0; «data» = 0x00010020 }

abbrev right : Write
right = record { space = 0; lanes = 15; address = 32; «data» = 0x00020009 }

abbrev both : Write
both = record { space = 0; lanes = 15; address = 0; «data» = 0x0001002A }

pub met : Across left right both × Fills transparent_fill hatching left 64 × Fills transparent_fill hatching right 64 × Fills transparent_fill hatching both 64
unfolding card_after refusal bad_length bad_space bad_lanes no_register bad_mode bad_raster off_boundary outside unloaded wild_walk no_line walks mode_of frame_span spans_of layers picture drawn_all after_register next reset_card row_at row_in table stores
met = (
  record { beside = refl; agrees = refl; address = refl; low = refl; width = refl },
  record { frame = refl; mode = refl; accepted = refl },
  record { frame = refl; mode = refl; accepted = refl },
  record { frame = refl; mode = refl; accepted = refl },
)
