-- Scope paper, "Registers", the column "At reset" and the paragraph on reset.
use Rattle.std.specs.Prelude.{ℕ, replicate}
use Rattle.card.specs.declared.Card.{Card}
use Rattle.card.specs.Registers.{row_at}

-- every register as the table has it; the copy buffer zeros and unloaded, the direction "read source"; and no line drawn yet.
-- The held planes H (the scope paper's own term) are chosen here, and no write can change them
unfoldable pub reset_card : ℕ → Card
reset_card h =
    record {
      registers = record {
        foreground = (row_at 0x0020).reset;
        background = (row_at 0x0024).reset;
        plane = (row_at 0x0028).reset;
        mode = (row_at 0x0030).reset;
        raster = (row_at 0x0034).reset;
        bresenham1 = (row_at 0x0040).reset;
        bresenham2 = (row_at 0x0044).reset;
        bresenham3 = (row_at 0x0048).reset;
        fill = (row_at 0x0080).reset;
        block = replicate 8 (row_at 0x0140).reset;
      };
      mask = record { bits = (row_at 0x005C).reset; marked = 0 };
      copier = record { buffer = replicate 64 0; loaded = 0; writing = 0 };
      line = record { place = 0; error = 0; kept = 0 };
      held = h;
    }
