-- Several writes in a row, and one write drawn with several operations: what demands 2 and 3 speak of, and the caliper of many writes.
use Rattle.std.specs.Prelude.{◌≡◌, Bool, true, false, cond, not, ◌&&◌, List, [], ◌∷◌, ◌⊎◌, ℕ, ◌+◌, ◌*◌, ◌/◌, ◌%◌, T, eqb, length}
use Rattle.raster.specs.Operations.{restoring}
use Rattle.raster.specs.Pixel.{Operations, only, ◌then◌}
use Rattle.span.specs.Layers.{Pairs}
use Rattle.card.specs.Registers.{is_set, ◌is◌}
use Rattle.card.specs.declared.Card.{Card}
use Rattle.card.specs.declared.Write.{Write}
use Rattle.card.specs.declared.Register.TheVariants.{CopySource}
use Rattle.rules.specs.Modes.{mode_of, is_copy, register_of}
use Rattle.rules.specs.Lines.{walks, visits_of, address_of}
use Rattle.rules.specs.Refusal.{refusal}
use Rattle.rules.specs.declared.Visit.{Visit}
use Rattle.rules.specs.Writes.{accepted, count, in_block_mode, next, picture, changed}

-- a list of writes, each handed the card and the picture that the one before left, refused ones included
unfoldable pub card_after : List Write → Card → List ℕ → Card
card_after [] c v = c
card_after (w ∷ ws) c v = card_after ws (next c w v) (picture c w v)

unfoldable pub picture_after : List Write → Card → List ℕ → List ℕ
picture_after [] c v = v
picture_after (w ∷ ws) c v = picture_after ws (next c w v) (picture c w v)

-- the number, the count and the pixels changed of each
unfoldable pub answers_of : List Write → Card → List ℕ → List (ℕ × ℕ × ℕ)
answers_of [] c v = []
answers_of (w ∷ ws) c v = (refusal c w (length v), count c w (length v), changed c w v) ∷ answers_of ws (next c w v) (picture c w v)

-- to draw with a: the given card with a in bits 3:0 of the raster-operation register and nothing else altered
abbrev pub with_operation : ℕ → Card → Card
with_operation a c =
    let r = c.registers in
    record {
      registers = record {
        foreground = r.foreground;
        background = r.background;
        plane = r.plane;
        mode = r.mode;
        raster = r.raster / 16 * 16 + a % 16;
        bresenham1 = r.bresenham1;
        bresenham2 = r.bresenham2;
        bresenham3 = r.bresenham3;
        fill = r.fill;
        block = r.block;
      };
      mask = c.mask;
      copier = c.copier;
      line = c.line;
      held = c.held;
    }

abbrev pub drawn_with : ℕ → Card → Write → List ℕ → List ℕ
drawn_with a c w v = picture (with_operation a c) w v

-- the write made once with each operation, in the list's order: each later draw gets the picture that the one before left,
-- and the given card, whatever card the draw before returned
unfoldable pub drawn_with_each : Operations → Card → Write → List ℕ → List ℕ
drawn_with_each (only a) c w v = drawn_with a c w v
drawn_with_each (ops then a) c w v = drawn_with a c w (drawn_with_each ops c w v)

-- a draw obeys the raster operation unless it is a frame write in a block mode
abbrev pub obeys : Card → Write → Bool
obeys c w = not (in_block_mode c w)

-- no two visits have one place
abbrev pub Different : List Visit → Type 0
Different ss = Pairs (λ s t. address_of s ≡ address_of t → ⊥) ss

-- the write, in a VRAM of n bytes, visits no pixel twice: that is asked of an accepted line or continue alone
abbrev pub VisitsOnce : Card → Write → ℕ → Type 0
VisitsOnce c w n = accepted c w n ≡ true → walks c w ≡ true → Different (visits_of c w)

-- p holds of each draw of the list: of its operation and of the picture that it gets
abbrev pub EachDraw : (ℕ → List ℕ → Type 0) → Operations → Card → Write → List ℕ → Type 0
EachDraw p (only a) c w v = p a v
EachDraw p (ops then a) c w v = EachDraw p ops c w v × p a (drawn_with_each ops c w v)

-- the write reads pixels into the copy buffer: an accepted 64-byte source, or an accepted copy that reads its source
abbrev pub reads_pixels : Card → Write → ℕ → Bool
reads_pixels c w n =
    accepted c w n
    && cond (eqb w.space 1) (register_of w is CopySource) (is_copy (mode_of c.registers.mode) && not (is_set c.copier.writing))

-- the write draws no pixel, or draws under 5, 6, 9 or 10 and obeys it; and it reads none into the copy buffer
pub record Undoable (c : Card) (w : Write) (n : ℕ) : Type 0 where
  pub drawing : (count c w n ≡ 0) ⊎ (T (restoring c.registers.raster) × (obeys c w ≡ true))
  pub reading : reads_pixels c w n ≡ false

-- so does each write of a list, at the card that it gets
abbrev pub EachUndoable : List Write → Card → List ℕ → Type 0
EachUndoable [] c v = Unit
EachUndoable (w ∷ ws) c v = Undoable c w (length v) × EachUndoable ws (next c w v) (picture c w v)
