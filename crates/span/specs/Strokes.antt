-- What the span routine draws: a pattern of 32 pixels that repeats, four words of eight. Every span of a mode is one of these, and that of the 64-byte copy two, one after the other.
use Rattle.std.specs.Prelude.{◌≡◌, Bool, cond, List, ℕ, ◌-◌, ◌/◌, ◌%◌, ◌<◌, min, length, get_or}
use Rattle.raster.specs.Pixel.{bit}
use Rattle.span.specs.Fragments.{Fragment, stays, paint, drawn, before, from, counted, differing, byte}
use Rattle.span.specs.Spans.{Span, pixel}
use Rattle.span.specs.declared.Tally.{Tally}
use Rattle.span.specs.declared.Strokes.{Strokes}

-- pixel j of the span is drawn where bit j mod 32 of the word is set
abbrev pub enabled : Strokes → ℕ → Bool
enabled s j = bit s.enable (j % 32)

-- byte j mod 32 of four words
abbrev pub pattern_byte : List ℕ → ℕ → ℕ
pattern_byte ws j = byte (get_or ws (j / 8 % 4) 0) (j % 8)

-- it takes byte j mod 32 of the source, under byte j mod 8 of the mask
abbrev pub stroke : Strokes → ℕ → Fragment
stroke s j = cond (enabled s j) (paint (byte s.mask (j % 8)) (pattern_byte s.source j)) stays

-- strokes s from address a on, as much of them as the picture v holds, gave answer r and left picture v'
pub record Drew (s : Strokes) (a : ℕ) (v : List ℕ) (r : Tally) (v' : List ℕ) : Type 0 where
  pub shows : v' ≡ drawn s.op (from a (before s.width (stroke s))) v
  pub counts : r.enabled ≡ counted (min s.width (length v - a)) (enabled s)
  pub changes : r.changed ≡ differing v v'

-- the strokes s are the pixels of the span p under the masks and under operation op
pub record Draws (s : Strokes) (op : ℕ) (mask : ℕ → ℕ) (p : Span) : Type 0 where
  pub under : s.op ≡ op
  pub wide : s.width ≡ p.width
  pub enables : (j : ℕ) → j < p.width → enabled s j ≡ p.on j
  pub paints : (j : ℕ) → j < p.width → stroke s j ≡ pixel mask p j
