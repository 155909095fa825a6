-- A span of pixels: what a write draws, chosen without looking at the picture. Pixel j counts from the first.
use Rattle.std.specs.Prelude.{Bool, cond, ℕ, ◌+◌, ◌<◌, ◌≤◌}
use Rattle.span.specs.Fragments.{Fragment, stays, paint, before, from, counted}

-- its first pixel, its width, which of its pixels are enabled, and what each takes
pub record Span : Type 0 where
  pub first : ℕ
  pub width : ℕ
  pub on : ℕ → Bool
  pub takes : ℕ → ℕ

abbrev pub span : ℕ → ℕ → (ℕ → Bool) → (ℕ → ℕ) → Span
span a n on takes = record { first = a; width = n; on = on; takes = takes }

-- address p is that of one of its pixels
abbrev pub In : ℕ → Span → Type 0
In p s = (s.first ≤ p) × (p < s.first + s.width)

-- pixel j, under the mask of its address
abbrev pub pixel : (ℕ → ℕ) → Span → ℕ → Fragment
pixel mask s j = cond (s.on j) (paint (mask (s.first + j)) (s.takes j)) stays

-- what a span does at each address
unfoldable pub spanned : (ℕ → ℕ) → Span → ℕ → Fragment
spanned mask s = from s.first (before s.width (pixel mask s))

-- the number of its pixels that are enabled
abbrev pub enabled_in : Span → ℕ
enabled_in s = counted s.width s.on

-- n of its pixels, from pixel k on
abbrev pub piece : ℕ → ℕ → Span → Span
piece k n s = span (s.first + k) n (λ j. s.on (k + j)) (λ j. s.takes (k + j))
