-- The whole copy buffer's bytes, and masks that go by address. Assumes nothing.
use mathlib.Core.Path.{◌≡◌, refl, ap}
use mathlib.Core.Bool.{true, false, cond, false≢true}
use mathlib.Core.List.{List}
use Prim.Native.Nat.{ℕ, ◌%◌}
use lib.ListN.{get_or}
use Rattle.raster.specs.Pixel.{bit, number}
use Rattle.span.specs.Fragments.{byte}
use Rattle.rules.specs.Modes.{effective_by}
use Rattle.plan.specs.Plan.{taken_by, is_whole}
use Rattle.plan.specs.declared.Paint.{Paint}
use Rattle.plan.specs.declared.Paint.TheVariants.{Stippled, Tiled, Half, Whole}

-- the whole copy buffer is its bytes in order
pub whole_takes : (p : Paint) (buffer : List ℕ) (j : ℕ) → is_whole p ≡ true → taken_by p buffer j ≡ get_or buffer j 0
whole_takes (Stippled bits foreground background at) buffer j e = absurd (false≢true e)
whole_takes (Tiled low high at) buffer j e = absurd (false≢true e)
whole_takes Half buffer j e = absurd (false≢true e)
whole_takes Whole buffer j e = refl

-- a mask goes by the address mod 4
pub mask_again : (plane held p q : ℕ) → p % 4 ≡ q % 4 → effective_by plane held p ≡ effective_by plane held q
unfolding effective_by
mask_again plane held p q e = ap (λ (t : ℕ). number 8 (λ k. cond (bit held k) false (bit (byte plane t) k))) e
