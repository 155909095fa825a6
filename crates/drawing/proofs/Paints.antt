-- The paints that are not the whole copy buffer, which a `match` takes together. Assumes nothing.
use mathlib.Core.Path.{◌≡◌, refl}
use mathlib.Core.Bool.{false}
use mathlib.Core.List.{[], ◌∷◌}
use denote.Enum.Declared.{tag_of}
use types.Run.{OneOf, miss}
use Rattle.plan.specs.Plan.{is_whole}
use Rattle.plan.specs.declared.Paint.{Paint}
use Rattle.plan.specs.declared.Paint.TheVariants.{Stippled, Tiled, Half, Whole}
use Rattle.plan.specs.contracts.Paint as P

-- one of the tags of the others
pub others : (p : Paint) → OneOf (0 ∷ 1 ∷ 2 ∷ []) (tag_of P.the_type p) → is_whole p ≡ false
others (Stippled bits foreground background at) k = refl
others (Tiled low high at) k = refl
others Half k = refl
others Whole k = absurd (miss (0 ∷ 1 ∷ 2 ∷ []) 3 tt k)
