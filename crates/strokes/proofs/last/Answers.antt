-- `strokes::last` meets its contract: words, then the bytes of the last one. Assumes nothing.
use mathlib.Core.Path.{◌≡◌, refl, ap, ◌∙◌}
use Prim.Native.Nat.{ℕ, ◌*◌, ◌/◌, ◌%◌}
use native.Mathlib.Omega.{arith}
use lib.ListN.{get_or}
use Rattle.span.specs.Fragments.{byte}
use Rattle.strokes.proofs.Turns.{further_as, further_then}
use Rattle.strokes.proofs.last.Goals as goal

pub returns : goal.returns
returns c =
    let a = c.args in
    let words = c.by_words-whole.ensures in
    let bytes = c.by_bytes-rest.ensures in
    let p : 8 * (4 * (a.end / 32)) ≡ 32 * (a.end / 32) = omega arith in (
      omega (arith, words.0, bytes.0),
      λ op f m.
          further_then (further_as (words.1 op f m) p refl refl)
          (bytes.1 op f
          (λ j l h.
          let q : a.end / 8 % 4 ≡ j / 8 % 4 = omega arith in (
            ap (λ (g : ℕ). byte (get_or a.t.and g 0) (j % 8)) q ∙ m.and j,
            ap (λ (g : ℕ). byte (get_or a.t.xor g 0) (j % 8)) q ∙ m.xor j,
          ))),
    )
