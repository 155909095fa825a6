-- `engine::text` meets its contract. Assumes nothing.
use mathlib.Core.Path.{◌≡◌, refl, sym, ◌∙◌}
use Prim.Native.Nat.{ℕ, ◌%◌, ◌^◌, ◌<◌}
use native.Mathlib.Nat.{one-mul}
use native.Mathlib.Omega.{arith}
use lib.Count.{ones}
use Rattle.raster.specs.Pixel.{bit}
use Rattle.span.specs.Fragments.{counted}
use Rattle.span.specs.declared.Strokes.{Strokes}
use Rattle.strokes.proofs.SetBits.{repeated_whole}
use Rattle.engine.proofs.Letters.{text_drawn, text_used}
use Rattle.engine.proofs.text.Goals as goal

-- how many of 32 pixels a word enables
enabled_by : (word : ℕ) → word < 2 ^ 32 → ones word ≡ counted 32 (λ j. bit word (j % 32))
enabled_by word h = sym (one-mul (ones word)) ∙ repeated_whole word 32 h refl

pub returns : goal.returns
returns c =
    let a = c.args in
    let v = a.vram.now in
    let is = c.requires.0 in
    let ok = c.requires.1 in
    let d = a.card.now in
    let s : Strokes = record { op = 3; enable = d.mask.bits; source = c.stippled-source.result; mask = c.masks-mask.result; width = 32 } in
    let drew = text_drawn d a.w is v ok s refl refl refl c.masks-mask.ensures c.stippled-source.ensures
    {r = record { enabled = ones d.mask.bits; changed = c.text_at-changed.result }} c.text_at-changed.ensures.0 (enabled_by d.mask.bits (omega arith)) c.text_at-changed.ensures.1 in
    record {
      number = sym ok;
      counts = drew.1;
      changes = drew.2;
      leaves = c.mask_used.ensures ∙ text_used d a.w is v ok;
      shows = drew.0;
    }
