-- Text is drawn as the span routine draws it: strokes of 32 pixels under operation 3 that lie inside the picture. Assumes nothing.
use mathlib.Core.Path.{◌≡◌, sym, ap, ap₂, ◌∙◌}
use mathlib.Core.Bool.{cond}
use mathlib.Core.List.{List}
use Prim.Native.Nat.{ℕ, ◌+◌, ◌-◌, ◌≤◌, min}
use native.Mathlib.Omega.{arith}
use lib.Dec.{leb}
use lib.ListN.{length}
use borrow.Author.Tests.{le-leb}
use Rattle.span.specs.Fragments.{drawn, before, from, counted, differing}
use Rattle.span.specs.Strokes.{stroke, enabled, Drew}
use Rattle.span.specs.declared.Strokes.{Strokes}
use Rattle.span.specs.declared.Tally.{Tally}

pub lettered : (s : Strokes) (a : ℕ) (v : List ℕ) {r : Tally} {v' : List ℕ} → s.op ≡ 3 → s.width ≡ 32 → a + 32 ≤ length v
    → v' ≡ cond (leb (a + 32) (length v)) (drawn 3 (from a (before 32 (stroke s))) v) v → r.enabled ≡ counted 32 (enabled s)
    → r.changed ≡ differing v v' → Drew s a v r v'
lettered s a v {r} {v'} eo ew h e n ch =
    let wide : min s.width (length v - a) ≡ 32 = omega (arith, ew) in
    let shown : v' ≡ drawn 3 (from a (before 32 (stroke s))) v = rw (le-leb _ _ h) at e in
    record {
      shows = shown ∙ sym (ap₂ (λ (o k : ℕ). drawn o (from a (before k (stroke s))) v) eo ew);
      counts = n ∙ sym (ap (λ (k : ℕ). counted k (enabled s)) wide);
      changes = ch;
    }
