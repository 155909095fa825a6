-- `strokes::draw` meets its contract: whole patterns, then the last pixels. Assumes nothing.
use mathlib.Core.Path.{◌≡◌, ap, ◌∙◌}
use Prim.Native.Nat.{ℕ, min}
use lib.ListN.{length}
use Rattle.span.specs.Fragments.{drawn, before, counted}
use Rattle.span.proofs.Drawn.{drawn_before_min}
use Rattle.span.specs.Strokes.{stroke, enabled}
use Rattle.strokes.specs.Progress.{altered}
use Rattle.strokes.proofs.Turns.{further_then, further_shows, further_changes}
use Rattle.strokes.proofs.draw.Goals as goal

pub returns : goal.returns
returns c =
    let a = c.args in
    let s = a.s in
    let v = a.part.now in
    let m = c.digest-t.ensures in
    let e : c.min-end.result ≡ min s.width (length v) = c.min-end.ensures in
    let all = further_then (c.by_patterns-whole.ensures.1 s.op (stroke s) m) (c.last-rest.ensures.1 s.op (stroke s) m) in (
      further_shows all ∙ (ap (λ (n : ℕ). drawn s.op (before n (stroke s)) v) e ∙ drawn_before_min s.op s.width (stroke s) v),
      c.count-enabled.ensures ∙ ap (λ (n : ℕ). counted n (enabled s)) e,
      further_changes all ∙ ap (altered s.op (stroke s) v) e,
    )
