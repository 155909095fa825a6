-- `strokes::draw_at` meets its contract: the part, drawn and put back. Assumes nothing.
use mathlib.Core.Path.{◌≡◌, ap, sym, ◌∙◌}
use Prim.Native.Nat.{ℕ, ◌-◌, min}
use native.Mathlib.Omega.{arith}
use lib.ListN.{length}
use Rattle.span.specs.Fragments.{before, counted, differing}
use Rattle.span.specs.Strokes.{stroke, enabled}
use Rattle.span.proofs.Changed.{differing-none}
use Rattle.span.proofs.Drawn.{drawn-none}
use Rattle.span.proofs.Painted.{from_below}
use Rattle.span.proofs.Spans.{put_drawn, part_length}
use Rattle.strokes.proofs.Turns.{part_changes}
use Rattle.strokes.proofs.draw_at.Goals as goal

pub returns-then-vram-first : goal.returns-then-vram-first
unfolding counted
returns-then-vram-first c =
    let a = c.args in
    let e : min a.s.width (length a.vram.now - a.first) ≡ 0 = omega arith in
    record {
      shows = sym (drawn-none a.s.op _ a.vram.now (λ p l. from_below a.first _ (omega arith)));
      counts = sym (ap (λ (n : ℕ). counted n (enabled a.s)) e);
      changes = sym (differing-none a.vram.now);
    }

pub returns : goal.returns
returns c =
    let a = c.args in
    let e = c.draw.ensures in
    let v = a.vram.now in
    let shown = put_drawn a.s.op a.first (before a.s.width (stroke a.s)) v _ (omega arith) e.0 in
    record {
      shows = shown;
      counts = e.1 ∙ ap (λ (n : ℕ). counted (min a.s.width n) (enabled a.s)) (part_length a.first v (omega arith));
      changes = e.2
          ∙ (part_changes a.s.op a.first a.s.width _ (stroke a.s) v (ap (min a.s.width) (part_length a.first v (omega arith)))
          ∙ ap (differing v) (sym shown));
    }
