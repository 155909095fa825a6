-- `strokes::text_at` meets its contract: one whole pattern in the part, put back. Assumes nothing.
use mathlib.Core.Path.{◌≡◌, ap, sym, ◌∙◌}
use mathlib.Core.Bool.{false}
use Prim.Native.Nat.{◌+◌}
use native.Mathlib.Omega.{arith}
use lib.Dec.{leb}
use lib.ListN.{length}
use Rattle.span.specs.Fragments.{before, differing}
use Rattle.span.specs.Strokes.{stroke}
use Rattle.span.proofs.Changed.{differing-none}
use Rattle.span.proofs.Spans.{put_drawn}
use borrow.Author.Tests.{le-leb, lt-leb}
use Rattle.strokes.proofs.Turns.{further_shows, further_changes, part_changes}
use Rattle.strokes.proofs.text_at.Goals as goal

pub returns-then-vram-first : goal.returns-then-vram-first
returns-then-vram-first c =
    let past : leb (c.args.address + 32) (length c.args.vram.now) ≡ false = lt-leb _ _ c.if-vram-first.true in
    (rw past, sym (differing-none _))

pub returns : goal.returns
returns c =
    let a = c.args in
    let v = a.vram.now in
    let all = c.once.ensures 3 (stroke a.s) c.copied-t.ensures in
    let shown = put_drawn 3 a.address (before 32 (stroke a.s)) v _ (omega arith) (further_shows all) in (
      rw (le-leb _ _ c.if-vram-first.false) shown,
      further_changes all ∙ (part_changes 3 a.address 32 32 (stroke a.s) v (omega arith) ∙ ap (differing v) (sym shown)),
    )
