-- `strokes::buffer::half` meets its contract: four loads. Assumes nothing.
use mathlib.Core.Path.{refl}
use Prim.Native.Nat.{ℕ, ◌+◌, ◌*◌, ◌/◌, ◌%◌, ◌<◌}
use native.Mathlib.Omega.{arith}
use lib.ListN.{get_or}
use mir.Syntax.{w8}
use mir.Val.{Fits}
use Rattle.span.proofs.Patterns.{pattern_at}
use Rattle.strokes.proofs.Buffers.{loaded_word}
use borrow.Author.Rules.{rules}
use Rattle.strokes.proofs.buffer.half.Goals as goal

pub returns : goal.returns
returns c =
    let a = c.args in
    let start : ℕ = a.at / 32 % 2 * 32 in
    let fits : (i : ℕ) → Fits w8 (get_or a.buffer.now i 0) = λ i. search rules in
    let below : (i : ℕ) → get_or a.buffer.now i 0 < 256 = λ i. (fits i).fits in
    pattern_at (λ j. get_or a.buffer.now (start + j) 0) _ _ _ _
    (loaded_word a.buffer.now start _ 0 _ below (omega arith) c.load-a.ensures)
    (loaded_word a.buffer.now start _ 1 _ below refl c.load-b.ensures)
    (loaded_word a.buffer.now start _ 2 _ below refl c.load-c.ensures)
    (loaded_word a.buffer.now start _ 3 _ below refl c.load-d.ensures)
