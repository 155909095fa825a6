-- `recording::writing::grow` meets its contract. Assumes nothing.
use native.Mathlib.Omega.{arith}
use Rattle.format.proofs.Growing.{count_read, entry_stored}
use Rattle.recording.proofs.writing.grow.Goals as goal

pub overflow_add-count : goal.overflow_add-count
overflow_add-count c =
    let (h, room, few) = c.requires in
    omega (arith, c.word_at-count.ensures, count_read c.args.buffer.now c.args.used h room, few)

pub put_header-requires : goal.put_header-requires
put_header-requires c =
    let (h, room, few) = c.requires in
    omega (arith, c.word_at-count.ensures, count_read c.args.buffer.now c.args.used h room, h, room, few)

pub returns : goal.returns
returns c =
    let (h, room, _) = c.requires in
    entry_stored _ _ h room _ c.word_at-count.ensures c.word_at-vram.ensures c.put_header.ensures c.put_entry.ensures
