-- `recording::writing::one_more` meets its contract. Assumes nothing.
use mathlib.Core.Path.{sym}
use mathlib.Core.Bool.{true}
use Rattle.format.proofs.RecordingTests.{growable}
use Rattle.format.proofs.Growing.{header-within, count_below}
use Rattle.recording.proofs.writing.one_more.Goals as goal

pub grow-requires : goal.grow-requires
grow-requires c =
    let can = growable true _ _ _ (λ _. c.requires) (sym c.in_ok-can_grow.ensures) in (header-within _ _ can, can.room, count_below _ _ can)
