-- Replaying a whole trace from reset on the front of a VRAM.
use Rattle.std.specs.Prelude.{Bool, cond, ◌&&◌, List, ◌++◌, ℕ, ◌-◌, ◌^◌, eqb, leb, length, take, drop, Result, Ok, Err}
use Rattle.rules.specs.declared.Refusal.{Refusal}
use Rattle.rules.specs.Numbers.{number_of}
use Rattle.card.specs.Reset.{reset_card}
use Rattle.format.specs.Traces.{check_number, check_part, check_length}
use Rattle.trace.specs.Run.{State, run}
use Rattle.player.specs.declared.Played.{Played}

-- the bytes are a trace, and the VRAM is long enough for it
abbrev pub playable : List ℕ → List ℕ → Bool
playable bytes v = eqb (check_number bytes) 0 && leb (check_length bytes) (length v)

-- the run, on as much of VRAM as the header says
abbrev pub whole : List ℕ → ℕ → List ℕ → State
whole bytes held v = run (check_part bytes) (2 ^ 32 - 1) (reset_card held) (take (check_length bytes) v)

-- what is answered where nothing is run
abbrev pub not_played : Refusal → Played
not_played e = record { number = number_of e; entries = 0; pixels = 0; changed = 0; length = 0 }

-- an answer, a refusal told by its number
abbrev pub played_so : Result Played Refusal → Played
played_so (Ok p) = p
played_so (Err e) = not_played e

-- what is answered; 1 where the VRAM is too short for the trace
unfoldable pub played : List ℕ → ℕ → List ℕ → Played
played bytes held v =
    cond (playable bytes v)
    (let s = whole bytes held v in
    record { number = s.number; entries = s.applied; pixels = s.pixels; changed = s.changed; length = check_length bytes })
    (record { number = cond (eqb (check_number bytes) 0) 1 (check_number bytes); entries = 0; pixels = 0; changed = 0; length = 0 })

-- and the VRAM after: every byte past the trace's own stays
unfoldable pub pictured : List ℕ → ℕ → List ℕ → List ℕ
pictured bytes held v = cond (playable bytes v) ((whole bytes held v).picture ++ drop (check_length bytes) v) v
