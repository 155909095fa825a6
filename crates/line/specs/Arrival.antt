-- What all bytes together give from a new reader, end call included, however they are cut into chunks. Byte by byte is what decides
-- (`Serial.antt`); `proofs/Arriving.antt` shows that this is the same.
use Rattle.std.specs.Prelude.{Bool, cond, ◌&&◌, List, ℕ, zero, suc, ◌+◌, eqb, leb, length, get_or}
use Rattle.card.specs.declared.Card.{Card}
use Rattle.format.specs.Bytes.{word}
use Rattle.format.specs.Traces.{header_size, entry_size, write_at, good_header}
use Rattle.trace.specs.Run.{State, nothing, answer, apply, refuse}

-- 10, and what was drawn stays
abbrev pub breaks : State → State
breaks s =
    record { number = 10; applied = s.applied; pixels = s.pixels; changed = s.changed; card = s.card; picture = s.picture }

-- an entry stands whole from byte a on, with zero pad bytes
unfoldable pub entry_there : List ℕ → ℕ → Bool
entry_there v a = leb (a + entry_size) (length v) && (eqb (get_or v (a + 2) 0) 0 && eqb (get_or v (a + 3) 0) 0)

-- k entries are owed from byte a on: each is drawn as the next one of a trace, until one is refused, is not there, or bytes are left over
unfoldable pub entries_arrive : List ℕ → ℕ → ℕ → State → State
entries_arrive v zero a s = cond (eqb (length v) a) s (breaks s)
entries_arrive v (suc k) a s =
    cond (entry_there v a)
    (cond (eqb (answer s (write_at v a)) 0) (entries_arrive v k (a + entry_size) (apply s (write_at v a))) (refuse s (write_at v a)))
    (breaks s)

unfoldable pub arrives : List ℕ → Card → List ℕ → State
arrives v c p = cond (good_header v) (entries_arrive v (word v 0) header_size (nothing 0 c p)) (nothing 10 c p)
