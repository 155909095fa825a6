-- A trace that arrives in chunks, replayed on the front of a VRAM.
use Rattle.std.specs.Prelude.{cond, List, [], ◌∷◌, ◌++◌, ℕ, leb, length, take, drop, Option, Some, None}
use Rattle.format.specs.Bytes.{word}
use Rattle.format.specs.Traces.{good_header}
use Rattle.line.specs.Serial.{Standing, standing, chunk, ended}
use Rattle.line.specs.declared.Reader.{Reader}
use Rattle.player.specs.declared.Played.{Played}

-- the VRAM length that a header says; none where the bytes are none
unfoldable pub length_of : List ℕ → Option ℕ
length_of h = cond (good_header h) (Some (word h 8)) None

-- a chunk on the first m bytes of VRAM: every byte past them stays
unfoldable pub before : ℕ → List ℕ → Standing → Standing
before m bs s =
    let t = chunk bs (standing s.reader s.card (take m s.picture)) in
    standing t.reader t.card (t.picture ++ drop m s.picture)

-- on the first n; on none where there are fewer, which a reader that goes on answers with 1
unfoldable pub fed : ℕ → List ℕ → Standing → Standing
fed n bs s = before (cond (leb n (length s.picture)) n 0) bs s

-- chunk after chunk
unfoldable pub fed_all : ℕ → List (List ℕ) → Standing → Standing
fed_all n [] s = s
fed_all n (bs ∷ rest) s = fed_all n rest (fed n bs s)

-- what is answered when the input ends: what the end call answers, and the length
unfoldable pub closed : Reader → ℕ → Played
closed r n =
    let e = ended r in
    record { number = e.number; entries = e.applied; pixels = e.pixels; changed = e.changed; length = n }
