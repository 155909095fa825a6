-- Change request 2: a trace that arrives over a serial line, in chunks of any length, some with no byte. The reader keeps what is
-- unfinished, and draws each entry once it is whole.
use Rattle.std.specs.Prelude.{Bool, cond, not, ◌&&◌, ◌||◌, List, [], ◌∷◌, ◌++◌, ℕ, ◌+◌, ◌*◌, eqb, ltb, leb, length, set, replicate}
use Rattle.card.specs.Registers.{is_set}
use Rattle.card.specs.declared.Card.{Card}
use Rattle.card.specs.declared.Write.{Write}
use Rattle.rules.specs.Refusal.{bad_length}
use Rattle.format.specs.Bytes.{word}
use Rattle.format.specs.Traces.{header_size, entry_size, largest, write_at, good_header_up_to}
use Rattle.trace.specs.Run.{State, ran}
use Rattle.line.specs.declared.Reader.{Reader}

-- no byte of a header or of an entry
abbrev pub empty : List ℕ
empty = replicate header_size 0

-- a new reader: no byte has come
unfoldable pub new_reader : Reader
new_reader = record { number = 0; opened = 0; announced = 0; applied = 0; pixels = 0; changed = 0; filled = 0; waiting = empty }

-- where the reading stands: the reader, and the card and the picture as the last chunk left them
pub record Standing : Type 0 where
  pub reader : Reader
  pub card : Card
  pub picture : List ℕ

abbrev pub standing : Reader → Card → List ℕ → Standing
standing r c v = record { reader = r; card = c; picture = v }

-- the same as the state of a run: the number, the entries applied, the total pixels, those changed, the card and the picture
abbrev pub state_of : Standing → State
state_of s =
    record {
      number = s.reader.number;
      applied = s.reader.applied;
      pixels = s.reader.pixels;
      changed = s.reader.changed;
      card = s.card;
      picture = s.picture;
    }

-- how many bytes are awaited: the header's, and then each entry's
abbrev pub awaited : Reader → ℕ
awaited r = cond (is_set r.opened) entry_size header_size

-- all entries that the header announces are applied: no byte is owed, and one more is past the total
unfoldable pub complete : Reader → Bool
complete r = is_set r.opened && eqb r.applied r.announced

-- a pad byte, byte 2 or 3 of an entry, that is not zero
unfoldable pub bad_pad : Reader → ℕ → Bool
bad_pad r b = is_set r.opened && ((eqb r.filled 2 || eqb r.filled 3) && not (eqb b 0))

-- a number sticks, and nothing else changes
abbrev pub stuck : ℕ → Reader → Reader
stuck n r =
    record {
      number = n;
      opened = r.opened;
      announced = r.announced;
      applied = r.applied;
      pixels = r.pixels;
      changed = r.changed;
      filled = r.filled;
      waiting = r.waiting;
    }

abbrev pub sticks : ℕ → Standing → Standing
sticks n s = standing (stuck n s.reader) s.card s.picture

-- the bytes that came, one more than before, wait for others
abbrev pub kept : List ℕ → Reader → Reader
kept came r =
    record {
      number = r.number;
      opened = r.opened;
      announced = r.announced;
      applied = r.applied;
      pixels = r.pixels;
      changed = r.changed;
      filled = r.filled + 1;
      waiting = came;
    }

unfoldable pub waits : List ℕ → Standing → Standing
waits came s = standing (kept came s.reader) s.card s.picture

-- a header is whole: it announces so many entries, none applied yet
abbrev pub headed : ℕ → Reader → Reader
headed count r =
    record { number = r.number; opened = 1; announced = count; applied = 0; pixels = 0; changed = 0; filled = 0; waiting = empty }

unfoldable pub opens : ℕ → Standing → Standing
opens count s = standing (headed count s.reader) s.card s.picture

-- an entry is whole: it is run as the next one of a trace, and its number and totals are the run's
abbrev pub counted : State → Reader → Reader
counted t r =
    record {
      number = t.number;
      opened = r.opened;
      announced = r.announced;
      applied = t.applied;
      pixels = t.pixels;
      changed = t.changed;
      filled = 0;
      waiting = empty;
    }

unfoldable pub draws : Write → Standing → Standing
draws w s = let t = ran (w ∷ []) 1 (state_of s) in standing (counted t s.reader) t.card t.picture

-- the bytes of several chunks as one
unfoldable pub joined : List (List ℕ) → List ℕ
joined [] = []
joined (bs ∷ rest) = bs ++ joined rest

-- ---- Where at most so many entries are allowed, whatever the number.

module _ (most : ℕ) where
  -- what one byte does: nothing where a number sticks; 10 past the total and for a bad pad byte; what is unfinished waits; a whole entry is
  -- drawn; a whole header opens the trace, or answers 10
  unfoldable pub byte_up_to : Standing → ℕ → Standing
  byte_up_to s b =
      let r = s.reader in
      let came = set r.waiting r.filled b in
      cond (is_set r.number) s
      (cond (complete r || bad_pad r b) (sticks 10 s)
      (cond (ltb (r.filled + 1) (awaited r)) (waits came s)
      (cond (is_set r.opened) (draws (write_at came 0) s)
      (cond (good_header_up_to most came) (opens (word came 0) s) (sticks 10 s)))))

  -- the bytes of a chunk, one after the other
  unfoldable pub reads_up_to : List ℕ → Standing → Standing
  reads_up_to [] s = s
  reads_up_to (b ∷ bs) s = reads_up_to bs (byte_up_to s b)

  -- a reader that can be: fewer bytes wait than are awaited, and its totals are those of so many entries, of at most 2,048 pixels each, and no more changed than counted.
  -- One put together by hand need not be such
  unfoldable pub sound_up_to : Reader → Bool
  sound_up_to r =
      ltb r.filled (awaited r)
      && (leb r.applied r.announced
      && (leb r.announced most && (leb r.pixels (2048 * r.applied) && leb r.changed r.pixels)))

  -- a chunk. A number that sticks comes before all; then 10 where the reader cannot be, and 1, before any byte is read
  unfoldable pub chunk_up_to : List ℕ → Standing → Standing
  chunk_up_to bs s =
      cond (is_set s.reader.number) s
      (cond (sound_up_to s.reader) (cond (bad_length (length s.picture)) (sticks 1 s) (reads_up_to bs s)) (sticks 10 s))

  -- chunk after chunk
  unfoldable pub chunks_up_to : List (List ℕ) → Standing → Standing
  chunks_up_to [] s = s
  chunks_up_to (bs ∷ rest) s = chunks_up_to rest (chunk_up_to bs s)

  -- the end call: 10 where bytes are owed
  unfoldable pub ended_up_to : Reader → Reader
  ended_up_to r = cond (is_set r.number) r (cond (sound_up_to r && complete r) r (stuck 10 r))

  abbrev pub finished_up_to : Standing → Standing
  finished_up_to s = standing (ended_up_to s.reader) s.card s.picture

-- ---- The same at the largest number.

abbrev pub byte : Standing → ℕ → Standing
byte = byte_up_to largest

abbrev pub reads : List ℕ → Standing → Standing
reads = reads_up_to largest

abbrev pub sound : Reader → Bool
sound = sound_up_to largest

abbrev pub chunk : List ℕ → Standing → Standing
chunk = chunk_up_to largest

abbrev pub chunks : List (List ℕ) → Standing → Standing
chunks = chunks_up_to largest

abbrev pub ended : Reader → Reader
ended = ended_up_to largest

abbrev pub finished : Standing → Standing
finished = finished_up_to largest
