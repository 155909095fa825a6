-- Scope paper, "Traces", the first paragraph: the header and the entries, as bytes and back.
use Rattle.std.specs.Prelude.{Bool, true, cond, not, ◌&&◌, List, [], ◌∷◌, ◌++◌, ℕ, zero, suc, ◌+◌, ◌*◌, ◌/◌, ◌%◌, ◌^◌, ◌<◌, eqb, leb, length, get_or, drop}
use Rattle.card.specs.declared.Write.{Write}
use Rattle.rules.specs.Refusal.{bad_length}
use Rattle.format.specs.Bytes.{word, bytes}

-- at most so many entries: change request 6, which raised it from 4,096
abbrev pub largest : ℕ
largest = 65536

-- a write as the bus delivers it
pub record Delivered (w : Write) : Type 0 where
  pub space : w.space < 2 ^ 8
  pub lanes : w.lanes < 2 ^ 8
  pub address : w.address < 2 ^ 32
  pub «data» : w.«data» < 2 ^ 32

-- the sizes of the header and of an entry, in bytes
abbrev pub header_size : ℕ
header_size = 16

abbrev pub entry_size : ℕ
entry_size = 12

-- the header: count of entries, offset of entries (always 16), VRAM length, total length
unfoldable pub header : ℕ → ℕ → List ℕ
header count vram = bytes count ++ bytes header_size ++ bytes vram ++ bytes (header_size + entry_size * count)

-- an entry: space, lanes, two zero bytes, address, data
unfoldable pub entry : Write → List ℕ
entry w = w.space ∷ w.lanes ∷ 0 ∷ 0 ∷ (bytes w.address ++ bytes w.«data»)

unfoldable pub entries : List Write → List ℕ
entries [] = []
entries (w ∷ ws) = entry w ++ entries ws

-- the bytes of a trace of these writes for a VRAM of this length
unfoldable pub encoded : ℕ → List Write → List ℕ
encoded vram ws = header (length ws) vram ++ entries ws

-- the write of the entry that starts at byte a
unfoldable pub write_at : List ℕ → ℕ → Write
write_at v a =
    record { space = get_or v a 0; lanes = get_or v (a + 1) 0; address = word v (a + 4); «data» = word v (a + 8) }

-- the same; four zeros where no whole entry starts at byte a
unfoldable pub entry_at : List ℕ → ℕ → Write
entry_at v a = cond (leb (a + entry_size) (length v)) (write_at v a) (record { space = 0; lanes = 0; address = 0; «data» = 0 })

-- the writes of k entries from byte a on
unfoldable pub writes_at : List ℕ → ℕ → ℕ → List Write
writes_at v a zero = []
writes_at v a (suc k) = write_at v a ∷ writes_at v (a + entry_size) k

-- the two bytes between lanes and address are zero, in k entries from byte a on
unfoldable pub padded_at : List ℕ → ℕ → ℕ → Bool
padded_at v a zero = true
padded_at v a (suc k) = eqb (get_or v (a + 2) 0) 0 && (eqb (get_or v (a + 3) 0) 0 && padded_at v (a + entry_size) k)

-- the number of entries of a part, and their writes
abbrev pub entry_count : List ℕ → ℕ
entry_count part = length part / entry_size

unfoldable pub writes : List ℕ → List Write
writes part = writes_at part 0 (entry_count part)

-- what bytes say: a VRAM length and writes, or nothing
pub data Decoded : Type 0 where
  malformed : Decoded
  trace : (vram : ℕ) (ws : List Write) → Decoded

-- ---- Where at most so many entries are allowed, whatever the number.

module _ (most : ℕ) where
  -- a part that can be run: whole entries, not too many, every pad byte zero
  unfoldable pub well_formed_up_to : List ℕ → Bool
  well_formed_up_to part = eqb (length part % entry_size) 0 && (leb (entry_count part) most && padded_at part 0 (entry_count part))

  -- the bytes begin with the header of a trace: not too many entries, their offset, a VRAM length that number 1 would not refuse, and the total
  unfoldable pub good_header_up_to : List ℕ → Bool
  good_header_up_to v =
      leb header_size (length v)
      && (leb (word v 0) most
      && (eqb (word v 4) header_size
      && (not (bad_length (word v 8))
      && eqb (word v 12) (header_size + entry_size * word v 0))))

  -- and are as many as the header's total says
  unfoldable pub fits_header_up_to : List ℕ → Bool
  fits_header_up_to v = good_header_up_to v && eqb (length v) (word v 12)

  -- the bytes are a trace
  unfoldable pub is_trace_up_to : List ℕ → Bool
  is_trace_up_to v = fits_header_up_to v && well_formed_up_to (drop header_size v)

  -- what they say
  unfoldable pub decoded_up_to : List ℕ → Decoded
  decoded_up_to v = cond (is_trace_up_to v) (trace (word v 8) (writes (drop header_size v))) malformed

  -- what a check answers: 10 where the bytes are no trace; the entries as a part of the bytes, or an empty part; the VRAM length, or 0
  unfoldable pub check_number_up_to : List ℕ → ℕ
  check_number_up_to v = cond (is_trace_up_to v) 0 10

  unfoldable pub check_part_up_to : List ℕ → List ℕ
  check_part_up_to v = cond (is_trace_up_to v) (drop header_size v) []

  unfoldable pub check_length_up_to : List ℕ → ℕ
  check_length_up_to v = cond (is_trace_up_to v) (word v 8) 0

-- ---- The same at the largest number.

abbrev pub well_formed : List ℕ → Bool
well_formed = well_formed_up_to largest

abbrev pub good_header : List ℕ → Bool
good_header = good_header_up_to largest

abbrev pub fits_header : List ℕ → Bool
fits_header = fits_header_up_to largest

abbrev pub is_trace : List ℕ → Bool
is_trace = is_trace_up_to largest

abbrev pub decoded : List ℕ → Decoded
decoded = decoded_up_to largest

abbrev pub check_number : List ℕ → ℕ
check_number = check_number_up_to largest

abbrev pub check_part : List ℕ → List ℕ
check_part = check_part_up_to largest

abbrev pub check_length : List ℕ → ℕ
check_length = check_length_up_to largest
