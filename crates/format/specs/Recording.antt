-- Scope paper, "Traces", the third paragraph: starting a trace in a buffer, and appending to it. And, beside change request 6, extending it.
-- A refused one returns length 0, and the buffer keeps every byte.
use Rattle.std.specs.Prelude.{Result, Ok, Err, Bool, cond, not, ◌&&◌, ◌||◌, List, [], ◌∷◌, ◌++◌, ℕ, ◌+◌, eqb, ltb, leb, length, take, drop}
use Rattle.card.specs.declared.Write.{Write}
use Rattle.rules.specs.Refusal.{bad_length, bad_space}
use Rattle.rules.specs.declared.Refusal.{Refusal}
use Rattle.format.specs.Bytes.{word}
use Rattle.format.specs.Traces.{header_size, entry_size, largest, header, entry, encoded, writes, fits_header, is_trace}

-- the length that an answer tells, 0 where it is refused
abbrev pub length_told : Result ℕ Refusal → ℕ
length_told (Ok n) = n
length_told (Err e) = 0

-- ---- Starting.

-- 1, then 11 if the buffer has under 16
unfoldable pub start_number : ℕ → ℕ → ℕ
start_number size vram = cond (bad_length vram) 1 (cond (ltb size header_size) 11 0)

unfoldable pub start_length : ℕ → ℕ → ℕ
start_length size vram = cond (eqb (start_number size vram) 0) header_size 0

-- the buffer after: the trace of no writes, and every byte past it
unfoldable pub started : List ℕ → ℕ → List ℕ
started b vram = cond (eqb (start_number (length b) vram) 0) (encoded vram [] ++ drop header_size b) b

-- ---- One write more, where the first bytes are taken for a trace or not.

-- 10 if not; 2; 11 if 12 more bytes don't fit or the count is the largest
unfoldable pub one_more_number : Bool → List ℕ → ℕ → Write → ℕ
one_more_number t b used w =
    cond (not t) 10 (cond (bad_space w) 2 (cond (ltb (length b) (used + entry_size) || eqb (word b 0) largest) 11 0))

unfoldable pub one_more_length : Bool → List ℕ → ℕ → Write → ℕ
one_more_length t b used w = cond (eqb (one_more_number t b used w) 0) (used + entry_size) 0

-- one entry more, which the header counts; the entries before it stay, and so does every byte past it
unfoldable pub grown : List ℕ → ℕ → Write → List ℕ
grown b used w =
    let t = take used b in
    header (word t 0 + 1) (word t 8) ++ (drop header_size t ++ (entry w ++ drop (used + entry_size) b))

unfoldable pub one_more_buffer : Bool → List ℕ → ℕ → Write → List ℕ
one_more_buffer t b used w = cond (eqb (one_more_number t b used w) 0) (grown b used w) b

-- ---- Appending.

-- there are so many bytes, and they are a trace
unfoldable pub holds_trace : List ℕ → ℕ → Bool
holds_trace b used = leb used (length b) && is_trace (take used b)

abbrev pub append_number : List ℕ → ℕ → Write → ℕ
append_number b used w = one_more_number (holds_trace b used) b used w

abbrev pub append_length : List ℕ → ℕ → Write → ℕ
append_length b used w = one_more_length (holds_trace b used) b used w

-- the buffer after: the trace of the writes so far and this one, and every byte past it
unfoldable pub appended : List ℕ → ℕ → Write → List ℕ
appended b used w =
    let t = take used b in
    cond (eqb (append_number b used w) 0) (encoded (word t 8) (writes (drop header_size t) ++ (w ∷ [])) ++ drop (used + entry_size) b) b

-- ---- Extending: appending to what is known for a trace. The header alone is judged.

-- there are so many bytes, and they are as many as their header says
unfoldable pub holds_header : List ℕ → ℕ → Bool
holds_header b used = leb used (length b) && fits_header (take used b)

abbrev pub extend_number : List ℕ → ℕ → Write → ℕ
extend_number b used w = one_more_number (holds_header b used) b used w

abbrev pub extend_length : List ℕ → ℕ → Write → ℕ
extend_length b used w = one_more_length (holds_header b used) b used w

abbrev pub extended : List ℕ → ℕ → Write → List ℕ
extended b used w = one_more_buffer (holds_header b used) b used w
