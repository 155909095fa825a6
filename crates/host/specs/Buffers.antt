-- What each entry on a buffer promises: its answer, and what it leaves of the buffer that was lent to it, by the definitions of `format` at what was handed in.
-- `zevkholtai_write` promises what `answers` does, `zevkholtai_reset` what `card` does.
use Rattle.std.specs.Prelude.{◌≡◌, List, ℕ, length, drop}
use Rattle.card.specs.declared.Write.{Write}
use Rattle.format.specs.Traces.{header_size, check_number, check_length, check_part}
use Rattle.format.specs.Recording.{start_number, start_length, started, append_number, append_length, appended, extend_number, extend_length, extended}
use Rattle.host.specs.declared.Checked.{Checked}

-- buffer b and a length of VRAM gave answer r, and left buffer b'
pub record Began (b : List ℕ) (vram : ℕ) (r : Checked) (b' : List ℕ) : Type 0 where
  pub number : r.number ≡ start_number (length b) vram
  pub lengths : r.length ≡ start_length (length b) vram
  pub leaves : b' ≡ started b vram

-- buffer b, the length of the trace in it, and write w gave answer r, and left buffer b'
pub record Grew (b : List ℕ) (used : ℕ) (w : Write) (r : Checked) (b' : List ℕ) : Type 0 where
  pub number : r.number ≡ append_number b used w
  pub lengths : r.length ≡ append_length b used w
  pub leaves : b' ≡ appended b used w

-- the same of extending
pub record Extended (b : List ℕ) (used : ℕ) (w : Write) (r : Checked) (b' : List ℕ) : Type 0 where
  pub number : r.number ≡ extend_number b used w
  pub lengths : r.length ≡ extend_length b used w
  pub leaves : b' ≡ extended b used w

-- bytes v gave answer r. Where its number is 0, the entries are the bytes from 16 on
pub record Looked (v : List ℕ) (r : Checked) : Type 0 where
  pub number : r.number ≡ check_number v
  pub lengths : r.length ≡ check_length v
  pub entries : r.number ≡ 0 → drop header_size v ≡ check_part v
