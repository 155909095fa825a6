-- The lengths of traces fit 32 bits, and the bytes from 16 on stand for the part of the definitions. Assumes nothing.
use mathlib.Core.Path.{◌≡◌, refl}
use mathlib.Core.Bool.{Bool, true, false, cond}
use mathlib.Core.List.{List}
use Prim.Native.Nat.{ℕ, ◌+◌, ◌^◌, ◌<◌}
use native.Mathlib.Omega.{arith}
use lib.Dec.{eqb}
use lib.ListN.{drop}
use borrow.Author.Tests.{eqb-true}
use Rattle.card.specs.declared.Write.{Write}
use Rattle.format.specs.Traces.{is_trace, check_number, check_part}
use Rattle.format.specs.Recording.{start_number, start_length, one_more_number, one_more_length, holds_trace, append_length, holds_header, extend_length}
use Rattle.format.proofs.Checking.{good, bad}
use Rattle.format.proofs.RecordingTests.{trace-header, growable}
use Rattle.format.proofs.Growing.{length_below}

pub start_fits : (size vram : ℕ) {n : ℕ} → n ≡ start_length size vram → n < 2 ^ 32
unfolding start_length
start_fits size vram {n} e = go (eqb (start_number size vram) 0) e
  where
    go : (t : Bool) → n ≡ cond t 16 0 → n < 2 ^ 32
    go true e = omega arith
    go false e = omega arith

-- one write more
module _ (t : Bool) (b : List ℕ) (used : ℕ) (w : Write) (taken : t ≡ true → holds_header b used ≡ true) where
  grown_fits : {n : ℕ} → n ≡ one_more_length t b used w → n < 2 ^ 32
  unfolding one_more_length
  grown_fits {n} e = go (eqb (one_more_number t b used w) 0) refl e
    where
      go : (x : Bool) → eqb (one_more_number t b used w) 0 ≡ x → n ≡ cond x (used + 12) 0 → n < 2 ^ 32
      go true d e = omega (arith, length_below b used (growable t b used w taken (eqb-true _ _ d)), e)
      go false d e = omega (arith, e)

pub append_fits : (b : List ℕ) (used : ℕ) (w : Write) {n : ℕ} → n ≡ append_length b used w → n < 2 ^ 32
append_fits b used w e = grown_fits (holds_trace b used) b used w (trace-header b used) e

pub extend_fits : (b : List ℕ) (used : ℕ) (w : Write) {n : ℕ} → n ≡ extend_length b used w → n < 2 ^ 32
extend_fits b used w e = grown_fits (holds_header b used) b used w (λ t. t) e

-- where a check answers 0, the entries are the bytes from 16 on
pub entries_at_16 : (v : List ℕ) {n : ℕ} → n ≡ check_number v → n ≡ 0 → drop 16 v ≡ check_part v
entries_at_16 v e z = go (is_trace v) refl
  where
    go : (t : Bool) → is_trace v ≡ t → drop 16 v ≡ check_part v
    go true d = (good v d).0
    go false d = absurd (omega (arith, (bad v d).1, e, z))
