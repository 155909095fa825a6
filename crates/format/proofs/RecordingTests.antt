-- What an accepted start, append or extension says. Assumes nothing.
use mathlib.Core.Path.{◌≡◌, refl}
use mathlib.Core.Bool.{Bool, true, false, cond, not, ◌||◌}
use mathlib.Core.List.{List}
use Prim.Native.Nat.{ℕ, ◌+◌, ◌≤◌, ◌<◌}
use native.Mathlib.Nat.{zero-lt-suc}
use native.Mathlib.Omega.{arith}
use lib.Dec.{eqb, ltb, leb}
use lib.ListN.{length, take}
use borrow.Author.Tests.{ltb-false, leb-true, eqb-false}
use Rattle.card.specs.declared.Write.{Write}
use Rattle.rules.specs.Refusal.{bad_length, bad_space}
use Rattle.rules.proofs.Tests.{both, neither}
use Rattle.format.specs.Bytes.{word}
use Rattle.format.specs.Traces.{largest, fits_header, is_trace}
use Rattle.format.specs.Recording.{start_number, one_more_number, holds_trace, append_number, holds_header}
use Rattle.format.proofs.Tested.{trace_fitting}

-- a picked number that is 0 was not the first
passed : (a : Bool) (k n : ℕ) → 0 < k → cond a k n ≡ 0 → (a ≡ false) × (n ≡ 0)
passed true k n h e = absurd (omega arith)
passed false k n h e = (refl, e)

pub good_start : (size vram : ℕ) → start_number size vram ≡ 0 → bad_length vram ≡ false
unfolding start_number
good_start size vram e = (passed (bad_length vram) 1 _ (zero-lt-suc 0) e).0

pub room_to_start : (size vram : ℕ) → start_number size vram ≡ 0 → 16 ≤ size
unfolding start_number
room_to_start size vram e =
    let (_, r) = passed (bad_length vram) 1 _ (zero-lt-suc 0) e in
    ltb-false _ _ (passed (ltb size 16) 11 0 (zero-lt-suc 10) r).0

-- what an accepted write more says, where the first bytes are taken for a trace or not
module _ (t : Bool) (b : List ℕ) (used : ℕ) (w : Write) where
  accepted : one_more_number t b used w ≡ 0 → (t ≡ true) × (used + 12 ≤ length b) × (word b 0 ≡ largest → ⊥)
  unfolding one_more_number
  accepted e = go t refl e
    where
      full_or_short : Bool
      full_or_short = ltb (length b) (used + 12) || eqb (word b 0) largest

      go : (x : Bool) → t ≡ x → ◌≡◌ {A = ℕ} (cond (not x) 10 (cond (bad_space w) 2 (cond full_or_short 11 0))) 0
          → (t ≡ true) × (used + 12 ≤ length b) × (word b 0 ≡ largest → ⊥)
      go true d e =
          let (_, r) = passed (bad_space w) 2 (cond full_or_short 11 0) (zero-lt-suc 1) e in
          let (f, _) = passed full_or_short 11 0 (zero-lt-suc 10) r in
          let (room, few) = neither (ltb (length b) (used + 12)) (eqb (word b 0) largest) f in
          (d, ltb-false _ _ room, eqb-false _ _ few)
      go false d e = absurd (omega (arith, e))

-- a trace fits its header
pub trace-header : (b : List ℕ) (used : ℕ) → holds_trace b used ≡ true → holds_header b used ≡ true
unfolding holds_trace holds_header
trace-header b used e = let (within, trace) = both (leb used (length b)) (is_trace (take used b)) e in rw (within, trace_fitting (take used b) trace)

-- the first bytes fit their header, and there is room for an entry after them
pub record Growable (b : List ℕ) (used : ℕ) : Type 0 where
  pub within : used ≤ length b
  pub front_fits_header : fits_header (take used b) ≡ true
  pub room : used + 12 ≤ length b
  pub few : word b 0 ≡ largest → ⊥

pub growable : (t : Bool) (b : List ℕ) (used : ℕ) (w : Write) → (t ≡ true → holds_header b used ≡ true) → one_more_number t b used w ≡ 0 → Growable b used
unfolding holds_header
growable t b used w h e =
    let (taken, room, few) = accepted t b used w e in
    let (within, front_fits_header) = both (leb used (length b)) (fits_header (take used b)) (h taken) in
    record { within = leb-true _ _ within; front_fits_header = front_fits_header; room = room; few = few }

pub appendable : (b : List ℕ) (used : ℕ) (w : Write) → append_number b used w ≡ 0 → Growable b used
appendable b used w e = growable (holds_trace b used) b used w (trace-header b used) e

-- what an append accepts is a trace
pub appends_to_trace : (b : List ℕ) (used : ℕ) (w : Write) → append_number b used w ≡ 0 → is_trace (take used b) ≡ true
unfolding holds_trace
appends_to_trace b used w e = (both (leb used (length b)) (is_trace (take used b)) (accepted _ b used w e).0).1
