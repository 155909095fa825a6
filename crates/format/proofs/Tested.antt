-- What the tests of a part and of a trace say, where they hold. Assumes nothing.
use mathlib.Core.Path.{◌≡◌}
use mathlib.Core.Bool.{true, false}
use mathlib.Core.List.{List}
use Prim.Native.Nat.{ℕ, ◌+◌, ◌*◌, ◌/◌, ◌%◌, ◌≤◌}
use native.Mathlib.Omega.{arith}
use lib.Dec.{leb}
use lib.ListN.{length, drop, length-drop}
use borrow.Author.Tests.{eqb-true, leb-true, not-true}
use Rattle.rules.specs.Refusal.{bad_length}
use Rattle.rules.proofs.Tests.{both}
use Rattle.format.specs.Bytes.{word}
use Rattle.format.specs.Traces.{largest, entry_count, padded_at, well_formed, well_formed_up_to, good_header, good_header_up_to, fits_header, fits_header_up_to, is_trace, is_trace_up_to}

pub record Formed (part : List ℕ) : Type 0 where
  pub whole : length part ≡ 12 * entry_count part
  pub few : entry_count part ≤ largest
  pub padded : padded_at part 0 (entry_count part) ≡ true

pub formed : (part : List ℕ) → well_formed part ≡ true → Formed part
unfolding well_formed_up_to
formed part e =
    let (a, r) = both _ _ e in
    let (b, c) = both _ _ r in
    record { whole = twelves (length part) (eqb-true _ _ a); few = leb-true _ _ b; padded = c }
  where
    twelves : (n : ℕ) → n % 12 ≡ 0 → n ≡ 12 * (n / 12)
    twelves n z = omega arith

pub record Headed (v : List ℕ) : Type 0 where
  pub header : 16 ≤ length v
  pub few : word v 0 ≤ largest
  pub offset : word v 4 ≡ 16
  pub vram : bad_length (word v 8) ≡ false
  pub total : word v 12 ≡ 16 + 12 * word v 0

-- not too many, whatever the number allowed
pub few_announced : (most : ℕ) (v : List ℕ) → good_header_up_to most v ≡ true → word v 0 ≤ most
unfolding good_header_up_to
few_announced most v e = let (_, r) = both (leb 16 (length v)) _ e in leb-true _ _ (both (leb (word v 0) most) _ r).0

pub headed : (v : List ℕ) → good_header v ≡ true → Headed v
unfolding good_header_up_to
headed v e =
    let (a, r) = both _ _ e in
    let (_, s) = both (leb (word v 0) largest) _ r in
    let (c, t) = both _ _ s in
    let (d, f) = both _ _ t in
    record { header = leb-true _ _ a; few = few_announced largest v e; offset = eqb-true _ _ c; vram = not-true _ d; total = eqb-true _ _ f }

pub record Traced (v : List ℕ) : Type 0 where
  pub good : good_header v ≡ true
  pub header : 16 ≤ length v
  pub offset : word v 4 ≡ 16
  pub vram : bad_length (word v 8) ≡ false
  pub total : word v 12 ≡ 16 + 12 * word v 0
  pub whole : length v ≡ word v 12
  pub entries : well_formed (drop 16 v) ≡ true

-- bytes that are as many as their header says
pub fitting : (v : List ℕ) → fits_header v ≡ true → (good_header v ≡ true) × (length v ≡ word v 12)
unfolding fits_header_up_to
fitting v e = let (g, f) = both _ _ e in (g, eqb-true _ _ f)

-- a trace fits its header
pub trace_fitting : (v : List ℕ) → is_trace v ≡ true → fits_header v ≡ true
unfolding is_trace_up_to
trace_fitting v e = (both _ _ e).0

pub traced : (v : List ℕ) → is_trace v ≡ true → Traced v
unfolding is_trace_up_to
traced v e =
    let (f, t) = both _ _ e in
    let (g, whole) = fitting v f in
    let h = headed v g in
    record { good = g; header = h.header; offset = h.offset; vram = h.vram; total = h.total; whole = whole; entries = t }

-- the header's count is the number of entries
pub counted : (v : List ℕ) → Traced v → entry_count (drop 16 v) ≡ word v 0
counted v t = rw length-drop (omega arith)
