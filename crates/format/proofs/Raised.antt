-- Change request 6: where more entries are allowed, every trace says what it said; and where fewer are, one with more is none. Over any two numbers. And how
-- long a trace can be. Assumes nothing.
use mathlib.Core.Path.{◌≡◌, refl, sym}
use mathlib.Core.Bool.{true, false}
use mathlib.Core.List.{List, []}
use Prim.Native.Nat.{ℕ, ◌%◌, ◌≤◌, ◌<◌}
use native.Mathlib.Omega.{arith}
use lib.Dec.{eqb, leb}
use lib.ListN.{length, drop}
use borrow.Author.Tests.{leb-true, le-leb}
use Rattle.rules.proofs.Tests.{both}
use Rattle.format.specs.Bytes.{word}
use Rattle.format.specs.Traces.{entry_count, well_formed_up_to, good_header_up_to, fits_header_up_to, is_trace, is_trace_up_to, malformed, decoded_up_to, check_number_up_to, check_part_up_to, check_length_up_to}
use Rattle.format.proofs.Padding.{too_many}
use Rattle.format.proofs.Tested.{headed, traced}
use Rattle.format.proofs.HeaderTests.{many_entries, bad_header, not_fitting}

-- the largest number before the request
abbrev pub old_largest : ℕ
old_largest = 4096

-- no trace is longer than this, so that no sum of its lengths wraps
pub longest : (v : List ℕ) → is_trace v ≡ true → length v ≤ 786448
longest v e = let t = traced v e in let h = headed v t.good in omega (arith, t.whole, t.total, h.few)

-- a check hands back a part that can be run, under the same number
trace-entries : (m : ℕ) (v : List ℕ) → is_trace_up_to m v ≡ true → well_formed_up_to m (drop 16 v) ≡ true
unfolding is_trace_up_to
trace-entries m v e = (both (fits_header_up_to m v) _ e).1

pub checked_part : (m : ℕ) (v : List ℕ) → is_trace_up_to m v ≡ true → well_formed_up_to m (check_part_up_to m v) ≡ true
unfolding check_part_up_to
checked_part m v e = rw e (trace-entries m v e)

-- ---- More are allowed.

module _ (m n : ℕ) (h : m ≤ n) where
  few_raised : (k : ℕ) → leb k m ≡ true → leb k n ≡ true
  few_raised k e = le-leb k n (omega (arith, h, leb-true k m e))

  pub formed_raised : (part : List ℕ) → well_formed_up_to m part ≡ true → well_formed_up_to n part ≡ true
  unfolding well_formed_up_to
  formed_raised part e =
      let (a, r) = both (eqb (length part % 12) 0) _ e in
      let (b, c) = both (leb (entry_count part) m) _ r in
      rw (a, few_raised (entry_count part) b, c)

  header_raised : (v : List ℕ) → good_header_up_to m v ≡ true → good_header_up_to n v ≡ true
  unfolding good_header_up_to
  header_raised v e =
      let (a, r) = both (leb 16 (length v)) _ e in
      let (b, c) = both (leb (word v 0) m) _ r in
      rw (a, few_raised (word v 0) b, c)

  length_raised : (v : List ℕ) → fits_header_up_to m v ≡ true → fits_header_up_to n v ≡ true
  unfolding fits_header_up_to
  length_raised v e = let (a, b) = both (good_header_up_to m v) _ e in rw (header_raised v a, b)

  pub trace_raised : (v : List ℕ) → is_trace_up_to m v ≡ true → is_trace_up_to n v ≡ true
  unfolding is_trace_up_to
  trace_raised v e = let (a, b) = both (fits_header_up_to m v) _ e in rw (length_raised v a, formed_raised (drop 16 v) b)

  -- the same VRAM length and the same writes
  pub says_raised : (v : List ℕ) → is_trace_up_to m v ≡ true → decoded_up_to n v ≡ decoded_up_to m v
  unfolding decoded_up_to
  says_raised v e = rw (e, trace_raised v e)

  -- a check answers the same
  pub checks_raised : (v : List ℕ) → is_trace_up_to m v ≡ true
      → (check_number_up_to n v ≡ check_number_up_to m v) × (check_part_up_to n v ≡ check_part_up_to m v) × (check_length_up_to n v ≡ check_length_up_to m v)
  unfolding check_number_up_to check_part_up_to check_length_up_to
  checks_raised v e = rw (e, trace_raised v e) (refl, refl, refl)

-- ---- Fewer are allowed.

module _ (m : ℕ) where
  pub part_refused : (part : List ℕ) → m < entry_count part → well_formed_up_to m part ≡ false
  part_refused part h = sym (too_many m part h)

  module _ (v : List ℕ) (h : m < word v 0) where
    pub header_refused : good_header_up_to m v ≡ false
    header_refused = sym (many_entries v m refl h)

    pub trace_refused : is_trace_up_to m v ≡ false
    trace_refused = sym (not_fitting v m (sym (bad_header v m header_refused)))

    -- nothing is read of it
    pub says_nothing : decoded_up_to m v ≡ malformed
    unfolding decoded_up_to
    says_nothing = rw trace_refused

    -- a check answers 10, with an empty part and 0
    pub check_refused : (check_number_up_to m v ≡ 10) × (check_part_up_to m v ≡ []) × (check_length_up_to m v ≡ 0)
    unfolding check_number_up_to check_part_up_to check_length_up_to
    check_refused = rw trace_refused (refl, refl, refl)
