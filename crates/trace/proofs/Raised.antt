-- Change request 6: every old trace runs as it did, and a box with the old largest number answers 10 to a longer one, and draws nothing.
-- Assumes nothing.
use mathlib.Core.Path.{◌≡◌, ap, sym, ◌∙◌}
use mathlib.Core.Bool.{true}
use mathlib.Core.List.{List, []}
use Prim.Native.Nat.{ℕ, ◌≤◌, ◌<◌}
use native.Mathlib.Omega.{arith}
use lib.ListN.{drop}
use Rattle.card.specs.declared.Card.{Card}
use Rattle.format.specs.Bytes.{word}
use Rattle.format.specs.Traces.{largest, entry_count, well_formed_up_to, is_trace, is_trace_up_to, decoded, decoded_up_to, malformed, check_number, check_number_up_to, check_part, check_part_up_to, check_length, check_length_up_to}
use Rattle.format.proofs.Tested.{traced, counted}
use Rattle.format.proofs.Checking.{good}
use Rattle.format.proofs.Raised.{old_largest, checked_part, formed_raised, says_raised, checks_raised, part_refused, says_nothing, check_refused}
use Rattle.trace.specs.Run.{nothing, run, run_up_to}

-- ---- Over any two numbers.

pub runs_raised : (m n : ℕ) → m ≤ n → (part : List ℕ) → well_formed_up_to m part ≡ true → (budget : ℕ) (c : Card) (v : List ℕ)
    → run_up_to n part budget c v ≡ run_up_to m part budget c v
unfolding run_up_to
runs_raised m n h part e budget c v = rw (e, formed_raised m n h part e)

pub run_refused : (m : ℕ) (part : List ℕ) → m < entry_count part → (budget : ℕ) (c : Card) (v : List ℕ) → run_up_to m part budget c v ≡ nothing 10 c v
unfolding run_up_to
run_refused m part h budget c v = rw (part_refused m part h)

-- ---- The old largest number and the largest number now.

-- bytes that were a trace
pub record AsBefore (v : List ℕ) : Type 0 where
  -- say the same VRAM length and writes
  pub says : decoded v ≡ decoded_up_to old_largest v
  -- are checked with the same answer
  pub number : check_number v ≡ check_number_up_to old_largest v
  pub part : check_part v ≡ check_part_up_to old_largest v
  pub memory : check_length v ≡ check_length_up_to old_largest v
  -- and run as they did, under every budget, from every card and on every picture
  pub runs : (budget : ℕ) (c : Card) (p : List ℕ) → run (check_part v) budget c p ≡ run_up_to old_largest (check_part_up_to old_largest v) budget c p

pub every_old_trace : (v : List ℕ) → is_trace_up_to old_largest v ≡ true → AsBefore v
every_old_trace v e =
    let more : old_largest ≤ largest = omega arith in
    let (number, part, memory) = checks_raised old_largest largest more v e in
    record {
      says = says_raised old_largest largest more v e;
      number = number;
      part = part;
      memory = memory;
      runs = λ budget c p. ap (λ (x : List ℕ). run x budget c p) part ∙ runs_raised old_largest largest more (check_part_up_to old_largest v) (checked_part old_largest v e) budget c p;
    }

-- a trace with more entries than the old largest number
pub record RefusedBefore (v : List ℕ) : Type 0 where
  -- said nothing
  pub says : decoded_up_to old_largest v ≡ malformed
  -- was checked with 10, an empty part and 0
  pub number : check_number_up_to old_largest v ≡ 10
  pub part : check_part_up_to old_largest v ≡ []
  pub memory : check_length_up_to old_largest v ≡ 0
  -- and its entries, handed to a run all the same, draw nothing and change nothing
  pub runs : (budget : ℕ) (c : Card) (p : List ℕ) → run_up_to old_largest (check_part v) budget c p ≡ nothing 10 c p

pub longer_trace : (v : List ℕ) → is_trace v ≡ true → old_largest < word v 0 → RefusedBefore v
longer_trace v e h =
    let (number, part, memory) = check_refused old_largest v h in
    let entries : check_part v ≡ drop 16 v = sym (good v e).0 in
    record {
      says = says_nothing old_largest v h;
      number = number;
      part = part;
      memory = memory;
      runs = λ budget c p. run_refused old_largest (check_part v) (omega (arith, ap entry_count entries, counted v (traced v e), h)) budget c p;
    }
