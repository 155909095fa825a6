-- Change request 6, for traces that arrive. A new reader that allows fewer entries than a header announces answers 10 at the header's
-- sixteenth byte, and not before; however the bytes are cut into chunks, it ends with 10, no entry applied, no pixel, and the card and the
-- picture as they were. Over any number of entries that is allowed, and then at 4,096. And every old trace ends, with the largest
-- number now, as its run did. For every card and picture. Assumes, where 10 is answered, a VRAM that number 1 does not refuse.
use mathlib.Core.Path.{◌≡◌, refl, ap, ◌∙◌}
use mathlib.Core.Bool.{true, false}
use mathlib.Core.List.{List, [], ◌∷◌}
use Prim.Native.Nat.{ℕ, ◌≤◌, ◌<◌}
use native.Mathlib.Omega.{arith}
use lib.ListN.{length, take}
use lib.Seq.{length-take-le}
use Rattle.card.specs.declared.Card.{Card}
use Rattle.rules.specs.Refusal.{bad_length}
use Rattle.format.specs.Bytes.{word}
use Rattle.format.specs.Traces.{largest, entry_count, is_trace_up_to, check_part_up_to}
use Rattle.format.proofs.Raised.{old_largest, trace_raised, header_refused as announces-more}
use Rattle.trace.specs.Run.{nothing, run_up_to}
use Rattle.trace.proofs.Raised.{every_old_trace}
use Rattle.line.specs.Serial.{new_reader, Standing, state_of, complete, sticks, reads_up_to, chunk_up_to, chunks, chunks_up_to, joined, finished, finished_up_to}
use Rattle.line.proofs.Kept.{new_can_be}
use Rattle.line.proofs.Joining.{chunk-reads, any_chunks}
use Rattle.line.proofs.Units.{word_front, partly, header_refused}
use Rattle.line.proofs.Arriving.{broken, fresh}
use Rattle.line.proofs.Rules.{not_before}
use Rattle.line.proofs.Accepted.{one_whole_run}

-- ---- Over any number.

-- a new reader that allows m entries refuses the bytes v as they arrive
pub record Refused (m : ℕ) (v : List ℕ) (c : Card) (p : List ℕ) : Type 0 where
  -- the first fifteen get 0
  pub not_yet : (chunk_up_to m (take 15 v) (fresh c p)).reader.number ≡ 0
  -- with the sixteenth they get 10, and nothing is drawn or changed
  pub at_once : state_of (chunk_up_to m (take 16 v) (fresh c p)) ≡ nothing 10 c p
  -- and so they end, in one or more chunks, after the end call
  pub ends : (bs : List ℕ) (rest : List (List ℕ)) → joined (bs ∷ rest) ≡ v
      → state_of (finished_up_to m (chunks_up_to m (bs ∷ rest) (fresh c p))) ≡ nothing 10 c p

module _ (m : ℕ) (c : Card) (p : List ℕ) (good : bad_length (length p) ≡ false) where
  -- the header alone decides: what follows it is not read
  stops : (v : List ℕ) → 16 ≤ length v → m < word v 0 → chunk_up_to m v (fresh c p) ≡ sticks 10 (partly 15 v (fresh c p))
  unfolding new_reader complete
  stops v long h =
      chunk-reads m v (fresh c p) (new_can_be m) good ∙ header_refused m v (fresh c p) refl refl refl refl refl long (announces-more m v h)

  -- the header announces more entries than are allowed
  pub too_many : (v : List ℕ) → 16 ≤ length v → m < word v 0 → Refused m v c p
  unfolding new_reader reads_up_to
  too_many v long h =
      record {
        not_yet = not_before m (take 15 v) c p good (omega (arith, length-take-le 15 v (omega arith)));
        at_once = ap state_of (stops (take 16 v) (omega (arith, length-take-le 16 v long)) (omega (arith, h, word_front v 0 long (omega arith))));
        ends = λ bs rest cut.
            ap (λ (t : Standing). state_of (finished_up_to m t))
            (any_chunks m bs rest (fresh c p) ∙ ap (λ (u : List ℕ). chunk_up_to m u (fresh c p)) cut ∙ stops v long h)
            ∙ broken m [] (partly 15 v (fresh c p));
      }

-- ---- The old largest number and the largest number now.

-- a box that was not updated answers 10 to a longer trace that arrives, at the end of its header, before anything is drawn
pub longer_trace_arrives : (v : List ℕ) (c : Card) (p : List ℕ) → bad_length (length p) ≡ false → 16 ≤ length v → old_largest < word v 0 → Refused old_largest v c p
longer_trace_arrives v c p good = too_many old_largest c p good v

-- bytes that were a trace end as their run did, in one or more chunks, for every budget that covers their entries
pub every_old_trace_arrives : (v : List ℕ) → is_trace_up_to old_largest v ≡ true → (c : Card) (p bs : List ℕ) (rest : List (List ℕ)) → joined (bs ∷ rest) ≡ v
    → (budget : ℕ) → entry_count (check_part_up_to old_largest v) ≤ budget
    → state_of (finished (chunks (bs ∷ rest) (fresh c p))) ≡ run_up_to old_largest (check_part_up_to old_largest v) budget c p
every_old_trace_arrives v e c p bs rest cut budget h =
    let old = every_old_trace v e in
    one_whole_run v c p bs rest cut budget (trace_raised old_largest largest (omega arith) v e) (omega (arith, h, ap entry_count old.part)) ∙ old.runs budget c p
