-- What the bytes give, and `check`: for bytes that `check` accepts, number, card, VRAM, entries, pixels and pixels changed after all chunks and the end
-- call are those of one whole run; for bytes that it refuses, the number after the end call is not 0. Assumes nothing.
use mathlib.Core.Path.{◌≡◌, refl, ap, sym, ◌∙◌}
use mathlib.Core.Bool.{Bool, true, false, true≢false, cond}
use mathlib.Core.List.{List, ◌∷◌}
use Prim.Native.Nat.{ℕ, zero, suc, ◌+◌, ◌*◌, ◌≤◌}
use native.Mathlib.Nat.{add-zero}
use native.Mathlib.Omega.{arith}
use lib.Dec.{eqb, leb}
use lib.ListN.{length, get_or, drop}
use borrow.Author.Tests.{eq-eqb, eqb-true, eqb-false, le-leb}
use Rattle.card.specs.declared.Card.{Card}
use Rattle.card.specs.declared.Write.{Write}
use Rattle.rules.specs.Refusal.{bad_length}
use Rattle.format.specs.Bytes.{word}
use Rattle.format.specs.Traces.{write_at, writes_at, padded_at, entry_count, writes, well_formed, good_header, is_trace, check_part, check_part_up_to}
use Rattle.rules.proofs.Tests.{both}
use Rattle.format.proofs.Tested.{headed, traced, formed, counted}
use Rattle.format.proofs.HeaderTests.{by_length}
use Rattle.format.proofs.Decoding.{by_pads, writes_at-drop, padded_at-drop}
use Rattle.trace.specs.Run.{State, nothing, answer, apply, refuse, ran, run}
use Rattle.trace.proofs.Runs.{run_bad, run_good}
use Rattle.line.specs.Serial.{state_of, chunks, joined, finished}
use Rattle.line.specs.Arrival.{breaks, entry_there, entries_arrive, arrives}
use Rattle.line.proofs.Arriving.{fresh, arriving, arriving_bad}

module _ (v : List ℕ) where
  -- entries that are all there are run
  entries-run : (k a b : ℕ) (s : State) → length v ≡ a + 12 * k → padded_at v a k ≡ true → k ≤ b → entries_arrive v k a s ≡ ran (writes_at v a k) b s
  unfolding entries_arrive entry_there writes_at ran padded_at
  entries-run zero a b s e p h = simp (eq-eqb (length v) a (omega (arith, e)))
  entries-run (suc k) a zero s e p h = absurd (omega (arith, h))
  entries-run (suc k) a (suc b) s e p h =
      let (x, y) = both (eqb (get_or v (a + 2) 0) 0) _ p in
      let (z, rest) = both (eqb (get_or v (a + 3) 0) 0) _ y in
      simp (le-leb (a + 12) (length v) (omega (arith, e)), x, z)
      (ap (λ (t : State). cond (eqb (answer s (write_at v a)) 0) t (refuse s (write_at v a)))
      (entries-run k (a + 12) b (apply s (write_at v a)) (omega (arith, e)) rest (omega (arith, h))))

  -- where no number comes, the entries are all there
  all_there : (k a : ℕ) (s : State) → (entries_arrive v k a s).number ≡ 0 → (length v ≡ a + 12 * k) × (padded_at v a k ≡ true)
  unfolding entries_arrive entry_there padded_at refuse
  all_there zero a s z = go (eqb (length v) a) refl z
    where
      go : (x : Bool) → eqb (length v) a ≡ x → (cond x s (breaks s)).number ≡ 0 → (length v ≡ a + 0) × (true ≡ true)
      go true e z = (eqb-true _ _ e ∙ sym (add-zero a), refl)
      go false e z = absurd (omega (arith, z))
  all_there (suc k) a s z = go (entry_there v a) (eqb (answer s w) 0) refl refl z (all_there k (a + 12) (apply s w))
    where
      w : Write
      w = write_at v a

      go : (x y : Bool) → entry_there v a ≡ x → eqb (answer s w) 0 ≡ y
          → (cond x (cond y (entries_arrive v k (a + 12) (apply s w)) (refuse s w)) (breaks s)).number ≡ 0
          → ((entries_arrive v k (a + 12) (apply s w)).number ≡ 0 → (length v ≡ a + 12 + 12 * k) × (padded_at v (a + 12) k ≡ true))
          → (length v ≡ a + 12 * suc k) × (padded_at v a (suc k) ≡ true)
      go true true e f n r =
          let (long, rest) = r n in
          let (_, pads) = both (leb (a + 12) (length v)) _ e in
          let (first, second) = both (eqb (get_or v (a + 2) 0) 0) _ pads in
          (omega (arith, long), simp (first, second, rest))
      go true false e f n r = absurd (eqb-false _ _ f n)
      go false y e f n r = absurd (omega (arith, n))

module _ (v : List ℕ) (c : Card) (p : List ℕ) where
  -- a trace is run whole
  arrives-run : (b : ℕ) → is_trace v ≡ true → word v 0 ≤ b → bad_length (length p) ≡ false → arrives v c p ≡ run (check_part v) b c p
  unfolding arrives check_part_up_to writes
  arrives-run b e h g =
      let t = traced v e in
      let n : entry_count (drop 16 v) ≡ word v 0 = counted v t in
      let pads : padded_at v 16 (word v 0) ≡ true
      = sym (padded_at-drop 16 v 0 (word v 0)) ∙ ap (padded_at (drop 16 v) 0) (sym n) ∙ (formed _ t.entries).padded in
      let ws : writes (drop 16 v) ≡ writes_at v 16 (word v 0) = ap (writes_at (drop 16 v) 0) n ∙ writes_at-drop 16 v 0 (word v 0) in
      simp (t.good, e)
      (entries-run v (word v 0) 16 b (nothing 0 c p) (t.whole ∙ t.total) pads h
      ∙ ap (λ (l : List Write). ran l b (nothing 0 c p)) (sym ws)
      ∙ sym (run_good (drop 16 v) b c p t.entries g))

  -- what gets no number is a trace
  arrives-trace : (arrives v c p).number ≡ 0 → is_trace v ≡ true
  unfolding arrives
  arrives-trace z = go (good_header v) refl z
    where
      go : (x : Bool) → good_header v ≡ x → (cond x (entries_arrive v (word v 0) 16 (nothing 0 c p)) (nothing 10 c p)).number ≡ 0 → is_trace v ≡ true
      go true g n =
          let h = headed v g in
          let (long, pads) = all_there v (word v 0) 16 (nothing 0 c p) n in
          sym (by_pads v (sym (by_length v g refl) ∙ eq-eqb _ _ (long ∙ sym h.total))) ∙ pads
      go false g n = absurd (omega (arith, n))

  -- ---- The theorems: the bytes v arrive in one or more chunks of any length.

  module _ (bs : List ℕ) (rest : List (List ℕ)) (cut : joined (bs ∷ rest) ≡ v) where
    -- for a trace, under any budget that covers its entries
    pub one_whole_run : (budget : ℕ) → is_trace v ≡ true → entry_count (check_part v) ≤ budget
        → state_of (finished (chunks (bs ∷ rest) (fresh c p))) ≡ run (check_part v) budget c p
    unfolding check_part_up_to
    one_whole_run b e h = go (bad_length (length p)) refl
      where
        part : check_part v ≡ drop 16 v
        part = simp e

        covers : word v 0 ≤ b
        covers = omega (arith, h, counted v (traced v e), ap entry_count part)

        go : (x : Bool) → bad_length (length p) ≡ x → state_of (finished (chunks (bs ∷ rest) (fresh c p))) ≡ run (check_part v) b c p
        go true g =
            arriving_bad v c p bs rest cut g ∙ sym (run_bad (check_part v) b c p (ap well_formed part ∙ (traced v e).entries) g)
        go false g = arriving v c p bs rest cut g ∙ arrives-run b e covers g

    -- for bytes that are no trace
    pub no_trace : is_trace v ≡ false → (finished (chunks (bs ∷ rest) (fresh c p))).reader.number ≡ 0 → ⊥
    no_trace e z = go (bad_length (length p)) refl
      where
        go : (x : Bool) → bad_length (length p) ≡ x → ⊥
        go true g = omega (arith, z, ap (λ (s : State). s.number) (arriving_bad v c p bs rest cut g))
        go false g = true≢false (sym (arrives-trace (sym (ap (λ (s : State). s.number) (arriving v c p bs rest cut g)) ∙ z)) ∙ e)
