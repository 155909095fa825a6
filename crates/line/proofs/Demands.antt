-- Demands 1 and 2 over traces that arrive in chunks. What was drawn before a number stays, and after it nothing is drawn; the held planes keep
-- every bit through any list of chunks; the totals keep the bounds of a run's. For every card and picture; each law says for which readers.
-- Assumes nothing.
use mathlib.Core.Path.{◌≡◌, refl, ap, sym, ◌∙◌, subst}
use mathlib.Core.Bool.{Bool, true, false, cond, ◌&&◌}
use mathlib.Core.List.{List, [], ◌∷◌}
use Prim.Native.Nat.{ℕ, zero, suc, ◌+◌, ◌-◌, ◌*◌, ◌≤◌, ◌<◌}
use native.Mathlib.Nat.{zero-add, le_trans}
use native.Mathlib.Omega.{arith}
use lib.Dec.{eqb}
use lib.ListN.{length, get_or}
use borrow.Author.Tests.{eqb-true, eqb-false}
use Rattle.raster.specs.Pixel.{bit}
use Rattle.card.specs.declared.Card.{Card}
use Rattle.card.specs.declared.Write.{Write}
use Rattle.card.specs.Registers.{is_set}
use Rattle.card.specs.Reset.{reset_card}
use Rattle.rules.specs.Refusal.{bad_length}
use Rattle.rules.specs.Sequences.{card_after, picture_after}
use Rattle.demands.proofs.Demand1.{answered}
use Rattle.demands.proofs.Demand2.{held_through, held_chosen}
use Rattle.format.specs.Bytes.{word}
use Rattle.format.specs.Traces.{largest, header_size, entry_size, write_at, writes_at, good_header}
use Rattle.trace.specs.Run.{State, nothing, answer, apply, refuse, most_pixels}
use Rattle.line.specs.declared.Reader.{Reader}
use Rattle.line.specs.Serial.{Standing, state_of, complete, stuck, sticks, waits, opens, draws, byte, reads, reads_up_to, sound, chunk, chunks, chunks_up_to, joined, ended, ended_up_to, finished}
use Rattle.line.specs.Arrival.{breaks, entry_there, entries_arrive, arrives}
use Rattle.line.proofs.Steps.{Step, stays, refuses, waiting, drawing, opening, step}
use Rattle.line.proofs.Kept.{by_answer, draws_size, Sound, to_sound, reads-sound}
use Rattle.line.proofs.Joining.{chunk-stuck, chunk_unsound, chunk_bad, chunk-reads}
use Rattle.line.proofs.Turns.{there}
use Rattle.line.proofs.Arriving.{fresh, ended_stuck, arriving, arriving_bad}

-- ---- After a number, later chunks and the end call return it, and change nothing.

pub after_number : (rest : List (List ℕ)) (s : Standing) → (s.reader.number ≡ 0 → ⊥) → chunks rest s ≡ s
unfolding chunks_up_to
after_number [] s n = refl
after_number (bs ∷ rest) s n = ap (chunks rest) (chunk-stuck largest bs s n) ∙ after_number rest s n

pub end_after_number : (s : Standing) → (s.reader.number ≡ 0 → ⊥) → finished s ≡ s
end_after_number s n = ap (λ (r : Reader). record { reader = r; card = s.card; picture = s.picture }) (ended_stuck largest s.reader n)

-- ---- What a chunk is, whatever the reader: nothing but a number, or its bytes one after the other.

by_chunk : (q : Standing → Type 0) (bs : List ℕ) (s : Standing) → q s → ((n : ℕ) → n ≤ 13 → q (sticks n s))
    → (Sound largest s.reader → bad_length (length s.picture) ≡ false → q (reads bs s)) → q (chunk bs s)
by_chunk q bs s same number bytes = go (eqb s.reader.number 0) (sound s.reader) (bad_length (length s.picture)) refl refl refl
  where
    go : (x y z : Bool) → eqb s.reader.number 0 ≡ x → sound s.reader ≡ y → bad_length (length s.picture) ≡ z → q (chunk bs s)
    go false y z d e f = subst q (sym (chunk-stuck largest bs s (eqb-false _ _ d))) same
    go true false z d e f = subst q (sym (chunk_unsound largest bs s (eqb-true _ _ d) e)) (number 10 (omega arith))
    go true true true d e f = subst q (sym (chunk_bad largest bs s (eqb-true _ _ d) e f)) (number 1 (omega arith))
    go true true false d e f = subst q (sym (chunk-reads largest bs s e f)) (bytes (to_sound largest _ e) f)

-- ---- Demand 2: the held planes.

-- from s to t every bit of a held plane is as it was, and the planes stay held
pub record Holds (s t : Standing) : Type 0 where
  pub chosen : t.card.held ≡ s.card.held
  pub size : length t.picture ≡ length s.picture
  pub planes : (i k : ℕ) → i < length s.picture → k < 8 → bit s.card.held k ≡ true → bit (get_or t.picture i 0) k ≡ bit (get_or s.picture i 0) k

undrawn : (s t : Standing) → t.card ≡ s.card → t.picture ≡ s.picture → Holds s t
undrawn s t c p =
    record {
      chosen = ap (λ (x : Card). x.held) c;
      size = ap length p;
      planes = λ i k h l e. ap (λ (x : List ℕ). bit (get_or x i 0) k) p;
    }

holds_on : {s t u : Standing} → Holds s t → Holds t u → Holds s u
holds_on {s} {t} {u} f g =
    record {
      chosen = g.chosen ∙ f.chosen;
      size = g.size ∙ f.size;
      planes = λ i k h l e. g.planes i k (omega (arith, h, f.size)) l (ap (λ (x : ℕ). bit x k) f.chosen ∙ e) ∙ f.planes i k h l e;
    }

holds_draw : (w : Write) (s : Standing) → Holds s (draws w s)
unfolding draws apply refuse picture_after card_after
holds_draw w s =
    record {
      chosen = by_answer (λ t. t.card.held ≡ s.card.held) w (state_of s) (λ _. held_chosen (w ∷ []) s.card s.picture) (λ _. refl);
      size = draws_size w s;
      planes = λ i k h l e. by_answer (λ t. bit (get_or t.picture i 0) k ≡ bit (get_or s.picture i 0) k) w (state_of s)
          (λ _. held_through (w ∷ []) s.card s.picture i k h l e)
          (λ _. refl);
    }

holds_step : {s : Standing} {b : ℕ} {t : Standing} → Step largest s b t → Holds s t
unfolding waits opens
holds_step {s} (stays n) = undrawn s s refl refl
holds_step {s} refuses = undrawn s (sticks 10 s) refl refl
holds_step {s} (waiting l) = undrawn s (waits _ s) refl refl
holds_step {s} (drawing f o m l) = holds_draw _ s
holds_step {s} (opening l g) = undrawn s (opens _ s) refl refl

holds-reads : (bs : List ℕ) (s : Standing) → Holds s (reads bs s)
unfolding reads_up_to
holds-reads [] s = undrawn s s refl refl
holds-reads (b ∷ bs) s = holds_on (holds_step (step largest s b)) (holds-reads bs (byte s b))

-- through any list of chunks, from any reader, card and picture
pub held_planes : (rest : List (List ℕ)) (s : Standing) → Holds s (chunks rest s)
unfolding chunks_up_to
held_planes [] s = undrawn s s refl refl
held_planes (bs ∷ rest) s =
    holds_on (by_chunk (Holds s) bs s (undrawn s s refl refl) (λ n _. undrawn s (sticks n s) refl refl) (λ _ _. holds-reads bs s)) (held_planes rest (chunk bs s))

-- from a new reader and reset on
pub held_from_reset : (planes : ℕ) (rest : List (List ℕ)) (v : List ℕ) (i k : ℕ) → i < length v → k < 8 → bit planes k ≡ true
    → bit (get_or (chunks rest (fresh (reset_card planes) v)).picture i 0) k ≡ bit (get_or v i 0) k
unfolding reset_card
held_from_reset planes rest v i k h l e = (held_planes rest (fresh (reset_card planes) v)).planes i k h l e

-- ---- Demand 1: every call gets a number, at most 13.

abbrev Answered : Standing → Type 0
Answered s = s.reader.number ≤ 13

answered_step : {s : Standing} {b : ℕ} {t : Standing} → Answered s → Step largest s b t → Answered t
unfolding waits opens draws apply refuse
answered_step h (stays n) = h
answered_step h refuses = omega arith
answered_step h (waiting l) = h
answered_step {s} h (drawing f o m l) =
    by_answer (λ t. t.number ≤ 13) _ (state_of s) (λ _. omega arith) (λ _. le_trans (answered s.card _ (length s.picture)) (omega arith))
answered_step h (opening l g) = h

answered_reads : (bs : List ℕ) (s : Standing) → Answered s → Answered (reads bs s)
unfolding reads_up_to
answered_reads [] s h = h
answered_reads (b ∷ bs) s h = answered_reads bs (byte s b) (answered_step h (step largest s b))

-- from any reader that had one
pub every_number : (rest : List (List ℕ)) (s : Standing) → Answered s → Answered (chunks rest s)
unfolding chunks_up_to
every_number [] s h = h
every_number (bs ∷ rest) s h = every_number rest (chunk bs s) (by_chunk Answered bs s h (λ n l. l) (λ _ _. answered_reads bs s h))

pub end_number : (s : Standing) → Answered s → Answered (finished s)
unfolding ended_up_to
end_number s h = go (eqb s.reader.number 0) (sound s.reader && complete s.reader) refl refl
  where
    go : (x y : Bool) → eqb s.reader.number 0 ≡ x → sound s.reader && complete s.reader ≡ y → Answered (finished s)
    go false y d e = simp d h
    go true true d e = simp (d, e) h
    go true false d e = simp (d, e) (omega arith)

-- ---- The totals.

chunks-sound : (rest : List (List ℕ)) (s : Standing) → Sound largest s.reader → Sound largest (chunks rest s).reader
unfolding chunks_up_to
chunks-sound [] s h = h
chunks-sound (bs ∷ rest) s h =
    chunks-sound rest (chunk bs s)
    (by_chunk (λ t. Sound largest t.reader) bs s h (λ n _. record { space = h.space; within = h.within; few = h.few; total = h.total; changes = h.changes }) (λ _ _. reads-sound largest bs s h))

-- at most 65,536 entries and 134,217,728 pixels, and of these at most all changed, from a new reader and from any that can be
pub totals : (rest : List (List ℕ)) (s : Standing) → sound s.reader ≡ true
    → ((chunks rest s).reader.applied ≤ largest) × ((chunks rest s).reader.pixels ≤ most_pixels) × ((chunks rest s).reader.changed ≤ (chunks rest s).reader.pixels)
totals rest s e =
    let h = chunks-sound rest s (to_sound largest _ e) in
    (omega (arith, h.within, h.few), omega (arith, h.within, h.few, h.total), h.changes)

-- one that cannot be draws nothing
pub cannot_be : (bs : List ℕ) (rest : List (List ℕ)) (s : Standing) → s.reader.number ≡ 0 → sound s.reader ≡ false
    → chunks (bs ∷ rest) s ≡ sticks 10 s
unfolding chunks_up_to
cannot_be bs rest s z e = ap (chunks rest) (chunk_unsound largest bs s z e) ∙ after_number rest (sticks 10 s) (λ n. omega (arith, n))

-- ---- Demand 1: what was drawn stays.

module _ (v : List ℕ) where
  -- from s, j entries from byte a on were applied, and t shows these
  record Went (a : ℕ) (s t : State) : Type 0 where
    j : ℕ
    inside : 12 * j ≤ length v - a
    counts : t.applied ≡ s.applied + j
    shows : t.picture ≡ picture_after (writes_at v a j) s.card s.picture
    leaves : t.card ≡ card_after (writes_at v a j) s.card s.picture

  none_went : (a : ℕ) (s t : State) → t.applied ≡ s.applied → t.card ≡ s.card → t.picture ≡ s.picture → Went a s t
  unfolding writes_at picture_after card_after
  none_went a s t n c p = record { j = 0; inside = omega arith; counts = omega (arith, n); shows = p; leaves = c }

  one_more : (a : ℕ) (s t : State) → a + 12 ≤ length v → Went (a + 12) (apply s (write_at v a)) t → Went a s t
  unfolding writes_at picture_after card_after apply
  one_more a s t l h = record { j = suc h.j; inside = omega (arith, l, h.inside); counts = omega (arith, h.counts); shows = h.shows; leaves = h.leaves }

  entries_went : (k a : ℕ) (s : State) → Went a s (entries_arrive v k a s)
  unfolding entries_arrive refuse
  entries_went zero a s = go (eqb (length v) a)
    where
      go : (x : Bool) → Went a s (cond x s (breaks s))
      go true = none_went a s s refl refl refl
      go false = none_went a s (breaks s) refl refl refl
  entries_went (suc k) a s = go (entry_there v a) (eqb (answer s (write_at v a)) 0) refl (entries_went k (a + 12) (apply s (write_at v a)))
    where
      go : (x y : Bool) → entry_there v a ≡ x → Went (a + 12) (apply s (write_at v a)) (entries_arrive v k (a + 12) (apply s (write_at v a)))
          → Went a s (cond x (cond y (entries_arrive v k (a + 12) (apply s (write_at v a))) (refuse s (write_at v a))) (breaks s))
      go true true e r = one_more a s _ (there v a e).long r
      go true false e r = none_went a s (refuse s (write_at v a)) refl refl refl
      go false y e r = none_went a s (breaks s) refl refl refl

-- the end call changes no total
ended-applied : (r : Reader) → (ended r).applied ≡ r.applied
unfolding ended_up_to
ended-applied r = go (is_set r.number) (sound r && complete r)
  where
    go : (x y : Bool) → (cond x r (cond y r (stuck 10 r))).applied ≡ r.applied
    go true y = refl
    go false true = refl
    go false false = refl

-- The bytes v come to a new reader in one or more chunks. Picture and card are those of the entries applied, which stand in v from byte 16
-- on and end inside it, whatever number came and whatever is wrong with the bytes after them
module _ (v : List ℕ) (c : Card) (p : List ℕ) (bs : List ℕ) (rest : List (List ℕ)) (cut : joined (bs ∷ rest) ≡ v) where
  abbrev last : Standing
  last = chunks (bs ∷ rest) (fresh c p)

  abbrev drawn : List Write
  drawn = writes_at v header_size last.reader.applied

  went : Went v 16 (nothing 0 c p) (state_of (finished last))
  unfolding arrives
  went = go (bad_length (length p)) (good_header v) refl refl
    where
      undone : (n : ℕ) → Went v 16 (nothing 0 c p) (nothing n c p)
      undone n = none_went v 16 (nothing 0 c p) (nothing n c p) refl refl refl

      go : (x y : Bool) → bad_length (length p) ≡ x → good_header v ≡ y → Went v 16 (nothing 0 c p) (state_of (finished last))
      go true y e f = rw (arriving_bad v c p bs rest cut e) (undone 1)
      go false true e f = rw (arriving v c p bs rest cut e, f) (entries_went v (word v 0) 16 (nothing 0 c p))
      go false false e f = rw (arriving v c p bs rest cut e, f) (undone 10)

  all : went.j ≡ last.reader.applied
  all = sym (zero-add went.j) ∙ sym went.counts ∙ ended-applied last.reader

  pub drawn_inside : entry_size * last.reader.applied ≤ length v - header_size
  drawn_inside = omega (arith, went.inside, all)

  pub drawn-shows : last.picture ≡ picture_after drawn c p
  drawn-shows = went.shows ∙ ap (λ (n : ℕ). picture_after (writes_at v 16 n) c p) all

  pub drawn-leaves : last.card ≡ card_after drawn c p
  drawn-leaves = went.leaves ∙ ap (λ (n : ℕ). card_after (writes_at v 16 n) c p) all
