-- From a new reader, however the bytes are cut into chunks, the number, the entries applied, the total pixels, those changed, the card and the picture
-- after the end call are those of `Arrival.arrives`; 1 where VRAM has a forbidden length. Assumes nothing.
use mathlib.Core.Path.{◌≡◌, refl, ap, sym, ◌∙◌}
use mathlib.Core.Bool.{Bool, true, false, cond}
use mathlib.Core.List.{List, [], ◌∷◌}
use Prim.Native.Nat.{ℕ, zero, suc, ◌+◌, ◌≤◌, ◌<◌}
use native.Mathlib.Nat.{add-zero, zero-add}
use native.Mathlib.Omega.{arith}
use lib.Dec.{eqb, leb}
use lib.ListN.{length, get_or, drop, length-drop, drop_of_length-le}
use lib.Seq.{drop-cons, get_or-drop}
use borrow.Author.Tests.{eq-eqb, ne_eqb, eqb-true, eqb-false, leb-true, leb-false}
use Rattle.card.specs.Registers.{is_set}
use Rattle.card.specs.declared.Card.{Card}
use Rattle.card.specs.declared.Write.{Write}
use Rattle.rules.specs.Refusal.{bad_length}
use Rattle.format.specs.Bytes.{word}
use Rattle.format.specs.Traces.{largest, write_at, good_header}
use Rattle.format.proofs.Tested.{headed}
use Rattle.format.proofs.HeaderTests.{and_false}
use Rattle.trace.specs.Run.{State, nothing, answer, apply, refuse}
use Rattle.line.specs.declared.Reader.{Reader}
use Rattle.line.specs.Serial.{new_reader, Standing, standing, state_of, awaited, complete, stuck, sticks, waits, opens, draws, reads, reads_up_to, sound_up_to, chunk, chunks, joined, ended_up_to, finished, finished_up_to}
use Rattle.line.specs.Arrival.{breaks, entry_there, entries_arrive, arrives}
use Rattle.line.proofs.Steps.{came, Step, stays, refuses, waiting, drawing, opening, step, byte_past, reads-stuck}
use Rattle.line.proofs.Kept.{new_can_be, Sound, of_sound, one_applied, one_refused, draws-sound, draws_room}
use Rattle.line.proofs.Joining.{chunk_bad, chunk-reads, any_chunks}
use Rattle.line.proofs.Units.{partly, first_pad, second_pad, header-opens, header_refused}
use Rattle.line.proofs.Turns.{there, Whole, whole_read}

-- ---- The end call, whatever number of entries is allowed.

module _ (most : ℕ) (r : Reader) where
  pub ended_stuck : (r.number ≡ 0 → ⊥) → ended_up_to most r ≡ r
  unfolding ended_up_to
  ended_stuck n = simp (ne_eqb _ _ n)

  -- 10 where bytes are owed
  pub ended_owed : r.number ≡ 0 → complete r ≡ false → ended_up_to most r ≡ stuck 10 r
  unfolding ended_up_to
  ended_owed z m = simp (eq-eqb _ _ z, m, and_false)

  -- nothing changes where none is
  pub ended-whole : sound_up_to most r ≡ true → complete r ≡ true → ended_up_to most r ≡ r
  unfolding ended_up_to
  ended-whole u m = go (eqb r.number 0) refl
    where
      go : (x : Bool) → eqb r.number 0 ≡ x → ended_up_to most r ≡ r
      go true e = simp (e, u, m)
      go false e = simp e

-- once a number sticks, neither bytes nor the end call change anything
stopped : (most : ℕ) (bs : List ℕ) (t : Standing) → (t.reader.number ≡ 0 → ⊥) → state_of (finished_up_to most (reads_up_to most bs t)) ≡ state_of t
stopped most bs t n =
    ap (λ (x : Standing). state_of (finished_up_to most x)) (reads-stuck most bs t n)
    ∙ ap (λ (r : Reader). state_of (standing r t.card t.picture)) (ended_stuck most t.reader n)

pub broken : (most : ℕ) (bs : List ℕ) (t : Standing) → state_of (finished_up_to most (reads_up_to most bs (sticks 10 t))) ≡ breaks (state_of t)
broken most bs t = stopped most bs (sticks 10 t) (λ z. omega (arith, z))

-- ---- Bytes that break off: fewer than are awaited.

cut_off : (bs : List ℕ) (s : Standing) → s.reader.number ≡ 0 → complete s.reader ≡ false → s.reader.filled + length bs < awaited s.reader
    → state_of (finished (reads bs s)) ≡ breaks (state_of s)
unfolding reads_up_to complete waits
cut_off [] s z m h = ap (λ (r : Reader). state_of (standing r s.card s.picture)) (ended_owed largest s.reader z m)
cut_off (b ∷ bs) s z m h = go (cut_off bs (waits (came s b) s) z m (omega (arith, h))) (step largest s b)
  where
    go : {t : Standing} → state_of (finished (reads bs (waits (came s b) s))) ≡ breaks (state_of s) → Step largest s b t
        → state_of (finished (reads bs t)) ≡ breaks (state_of s)
    go r (stays n) = absurd (n z)
    go r refuses = broken largest bs s
    go r (waiting l) = r
    go r (drawing f o d l) = absurd (omega (arith, h, l))
    go r (opening l g) = absurd (omega (arith, h, l))

-- ---- Entries.

-- the reader stands between two entries
record Between (s : Standing) : Type 0 where
  free : s.reader.number ≡ 0
  opened : is_set s.reader.opened ≡ true
  none : s.reader.filled ≡ 0
  room : length s.reader.waiting ≡ 16
  can_be : Sound largest s.reader

-- after an entry that was applied
between_next : (w : Write) (s : Standing) → Between s → complete s.reader ≡ false → answer (state_of s) w ≡ 0 → Between (draws w s)
unfolding draws apply
between_next w s h m e =
    record {
      free = ap (λ (t : State). t.number) (one_applied w (state_of s) e);
      opened = h.opened;
      none = refl;
      room = draws_room w s;
      can_be = draws-sound largest w s h.opened m h.can_be;
    }

-- the state after an entry
drawn-applied : (w : Write) (s : Standing) → answer (state_of s) w ≡ 0 → state_of (draws w s) ≡ apply (state_of s) w
unfolding draws
drawn-applied w s e = one_applied w (state_of s) e

drawn_refused : (w : Write) (s : Standing) → (answer (state_of s) w ≡ 0 → ⊥) → state_of (draws w s) ≡ refuse (state_of s) w
unfolding draws
drawn_refused w s n = one_refused w (state_of s) n

module _ (v : List ℕ) where
  -- none is owed: the bytes end here, or one is past the total
  none_owed : (a : ℕ) (s : Standing) → Between s → s.reader.applied ≡ s.reader.announced → a ≤ length v
      → state_of (finished (reads (drop a v) s)) ≡ entries_arrive v 0 a (state_of s)
  unfolding entries_arrive reads_up_to complete
  none_owed a s h e l = go (eqb (length v) a) refl
    where
      all : complete s.reader ≡ true
      all = simp (h.opened, eq-eqb _ _ e)

      go : (x : Bool) → eqb (length v) a ≡ x → state_of (finished (reads (drop a v) s)) ≡ cond x (state_of s) (breaks (state_of s))
      go true f =
          ap (λ (u : List ℕ). state_of (finished (reads u s))) (drop_of_length-le v {i = a} (omega (arith, eqb-true (length v) a f)))
          ∙ ap (λ (r : Reader). state_of (standing r s.card s.picture)) (ended-whole largest s.reader (of_sound largest _ h.can_be) all)
      go false f =
          ap (λ (u : List ℕ). state_of (finished (reads u s))) (drop-cons v a 0 (omega (arith, l, eqb-false (length v) a f)))
          ∙ ap (λ (t : Standing). state_of (finished (reads (drop (suc a) v) t))) (byte_past largest s (get_or v a 0) h.free all)
          ∙ broken largest (drop (suc a) v) s

  -- the entry is not there: it is cut off, or a pad byte is not zero
  no_entry : (a : ℕ) (s : Standing) → Between s → complete s.reader ≡ false → a ≤ length v → entry_there v a ≡ false
      → state_of (finished (reads (drop a v) s)) ≡ breaks (state_of s)
  unfolding entry_there reads_up_to
  no_entry a s h m l e =
      go (leb (a + 12) (length v)) (eqb (get_or v (a + 2) 0) 0) (eqb (get_or v (a + 3) 0) 0) refl refl refl
    where
      twelve : awaited s.reader ≡ 12
      twelve = rw h.opened

      go : (x y z : Bool) → leb (a + 12) (length v) ≡ x → eqb (get_or v (a + 2) 0) 0 ≡ y → eqb (get_or v (a + 3) 0) 0 ≡ z
          → state_of (finished (reads (drop a v) s)) ≡ breaks (state_of s)
      go false y z f g i = cut_off (drop a v) s h.free m (omega (arith, h.none, length-drop a v, leb-false (a + 12) (length v) f, twelve))
      go true false z f g i =
          ap (λ (t : Standing). state_of (finished t))
          (first_pad largest (drop a v) s h.free m h.none h.room h.opened (omega (arith, length-drop a v, leb-true (a + 12) (length v) f))
          (λ p. eqb-false _ _ g (sym (get_or-drop a v 2 0) ∙ p)))
          ∙ broken largest [] (partly 2 (drop a v) s)
      go true true false f g i =
          ap (λ (t : Standing). state_of (finished t))
          (second_pad largest (drop a v) s h.free m h.none h.room h.opened (omega (arith, length-drop a v, leb-true (a + 12) (length v) f))
          (get_or-drop a v 2 0 ∙ eqb-true _ _ g)
          (λ p. eqb-false _ _ i (sym (get_or-drop a v 3 0) ∙ p)))
          ∙ broken largest [] (partly 3 (drop a v) s)
      go true true true f g i = cc (e, f, g, i)

  arrive_by_entries : (k a : ℕ) (s : Standing) → Between s → s.reader.applied + k ≡ s.reader.announced → a ≤ length v
      → state_of (finished (reads (drop a v) s)) ≡ entries_arrive v k a (state_of s)
  unfolding entries_arrive complete entry_there draws apply refuse
  arrive_by_entries zero a s h e l = none_owed a s h (sym (add-zero s.reader.applied) ∙ e) l
  arrive_by_entries (suc k) a s h e l = go (entry_there v a) (eqb (answer (state_of s) w) 0) refl refl (λ b n f. arrive_by_entries k (a + 12) (draws w s) b n f)
    where
      w : Write
      w = write_at v a

      more : complete s.reader ≡ false
      more = simp (h.opened, ne_eqb s.reader.applied s.reader.announced (λ z. omega (arith, e, z)))

      stands : entry_there v a ≡ true → Whole s.reader v a
      stands f = record { opened = h.opened; none = h.none; more = more; stands = there v a f }

      go : (x y : Bool) → entry_there v a ≡ x → eqb (answer (state_of s) w) 0 ≡ y
          → (Between (draws w s) → (draws w s).reader.applied + k ≡ (draws w s).reader.announced → a + 12 ≤ length v
          → state_of (finished (reads (drop (a + 12) v) (draws w s))) ≡ entries_arrive v k (a + 12) (state_of (draws w s)))
          → state_of (finished (reads (drop a v) s))
          ≡ cond x (cond y (entries_arrive v k (a + 12) (apply (state_of s) w)) (refuse (state_of s) w)) (breaks (state_of s))
      go false y f g r = no_entry a s h more l f
      go true true f g r =
          let z = eqb-true _ _ g in
          let counts = ap (λ (t : State). t.applied) (drawn-applied w s z) in
          ap (λ (t : Standing). state_of (finished t)) (whole_read v a s h.free h.room (stands f))
          ∙ r (between_next w s h more z) (omega (arith, counts, e)) (stands f).stands.long
          ∙ ap (entries_arrive v k (a + 12)) (drawn-applied w s z)
      go true false f g r =
          let n = eqb-false _ _ g in
          ap (λ (t : Standing). state_of (finished t)) (whole_read v a s h.free h.room (stands f))
          ∙ stopped largest (drop (a + 12) v) (draws w s) (λ z. n (sym (ap (λ (t : State). t.number) (drawn_refused w s n)) ∙ z))
          ∙ drawn_refused w s n

-- ---- All bytes.

-- a new reader, with this card and picture
abbrev pub fresh : Card → List ℕ → Standing
fresh c p = standing new_reader c p

module _ (v : List ℕ) (c : Card) (p : List ℕ) where
  all_read : state_of (finished (reads v (fresh c p))) ≡ arrives v c p
  unfolding arrives new_reader opens complete reads_up_to
  all_read = go (good_header v) (leb 16 (length v)) refl refl
    where
      go : (x y : Bool) → good_header v ≡ x → leb 16 (length v) ≡ y
          → state_of (finished (reads v (fresh c p))) ≡ cond x (entries_arrive v (word v 0) 16 (nothing 0 c p)) (nothing 10 c p)
      go true y g f =
          let h = headed v g in
          ap (λ (t : Standing). state_of (finished t)) (header-opens largest v (fresh c p) refl refl refl refl refl h.header g)
          ∙ arrive_by_entries v (word v 0) 16 (opens (word v 0) (fresh c p))
          (record {
            free = refl;
            opened = refl;
            none = refl;
            room = refl;
            can_be = record { space = omega arith; within = omega arith; few = h.few; total = omega arith; changes = omega arith };
          })
          (zero-add (word v 0))
          h.header
      go false true g f =
          ap (λ (t : Standing). state_of (finished t)) (header_refused largest v (fresh c p) refl refl refl refl refl (leb-true _ _ f) g)
          ∙ broken largest [] (partly 15 v (fresh c p))
      go false false g f = cut_off v (fresh c p) refl refl (omega (arith, leb-false 16 (length v) f))

  -- however cut: at least one chunk, of any length
  module _ (bs : List ℕ) (rest : List (List ℕ)) (e : joined (bs ∷ rest) ≡ v) where
    abbrev last : Standing
    last = chunks (bs ∷ rest) (fresh c p)

    as_one : last ≡ chunk v (fresh c p)
    as_one = any_chunks largest bs rest (fresh c p) ∙ ap (λ (u : List ℕ). chunk u (fresh c p)) e

    -- the theorem
    pub arriving : bad_length (length p) ≡ false → state_of (finished last) ≡ arrives v c p
    unfolding new_reader
    arriving g =
        ap (λ (t : Standing). state_of (finished t)) (as_one ∙ chunk-reads largest v (fresh c p) (new_can_be largest) g) ∙ all_read

    -- 1 where VRAM has a forbidden length
    pub arriving_bad : bad_length (length p) ≡ true → state_of (finished last) ≡ nothing 1 c p
    unfolding new_reader reads_up_to
    arriving_bad g =
        ap (λ (t : Standing). state_of (finished t)) (as_one ∙ chunk_bad largest v (fresh c p) refl (new_can_be largest) g)
        ∙ stopped largest [] (sticks 1 (fresh c p)) (λ z. omega (arith, z))
