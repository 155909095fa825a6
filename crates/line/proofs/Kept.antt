-- What every byte keeps: the length of the picture, the room for 16 bytes, and that the reader can be. Whatever number of entries is allowed.
-- Assumes nothing.
use mathlib.Core.Path.{◌≡◌, refl, sym, ◌∙◌, subst}
use mathlib.Core.Bool.{Bool, true, false, cond}
use mathlib.Core.List.{List, [], ◌∷◌}
use Prim.Native.Nat.{ℕ, ◌*◌, ◌≤◌, ◌<◌}
use native.Mathlib.Omega.{arith}
use lib.Dec.{eqb}
use lib.ListN.{length, length-set}
use borrow.Author.Tests.{eq-eqb, ne_eqb, eqb-true, eqb-false, lt-ltb, ltb-true, le-leb, leb-true}
use Rattle.card.specs.Registers.{is_set}
use Rattle.card.specs.declared.Write.{Write}
use Rattle.demands.proofs.Changed.{within}
use Rattle.demands.proofs.Counting.{count_bound}
use Rattle.demands.proofs.Demand1.{same_length}
use Rattle.format.proofs.Tested.{few_announced}
use Rattle.rules.proofs.Tests.{both}
use Rattle.trace.specs.Run.{State, answer, apply, refuse, ran}
use Rattle.line.specs.declared.Reader.{Reader}
use Rattle.line.specs.Serial.{new_reader, Standing, state_of, awaited, complete, waits, opens, draws, byte_up_to, reads_up_to, sound_up_to}
use Rattle.line.proofs.Steps.{Step, stays, refuses, waiting, drawing, opening, step}

-- one entry of a run: applied where its number is 0, else refused
pub one_applied : (w : Write) (t : State) → answer t w ≡ 0 → ran (w ∷ []) 1 t ≡ apply t w
unfolding ran
one_applied w t e = rw (eq-eqb _ _ e)

pub one_refused : (w : Write) (t : State) → (answer t w ≡ 0 → ⊥) → ran (w ∷ []) 1 t ≡ refuse t w
unfolding ran
one_refused w t n = rw (ne_eqb _ _ n)

-- an entry drawn, whichever it was
pub by_answer : (p : State → Type 0) (w : Write) (t : State) → (answer t w ≡ 0 → p (apply t w)) → ((answer t w ≡ 0 → ⊥) → p (refuse t w)) → p (ran (w ∷ []) 1 t)
by_answer p w t f g = go (eqb (answer t w) 0) refl
  where
    go : (x : Bool) → eqb (answer t w) 0 ≡ x → p (ran (w ∷ []) 1 t)
    go true e = let z = eqb-true _ _ e in subst p (sym (one_applied w t z)) (f z)
    go false e = let z = eqb-false _ _ e in subst p (sym (one_refused w t z)) (g z)

-- ---- The length of the picture.

abbrev size : Standing → ℕ
size s = length s.picture

pub draws_size : (w : Write) (s : Standing) → size (draws w s) ≡ size s
unfolding draws apply refuse
draws_size w s = by_answer (λ t. length t.picture ≡ size s) w (state_of s) (λ _. same_length s.card w s.picture) (λ _. refl)

size_step : {most : ℕ} {s : Standing} {b : ℕ} {t : Standing} → Step most s b t → size t ≡ size s
unfolding waits opens
size_step (stays n) = refl
size_step refuses = refl
size_step (waiting h) = refl
size_step {s = s} (drawing f o m h) = draws_size _ s
size_step (opening h g) = refl

pub byte_size : (most : ℕ) (s : Standing) (b : ℕ) → size (byte_up_to most s b) ≡ size s
byte_size most s b = size_step (step most s b)

pub reads_size : (most : ℕ) (bs : List ℕ) (s : Standing) → size (reads_up_to most bs s) ≡ size s
unfolding reads_up_to
reads_size most [] s = refl
reads_size most (b ∷ bs) s = reads_size most bs (byte_up_to most s b) ∙ byte_size most s b

-- ---- The room for 16 bytes.

abbrev room : Standing → ℕ
room s = length s.reader.waiting

pub draws_room : (w : Write) (s : Standing) → room (draws w s) ≡ 16
unfolding draws
draws_room w s = refl

room_step : {most : ℕ} {s : Standing} {b : ℕ} {t : Standing} → room s ≡ 16 → Step most s b t → room t ≡ 16
unfolding waits opens
room_step h (stays n) = h
room_step h refuses = h
room_step {s = s} {b = b} h (waiting l) = length-set s.reader.waiting s.reader.filled b ∙ h
room_step {s = s} h (drawing f o m l) = draws_room _ s
room_step h (opening l g) = refl

pub byte_room : (most : ℕ) (s : Standing) (b : ℕ) → room s ≡ 16 → room (byte_up_to most s b) ≡ 16
byte_room most s b h = room_step h (step most s b)

-- ---- A reader that can be.

pub record Sound (most : ℕ) (r : Reader) : Type 0 where
  pub space : r.filled < awaited r
  pub within : r.applied ≤ r.announced
  pub few : r.announced ≤ most
  pub total : r.pixels ≤ 2048 * r.applied
  pub changes : r.changed ≤ r.pixels

pub to_sound : (most : ℕ) (r : Reader) → sound_up_to most r ≡ true → Sound most r
unfolding sound_up_to
to_sound most r e =
    let (a, x) = both _ _ e in
    let (b, y) = both _ _ x in
    let (c, z) = both _ _ y in
    let (d, f) = both _ _ z in
    record { space = ltb-true _ _ a; within = leb-true _ _ b; few = leb-true _ _ c; total = leb-true _ _ d; changes = leb-true _ _ f }

pub of_sound : (most : ℕ) (r : Reader) → Sound most r → sound_up_to most r ≡ true
unfolding sound_up_to
of_sound most r h = rw (lt-ltb _ _ h.space, le-leb _ _ h.within, le-leb _ _ h.few, le-leb _ _ h.total, le-leb _ _ h.changes)

new_sound : (most : ℕ) → Sound most new_reader
unfolding new_reader
new_sound most = record { space = omega arith; within = omega arith; few = omega arith; total = omega arith; changes = omega arith }

pub new_can_be : (most : ℕ) → sound_up_to most new_reader ≡ true
new_can_be most = of_sound most new_reader (new_sound most)

-- entries are left
pub entries-left : (r : Reader) → is_set r.opened ≡ true → complete r ≡ false → r.applied ≡ r.announced → ⊥
unfolding complete
entries-left r o e = eqb-false _ _ (sym (rw o) ∙ e)

pub draws-sound : (most : ℕ) (w : Write) (s : Standing) → is_set s.reader.opened ≡ true → complete s.reader ≡ false
    → Sound most s.reader → Sound most (draws w s).reader
unfolding draws apply refuse
draws-sound most w s o m h =
    record {
      space = awaits (is_set s.reader.opened);
      within = by_answer (λ t. t.applied ≤ s.reader.announced) w (state_of s) (λ _. omega (arith, h.within, entries-left s.reader o m)) (λ _. h.within);
      few = h.few;
      total = by_answer (λ t. t.pixels ≤ 2048 * t.applied) w (state_of s)
          (λ _. omega (arith, h.total, count_bound s.card w (length s.picture)))
          (λ _. h.total);
      changes = by_answer (λ t. t.changed ≤ t.pixels) w (state_of s) (λ _. omega (arith, h.changes, within s.card w s.picture)) (λ _. h.changes);
    }
  where
    awaits : (x : Bool) → 0 < cond x 12 16
    awaits true = omega arith
    awaits false = omega arith

sound_step : {most : ℕ} {s : Standing} {b : ℕ} {t : Standing} → Sound most s.reader → Step most s b t → Sound most t.reader
unfolding waits opens
sound_step h (stays n) = h
sound_step h refuses = record { space = h.space; within = h.within; few = h.few; total = h.total; changes = h.changes }
sound_step h (waiting l) = record { space = l; within = h.within; few = h.few; total = h.total; changes = h.changes }
sound_step {s = s} h (drawing f o m l) = draws-sound _ _ s o m h
sound_step h (opening l g) = record { space = omega arith; within = omega arith; few = few_announced _ _ g; total = omega arith; changes = omega arith }

pub byte-sound : (most : ℕ) (s : Standing) (b : ℕ) → Sound most s.reader → Sound most (byte_up_to most s b).reader
byte-sound most s b h = sound_step h (step most s b)

pub reads-sound : (most : ℕ) (bs : List ℕ) (s : Standing) → Sound most s.reader → Sound most (reads_up_to most bs s).reader
unfolding reads_up_to
reads-sound most [] s h = h
reads-sound most (b ∷ bs) s h = reads-sound most bs (byte_up_to most s b) (byte-sound most s b h)
