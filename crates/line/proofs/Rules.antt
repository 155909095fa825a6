-- Sentences of change request 2, one law each, but for three that stand where they are first needed: a byte past the total answers 10
-- (`Steps.byte_past`), a forbidden VRAM answers 1 before any byte is read (`Joining.chunk_bad`), and an earlier number wins
-- (`Joining.chunk-stuck`). Assumes nothing.
use mathlib.Core.Path.{◌≡◌, refl, ap, ◌∙◌}
use mathlib.Core.Bool.{Bool, true, false, cond, ◌||◌}
use mathlib.Core.List.{List, []}
use Prim.Native.Nat.{ℕ, ◌<◌}
use native.Mathlib.Omega.{arith}
use lib.Dec.{eqb}
use lib.ListN.{length, drop, drop_of_length-le}
use lib.Seq.{drop-length}
use borrow.Author.Tests.{ne_eqb}
use Rattle.card.specs.Registers.{is_set}
use Rattle.card.specs.declared.Card.{Card}
use Rattle.rules.specs.Refusal.{bad_length}
use Rattle.format.specs.Bytes.{word}
use Rattle.format.specs.Traces.{largest, write_at, good_header_up_to}
use Rattle.trace.specs.Run.{answer, refuse}
use Rattle.line.specs.declared.Reader.{Reader}
use Rattle.line.specs.Serial.{new_reader, Standing, standing, state_of, awaited, complete, bad_pad, sticks, opens, draws, byte, reads_up_to, sound, chunk_up_to, finished}
use Rattle.line.proofs.Steps.{came, byte_past, byte_pad, byte-draws}
use Rattle.line.proofs.Kept.{new_can_be, one_refused}
use Rattle.line.proofs.Joining.{chunk-reads}
use Rattle.line.proofs.Units.{partly, fills, header-opens, header_refused}
use Rattle.line.proofs.Arriving.{fresh, ended_owed, ended-whole}

-- ---- A bad header answers 10 at its sixteenth byte, and not before, whatever number of entries is allowed.

module _ (most : ℕ) (bs : List ℕ) (c : Card) (p : List ℕ) (good : bad_length (length p) ≡ false) where
  read_at_once : chunk_up_to most bs (fresh c p) ≡ reads_up_to most bs (fresh c p)
  read_at_once = chunk-reads most bs (fresh c p) (new_can_be most) good

  -- fewer than 16 bytes get 0, whatever they are
  pub not_before : length bs < 16 → (chunk_up_to most bs (fresh c p)).reader.number ≡ 0
  unfolding new_reader complete bad_pad reads_up_to
  not_before h =
      ap (λ (s : Standing). s.reader.number)
      (read_at_once
      ∙ fills most bs (fresh c p) refl refl refl refl (length bs) (omega arith) h (omega arith) (λ i l. refl)
      ∙ ap (λ (u : List ℕ). reads_up_to most u (partly (length bs) bs (fresh c p))) (drop-length bs))

  -- 16 bytes are judged
  pub at_the_sixteenth : length bs ≡ 16 → (chunk_up_to most bs (fresh c p)).reader.number ≡ cond (good_header_up_to most bs) 0 10
  unfolding new_reader complete opens reads_up_to
  at_the_sixteenth h = ap (λ (s : Standing). s.reader.number) read_at_once ∙ go (good_header_up_to most bs) refl
    where
      none_left : drop 16 bs ≡ []
      none_left = drop_of_length-le bs {i = 16} (omega (arith, h))

      go : (x : Bool) → good_header_up_to most bs ≡ x → (reads_up_to most bs (fresh c p)).reader.number ≡ cond x 0 10
      go true g =
          ap (λ (s : Standing). s.reader.number)
          (header-opens most bs (fresh c p) refl refl refl refl refl (omega (arith, h)) g ∙ ap (λ (u : List ℕ). reads_up_to most u (opens (word bs 0) (fresh c p))) none_left)
      go false g = ap (λ (s : Standing). s.reader.number) (header_refused most bs (fresh c p) refl refl refl refl refl (omega (arith, h)) g)

-- ---- One byte of an entry, where no number sticks yet. Nothing changes but the number; what is drawn stays.

module _ (s : Standing) (b : ℕ) (free : s.reader.number ≡ 0) (more : complete s.reader ≡ false) (opened : is_set s.reader.opened ≡ true) where
  -- a pad byte that is not zero answers 10 at once
  pub pad_at_once : eqb s.reader.filled 2 || eqb s.reader.filled 3 ≡ true → (b ≡ 0 → ⊥) → byte s b ≡ sticks 10 s
  unfolding bad_pad
  pad_at_once f n = byte_pad largest s b free more (simp (opened, f, ne_eqb b 0 n))

  -- the twelfth byte of an entry that is refused answers the entry's own number; card and picture stay
  pub refused_entry : s.reader.filled ≡ 11 → (answer (state_of s) (write_at (came s b) 0) ≡ 0 → ⊥)
      → state_of (byte s b) ≡ refuse (state_of s) (write_at (came s b) 0)
  unfolding bad_pad draws
  refused_entry f n =
      ap state_of (byte-draws largest s b free more (simp (opened, f)) (omega (arith, f, twelve)) opened) ∙ one_refused (write_at (came s b) 0) (state_of s) n
    where
      twelve : awaited s.reader ≡ 12
      twelve = rw opened

-- ---- The end call: 10 where bytes are owed, of the header too; else nothing changes, and a byte after it is past the total.

pub end_owed : (s : Standing) → s.reader.number ≡ 0 → complete s.reader ≡ false → finished s ≡ sticks 10 s
end_owed s free more = ap (λ (r : Reader). standing r s.card s.picture) (ended_owed largest s.reader free more)

pub end_with_nothing_owed : (s : Standing) → sound s.reader ≡ true → complete s.reader ≡ true → finished s ≡ s
end_with_nothing_owed s can_be m = ap (λ (r : Reader). standing r s.card s.picture) (ended-whole largest s.reader can_be m)

pub byte_after_the_end : (s : Standing) (b : ℕ) → s.reader.number ≡ 0 → sound s.reader ≡ true → complete s.reader ≡ true
    → byte (finished s) b ≡ sticks 10 s
byte_after_the_end s b free can_be m = ap (λ (t : Standing). byte t b) (end_with_nothing_owed s can_be m) ∙ byte_past largest s b free m

pub nothing_came : (c : Card) (p : List ℕ) → finished (fresh c p) ≡ sticks 10 (fresh c p)
unfolding new_reader complete
nothing_came c p = end_owed (fresh c p) refl refl
