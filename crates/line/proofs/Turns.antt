-- One turn of the loop over a chunk: what is left of the bytes, read from where the reading stands, gives what the whole chunk gives.
-- Assumes nothing.
use mathlib.Core.Path.{◌≡◌, refl, ap, sym, ◌∙◌}
use mathlib.Core.Bool.{true, false}
use mathlib.Core.List.{List, ◌∷◌}
use Prim.Native.Nat.{ℕ, ◌+◌, ◌≤◌, ◌<◌}
use native.Mathlib.Nat.{add-zero}
use native.Mathlib.Omega.{arith}
use lib.Dec.{eqb}
use lib.ListN.{length, get_or, drop, length-drop, drop_of_length-le}
use lib.Seq.{drop-drop, get_or-drop}
use borrow.Author.Tests.{eqb-true, leb-true, not-true}
use Rattle.card.specs.Registers.{is_set}
use Rattle.card.specs.declared.Write.{Write}
use Rattle.format.specs.Traces.{largest, write_at}
use Rattle.rules.proofs.Tests.{both}
use Rattle.format.proofs.Decoding.{write_at-drop}
use Rattle.line.specs.declared.Reader.{Reader}
use Rattle.line.specs.Serial.{Standing, complete, draws, byte, reads, reads_up_to, sound}
use Rattle.line.specs.Arrival.{entry_there}
use Rattle.line.specs.Ahead.{whole_at}
use Rattle.line.proofs.Steps.{reads-stuck}
use Rattle.line.proofs.Kept.{to_sound, of_sound, byte_size, byte-sound, draws_size, draws-sound}
use Rattle.line.proofs.Units.{entry-drawn}

-- what the tests of a whole entry say, where they hold
pub record There (v : List ℕ) (a : ℕ) : Type 0 where
  pub long : a + 12 ≤ length v
  pub first : get_or v (a + 2) 0 ≡ 0
  pub second : get_or v (a + 3) 0 ≡ 0

pub there : (v : List ℕ) (a : ℕ) → entry_there v a ≡ true → There v a
unfolding entry_there
there v a e =
    let (l, x) = both _ _ e in
    let (p, q) = both _ _ x in
    record { long = leb-true _ _ l; first = eqb-true _ _ p; second = eqb-true _ _ q }

pub record Whole (r : Reader) (v : List ℕ) (a : ℕ) : Type 0 where
  pub opened : is_set r.opened ≡ true
  pub none : r.filled ≡ 0
  pub more : complete r ≡ false
  pub stands : There v a

pub whole : (r : Reader) (v : List ℕ) (a : ℕ) → whole_at r v a ≡ true → Whole r v a
unfolding whole_at complete
whole r v a e =
    let (o, x) = both _ _ e in
    let (f, y) = both _ _ x in
    let (m, z) = both _ _ y in
    record { opened = o; none = eqb-true _ _ f; more = simp (o, not-true (eqb r.applied r.announced) m); stands = there v a z }

-- such an entry is drawn at once
pub whole_read : (v : List ℕ) (a : ℕ) (s : Standing) → s.reader.number ≡ 0 → length s.reader.waiting ≡ 16 → Whole s.reader v a
    → reads (drop a v) s ≡ reads (drop (a + 12) v) (draws (write_at v a) s)
whole_read v a s z room w =
    entry-drawn largest (drop a v) s z w.more w.none room w.opened (omega (arith, length-drop a v, w.stands.long)) (pad 2 w.stands.first) (pad 3 w.stands.second)
    ∙ ap (λ (u : List ℕ). reads u (draws (write_at (drop a v) 0) s)) (drop-drop 12 a v)
    ∙ ap (λ (x : Write). reads (drop (a + 12) v) (draws x s)) (write_at-drop a v 0 ∙ ap (write_at v) (add-zero a))
  where
    pad : (i : ℕ) → get_or v (a + i) 0 ≡ 0 → get_or (drop a v) i 0 ≡ 0
    pad i p = get_or-drop a v i 0 ∙ p

-- where the loop stands before the bytes v that are left: it began at s₀ before v₀, and is at s
pub record Going (v₀ : List ℕ) (s₀ : Standing) (v : List ℕ) (s : Standing) : Type 0 where
  pub can_be : sound s.reader ≡ true
  pub size : length s.picture ≡ length s₀.picture
  pub left : reads v s ≡ reads v₀ s₀

pub begins : (v : List ℕ) (s : Standing) → sound s.reader ≡ true → Going v s v s
begins v s e = record { can_be = e; size = refl; left = refl }

module _ {v₀ : List ℕ} {s₀ : Standing} {v : List ℕ} {s : Standing} (g : Going v₀ s₀ v s) where
  -- the loop ends at the end of the chunk, or where a number sticks
  pub at_end : length v < 1 → s ≡ reads v₀ s₀
  unfolding reads_up_to
  at_end h = ap (λ (u : List ℕ). reads u s) (sym (drop_of_length-le v {i = 0} (omega arith))) ∙ g.left

  pub at_number : (s.reader.number ≡ 0 → ⊥) → s ≡ reads v₀ s₀
  at_number n = sym (reads-stuck largest v s n) ∙ g.left

  -- one byte
  pub turn_byte : {b : ℕ} {after : List ℕ} → v ≡ b ∷ after → {t : Standing} → t ≡ byte s b → Going v₀ s₀ after t
  unfolding reads_up_to
  turn_byte {b} {after} f {t} e =
      record {
        can_be = ap (λ (x : Standing). sound x.reader) e ∙ of_sound largest _ (byte-sound largest s b (to_sound largest _ g.can_be));
        size = ap (λ (x : Standing). length x.picture) e ∙ byte_size largest s b ∙ g.size;
        left = ap (reads after) e ∙ ap (λ (u : List ℕ). reads u s) (sym f) ∙ g.left;
      }

  -- one whole entry
  pub turn_entry : s.reader.number ≡ 0 → length s.reader.waiting ≡ 16 → Whole s.reader v 0 → {t : Standing} → t ≡ draws (write_at v 0) s → Going v₀ s₀ (drop 12 v) t
  turn_entry z room w {t} e =
      record {
        can_be = ap (λ (x : Standing). sound x.reader) e ∙ of_sound largest _ (draws-sound largest (write_at v 0) s w.opened w.more (to_sound largest _ g.can_be));
        size = ap (λ (x : Standing). length x.picture) e ∙ draws_size (write_at v 0) s ∙ g.size;
        left = ap (reads (drop 12 v)) e ∙ sym (whole_read v 0 s z room w) ∙ g.left;
      }
