-- The unread part: empty past the end; of a part that can be run it can be run, and has the writes that are left. Assumes nothing.
use mathlib.Core.Path.{◌≡◌, ap, sym, ◌∙◌}
use mathlib.Core.Bool.{true}
use mathlib.Core.List.{List, []}
use Prim.Native.Nat.{ℕ, zero, suc, ◌+◌, ◌-◌, ◌*◌, ◌<◌, ◌≤◌}
use native.Mathlib.Nat.{add-zero, zero-add, suc-add}
use native.Mathlib.Omega.{arith}
use lib.Dec.{eqb}
use lib.ListN.{length, get_or, drop, length-drop, drop_of_length-le}
use Rattle.format.specs.Traces.{entry_count, writes_at, padded_at, writes, well_formed}
use Rattle.format.proofs.Padding.{by_padding}
use Rattle.rules.proofs.Tests.{both}
use Rattle.format.proofs.Tested.{Formed}
use Rattle.format.proofs.Decoding.{writes_at-drop, padded_at-drop}
use Rattle.trace.specs.Run.{unread}

-- past the end
pub past : (v : List ℕ) (applied : ℕ) → length v < 12 * applied → [] ≡ unread v applied
unfolding unread
past v applied h = rw (drop_of_length-le v {i = 12 * applied} (omega arith))

-- the entries after k of k + m
drop-writes_at : (v : List ℕ) (k m a : ℕ) → drop k (writes_at v a (k + m)) ≡ writes_at v (a + 12 * k) m
unfolding writes_at
drop-writes_at v zero m a = cc (zero-add m, add-zero a)
drop-writes_at v (suc k) m a =
    let e : a + 12 + 12 * k ≡ a + 12 * suc k = omega arith in
    ap (λ (n : ℕ). drop (suc k) (writes_at v a n)) (suc-add k m) ∙ drop-writes_at v k m (a + 12) ∙ ap (λ (n : ℕ). writes_at v n m) e

drop-padded_at : (v : List ℕ) (k m a : ℕ) → padded_at v a (k + m) ≡ true → padded_at v (a + 12 * k) m ≡ true
unfolding padded_at
drop-padded_at v zero m a t = cc (zero-add m, add-zero a)
drop-padded_at v (suc k) m a t =
    let e : a + 12 + 12 * k ≡ a + 12 * suc k = omega arith in
    let (_, r) = both (eqb (get_or v (a + 2) 0) 0) _ (ap (padded_at v a) (sym (suc-add k m)) ∙ t) in
    let (_, rest) = both (eqb (get_or v (a + 3) 0) 0) _ r in
    ap (λ (n : ℕ). padded_at v n m) (sym e) ∙ drop-padded_at v k m (a + 12) rest

-- what a run has left unread can be run
module _ (part : List ℕ) (f : Formed part) (k : ℕ) (within : k ≤ entry_count part) where
  abbrev m : ℕ
  m = entry_count part - k

  e : k + m ≡ entry_count part
  e = omega arith

  left-count : entry_count (unread part k) ≡ m
  unfolding unread
  left-count = omega (arith, length-drop (12 * k) part, f.whole)

  pub left_formed : well_formed (unread part k) ≡ true
  unfolding unread
  left_formed =
      sym (by_padding (unread part k) (omega (arith, length-drop (12 * k) part, f.whole)) (omega (arith, left-count, f.few)))
      ∙ ap (padded_at (unread part k) 0) left-count
      ∙ padded_at-drop (12 * k) part 0 m
      ∙ ap (λ (n : ℕ). padded_at part n m) (omega arith)
      ∙ drop-padded_at part k m 0 (ap (padded_at part 0) e ∙ f.padded)

  pub left-writes : writes (unread part k) ≡ drop k (writes part)
  unfolding writes unread
  left-writes =
      ap (writes_at (unread part k) 0) left-count
      ∙ writes_at-drop (12 * k) part 0 m
      ∙ ap (λ (n : ℕ). writes_at part n m) (omega arith)
      ∙ sym (drop-writes_at part k m 0)
      ∙ ap (λ (n : ℕ). drop k (writes_at part 0 n)) e
