-- What an accepted write has passed, and what the definitions then say; that of several numbers the lowest is returned; and what a refused write
-- leaves. Assumes nothing.
use mathlib.Core.Path.{◌≡◌, refl}
use mathlib.Core.Bool.{Bool, true, false, cond, ◌&&◌, false≢true}
use mathlib.Core.List.{List, [], ◌∷◌, map}
use mathlib.Core.Logic.{◌⊎◌, inl, inr}
use Prim.Native.Nat.{ℕ, zero, suc, ◌%◌, ◌≤◌, ◌<◌}
use native.Mathlib.Decide.{ℕ_discrete}
use native.Mathlib.Omega.{arith}
use lib.Dec.{T, eqb, leb}
use lib.ListN.{length, get_or}
use borrow.Author.Tests.{eq-eqb, ne_eqb, eqb-true, leb-true, ltb-false}
use Rattle.raster.proofs.Below.{left, right, is_true}
use Rattle.span.specs.Layers.{drawn_all, changed_all, summed}
use Rattle.span.specs.Spans.{spanned, enabled_in}
use Rattle.card.specs.Registers.{code, ◌is◌}
use Rattle.card.specs.declared.Card.{Card}
use Rattle.card.specs.declared.Write.{Write}
use Rattle.card.specs.declared.Register.TheVariants.{Continue}
use Rattle.rules.specs.Modes.{mode_of, is_line, register_of, effective}
use Rattle.rules.specs.Lines.{walks, line_length, spans_of}
use Rattle.rules.specs.Refusal.{names, bad_space, bad_raster, rows, first_holding, refusal}
use Rattle.rules.specs.Writes.{count, layers, operation, picture, changed, after_frame, after_register, next}
use Rattle.rules.proofs.Tests.{neither}

-- every row's number is k or above
abbrev from : ℕ → List (ℕ × Bool) → Bool
from k [] = true
from k (r ∷ rs) = leb k r.0 && from k rs

none-holds : (rs : List (ℕ × Bool)) → T (from 1 rs) → first_holding rs ≡ 0 → (i : ℕ) → (get_or rs i (0, false)).1 ≡ false
none-holds [] t e i = refl
none-holds ((k, true) ∷ rs) t e i = absurd (omega (arith, leb-true 1 k (is_true _ (left (leb 1 k) (from 1 rs) t))))
none-holds ((k, false) ∷ rs) t e zero = refl
none-holds ((k, false) ∷ rs) t e (suc i) = none-holds rs (right (leb 1 k) (from 1 rs) t) e i

-- an accepted write has passed each of the tests
pub accepted_passed : (c : Card) (w : Write) (n : ℕ) → refusal c w n ≡ 0 → (i : ℕ) → (get_or (rows c w n) i (0, false)).1 ≡ false
unfolding refusal
accepted_passed c w n e i = none-holds (rows c w n) tt e i

-- the numbers of the rows rise
abbrev rise : List (ℕ × Bool) → Bool
rise [] = true
rise (r ∷ rs) = from r.0 rs && rise rs

from_at : (k : ℕ) (rs : List (ℕ × Bool)) → T (from k rs) → (i : ℕ) → (get_or rs i (0, false)).1 ≡ true → k ≤ (get_or rs i (0, false)).0
from_at k [] t i e = absurd (false≢true e)
from_at k (r ∷ rs) t zero e = leb-true k r.0 (is_true _ (left (leb k r.0) (from k rs) t))
from_at k (r ∷ rs) t (suc i) e = from_at k rs (right (leb k r.0) (from k rs) t) i e

first_lowest : (rs : List (ℕ × Bool)) → T (rise rs) → (i : ℕ) → (get_or rs i (0, false)).1 ≡ true → first_holding rs ≤ (get_or rs i (0, false)).0
first_lowest [] t i e = absurd (false≢true e)
first_lowest ((k, true) ∷ rs) t zero e = omega arith
first_lowest ((k, true) ∷ rs) t (suc i) e = from_at k rs (left (from k rs) (rise rs) t) i e
first_lowest ((k, false) ∷ rs) t zero e = absurd (false≢true e)
first_lowest ((k, false) ∷ rs) t (suc i) e = first_lowest rs (right (from k rs) (rise rs) t) i e

-- k is the number of a row whose test holds
abbrev pub Holds : List (ℕ × Bool) → ℕ → Type 0
Holds [] k = ⊥
Holds (r ∷ rs) k = ((r.0 ≡ k) × (r.1 ≡ true)) ⊎ Holds rs k

first_holds : (rs : List (ℕ × Bool)) → (first_holding rs ≡ 0 → ⊥) → Holds rs (first_holding rs)
first_holds [] h = h refl
first_holds ((k, true) ∷ rs) h = inl (refl, refl)
first_holds ((k, false) ∷ rs) h = inr (first_holds rs h)

-- the lowest number that applies: that of a test that holds, and no test that holds has a lower one; 0 exactly where none holds
pub record Lowest (rs : List (ℕ × Bool)) (k : ℕ) : Type 0 where
  pub none : k ≡ 0 → (i : ℕ) → (get_or rs i (0, false)).1 ≡ false
  pub one : (k ≡ 0 → ⊥) → Holds rs k
  pub least : (i : ℕ) → (get_or rs i (0, false)).1 ≡ true → k ≤ (get_or rs i (0, false)).0

-- where several numbers apply, the lowest is returned
pub lowest : (c : Card) (w : Write) (n : ℕ) → Lowest (rows c w n) (refusal c w n)
unfolding refusal
lowest c w n =
    record {
      none = accepted_passed c w n;
      one = first_holds (rows c w n);
      least = first_lowest (rows c w n) tt;
    }

-- the raster operation is one of the sixteen
pub accepted_raster : (c : Card) (w : Write) (n : ℕ) → refusal c w n ≡ 0 → c.registers.raster < 16
unfolding bad_raster
accepted_raster c w n e =
    let l : c.registers.raster ≤ 15 = ltb-false 15 c.registers.raster (neither _ _ (neither _ _ (accepted_passed c w n e 5)).0).0 in
    omega arith

-- and the space is frame or register
pub accepted-space : (c : Card) (w : Write) (n : ℕ) → refusal c w n ≡ 0 → w.space ≤ 1
unfolding bad_space
accepted-space c w n e = ltb-false 1 w.space (neither _ _ (accepted_passed c w n e 1)).0

-- a line has a visit
pub some_length : (b : ℕ) → 0 < line_length b
some_length b = go (ℕ_discrete (b % 16) 0)
  where
    go : Dec (b % 16 ≡ 0) → 0 < line_length b
    go (yes e) = rw (eq-eqb _ _ e) (omega arith)
    go (no e) = rw (ne_eqb _ _ e) (omega arith)

-- what walks is a continue, or a frame write in a line mode
module _ (c : Card) (w : Write) (goes : walks c w ≡ true) where
  pub walks_continue : w.space ≡ 1 → code (register_of w) ≡ code Continue
  unfolding walks
  walks_continue h = eqb-true (code (register_of w)) (code Continue) (rw (eq-eqb w.space 1 h) at goes)

  pub walks_line : (w.space ≡ 1 → ⊥) → is_line (mode_of c.registers.mode) ≡ true
  unfolding walks
  walks_line h = rw (ne_eqb w.space 1 h) at goes

-- what does not walk is no continue
pub no_continue : (c : Card) (w : Write) → walks c w ≡ false → names w Continue ≡ false
unfolding walks
no_continue c w still = go (eqb w.space 1) still
  where
    go : (b : Bool) → cond b (register_of w is Continue) (is_line (mode_of c.registers.mode)) ≡ false → b && register_of w is Continue ≡ false
    go true e = e
    go false e = refl

module _ (c : Card) (w : Write) where
  module _ (v : List ℕ) (e : refusal c w (length v) ≡ 0) where
    pub picture-accepted : picture c w v ≡ drawn_all (operation c w) (map (spanned (effective c)) (spans_of c w)) v
    unfolding picture layers
    picture-accepted = rw (eq-eqb _ _ e)

    pub changed-accepted : changed c w v ≡ changed_all (operation c w) (map (spanned (effective c)) (spans_of c w)) v
    unfolding changed layers
    changed-accepted = rw (eq-eqb _ _ e)

    pub count-accepted : count c w (length v) ≡ summed enabled_in (spans_of c w)
    unfolding count
    count-accepted = simp (eq-eqb _ _ e)

    pub next_register : w.space ≡ 1 → next c w v ≡ after_register c w v
    unfolding next
    next_register s = simp (eq-eqb _ _ e, eq-eqb _ _ s)

    pub next_frame : (w.space ≡ 1 → ⊥) → next c w v ≡ after_frame c w v
    unfolding next
    next_frame s = simp (eq-eqb _ _ e, ne_eqb _ _ s)

  module _ (v : List ℕ) (e : refusal c w (length v) ≡ 0 → ⊥) where
    pub picture_refused : picture c w v ≡ v
    unfolding picture layers drawn_all
    picture_refused = rw (ne_eqb _ _ e)

    pub changed_refused : changed c w v ≡ 0
    unfolding changed layers changed_all
    changed_refused = rw (ne_eqb _ _ e)

    pub count_refused : count c w (length v) ≡ 0
    unfolding count
    count_refused = simp (ne_eqb _ _ e)

    pub next_refused : next c w v ≡ c
    unfolding next
    next_refused = simp (ne_eqb _ _ e)
