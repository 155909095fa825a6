-- Read-back: the part where it is given, and the empty part where it is not. Assumes nothing.
use mathlib.Core.Path.{◌≡◌, refl, ap, ◌∙◌}
use mathlib.Core.Bool.{Bool, true, false, cond}
use mathlib.Core.List.{List, []}
use Prim.Native.Nat.{ℕ, ◌+◌, ◌-◌, ◌≤◌}
use native.Mathlib.Omega.{arith}
use lib.Dec.{ltb}
use lib.ListN.{length, take, drop}
use borrow.Author.Tests.{eq-eqb, ne_eqb, ltb-false}
use Rattle.rules.specs.Refusal.{bad_length}
use Rattle.readback.specs.ReadBack.{back_number, back_part}

pub back_refused : (v : List ℕ) (a n : ℕ) → (back_number (length v) a n ≡ 0 → ⊥) → [] ≡ back_part v a n
unfolding back_part
back_refused v a n h = simp (ne_eqb _ _ h)

pub back_given : (v : List ℕ) (a n : ℕ) → back_number (length v) a n ≡ 0 → take ((a + n) - a) (drop a v) ≡ back_part v a n
unfolding back_part
back_given v a n h =
    let e : (a + n) - a ≡ n = omega arith in
    ap (λ (k : ℕ). take k (drop a v)) e ∙ simp (eq-eqb _ _ h)

pub back_inside : (size a n : ℕ) → back_number size a n ≡ 0 → a + n ≤ size
unfolding back_number
back_inside size a n h = go (bad_length size) (ltb size (a + n)) refl h
  where
    go : (b l : Bool) → ltb size (a + n) ≡ l → ◌≡◌ {A = ℕ} (cond b 1 (cond l 8 0)) 0 → a + n ≤ size
    go true l e k = absurd (omega arith)
    go false true e k = absurd (omega arith)
    go false false e k = ltb-false size (a + n) e
