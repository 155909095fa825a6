-- A plan that can be drawn: what that says of it, and that it is carried out. Assumes nothing.
use mathlib.Core.Path.{◌≡◌, refl, sym, ◌∙◌, subst}
use mathlib.Core.Bool.{Bool, true, false, not, ◌&&◌, ◌||◌, false≢true}
use mathlib.Core.List.{List}
use Prim.Native.Nat.{ℕ, ◌+◌, ◌≤◌}
use lib.Dec.{eqb, ltb}
use lib.ListN.{length}
use borrow.Author.Tests.{eqb-true, ltb-false}
use Rattle.span.specs.declared.Tally.{Tally}
use Rattle.card.specs.declared.Card.{Card}
use Rattle.plan.specs.Plan.{is_whole, drawable}
use Rattle.plan.specs.declared.Plan.{Plan}
use Rattle.drawing.specs.Contract.{CarriedOut, Tried}

-- its span lies inside, and the whole copy buffer is 64 pixels
pub fits : (p : Plan) (n : ℕ) → drawable p n ≡ true → (p.first + p.width ≤ n) × (is_whole p.paint ≡ true → p.width ≡ 64)
unfolding drawable
fits p n e = go (ltb n (p.first + p.width)) (is_whole p.paint) (eqb p.width 64) refl refl refl e
  where
    go : (a b d : Bool) → ltb n (p.first + p.width) ≡ a → is_whole p.paint ≡ b → eqb p.width 64 ≡ d → not a && (not b || d) ≡ true
        → (p.first + p.width ≤ n) × (is_whole p.paint ≡ true → p.width ≡ 64)
    go true b d ea eb ed e = absurd (false≢true e)
    go false true true ea eb ed e = (ltb-false _ _ ea, λ w. eqb-true _ _ ed)
    go false true false ea eb ed e = absurd (false≢true e)
    go false false d ea eb ed e = (ltb-false _ _ ea, λ w. absurd (false≢true (sym eb ∙ w)))

pub carried : {p q : Plan} (c : Card) (v : List ℕ) {r : Tally} {v' : List ℕ} → p ≡ q → drawable q (length v) ≡ true
    → Tried p c v r v' → CarriedOut q c v r v'
carried {p} {q} c v {r} {v'} e can t =
    let u : Tried q c v r v' = subst (λ (x : Plan). Tried x c v r v') e t in
    record { shows = rw can at u.shows; counts = rw can at u.counts; changes = u.changes }
