-- What drawing a plan promises: how a write is drawn, and nothing that has to be believed.
use Rattle.std.specs.Prelude.{◌≡◌, cond, List, ℕ, length}
use Rattle.span.specs.Fragments.{drawn, differing}
use Rattle.span.specs.Spans.{spanned, enabled_in}
use Rattle.span.specs.declared.Tally.{Tally}
use Rattle.card.specs.declared.Card.{Card}
use Rattle.rules.specs.Modes.{effective}
use Rattle.plan.specs.Plan.{planned, drawable}
use Rattle.plan.specs.declared.Plan.{Plan}

-- plan p on card c and picture v gave answer r and picture v': its span drawn, and its pixels counted, those enabled and those changed
pub record CarriedOut (p : Plan) (c : Card) (v : List ℕ) (r : Tally) (v' : List ℕ) : Type 0 where
  pub shows : v' ≡ drawn p.op (spanned (effective c) (planned p c)) v
  pub counts : r.enabled ≡ enabled_in (planned p c)
  pub changes : r.changed ≡ differing v v'

-- the same of any plan: one that cannot be drawn in v draws nothing
pub record Tried (p : Plan) (c : Card) (v : List ℕ) (r : Tally) (v' : List ℕ) : Type 0 where
  pub shows : v' ≡ cond (drawable p (length v)) (drawn p.op (spanned (effective c) (planned p c)) v) v
  pub counts : r.enabled ≡ cond (drawable p (length v)) (enabled_in (planned p c)) 0
  pub changes : r.changed ≡ differing v v'
