-- For a walk by hand: both arms of a branch come to one context, from which the rest goes on. That of `zevkholtai_write` needed it; today the check joins
-- the arms itself.
-- Assumes `Logic`.
use mathlib.Core.Bool.{Bool, not}
use mathlib.Core.List.{List}
use seplogic.Ra.Ura.{Ura}
use lib.Dec.{T as Holds}
use mir.Syntax.{Opd as Operand, Body as Code, cond}
use mir.Val.{vbool}
use prog.Wp.{Env, Calls, Loops}
use types.Logic.{Logic}
use types.Kit.{Goal, Step, step, Post as Posts, runs, Item, ◌$◌}
use types.Run.{Opd, branches}

module _ {M : Type 1} {𝓤 : Ura M} {𝓛 : Logic 𝓤} {K : Type 0} {Γ Γ' : List (Item 𝓤)} {G : Goal 𝓤 𝓛.H} {C : Calls 𝓤 𝓛.H} {Λ : Loops 𝓤 𝓛.H} {E : Env 𝓤 𝓛.H} {q : Posts 𝓤 𝓛.H} where
  pub joins : K → {x : Operand} {a b : Code} {y : Bool} → Opd K 𝓛 Γ E x (vbool y) → (Holds y → Step K 𝓛 Γ' G Γ (runs C Λ E a q)) → (Holds (not y) → Step K 𝓛 Γ' G Γ (runs C Λ E b q))
      → Step K 𝓛 Γ' G Γ (runs C Λ E (cond x a b) q)
  joins t o f g = step (λ s. branches t o (λ h. f h $ s) (λ h. g h $ s))
