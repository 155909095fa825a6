-- No refusal has the number 0. Assumes nothing.
use Rattle.std.proofs.Common.{◌≡◌, refl, sym, ◌∙◌, ap, false, eqb, ℕ, Result, Ok, Err}
use Rattle.std.specs.Result.{IsErrAnd}
use mathlib.Core.Bool.{false≢true}
use Rattle.rules.specs.Numbers.{number_of}
use Rattle.rules.specs.declared.Refusal.{Refusal}
use Rattle.rules.specs.declared.Refusal.TheVariants.{Length, Space, Lanes, Register, Mode, Operation, Boundary, Outside, Unloaded, Malformed, NoRoom, Wild, NoLine}

pub numbered : (e : Refusal) → eqb (number_of e) 0 ≡ false
numbered Length = refl
numbered Space = refl
numbered Lanes = refl
numbered Register = refl
numbered Mode = refl
numbered Operation = refl
numbered Boundary = refl
numbered Outside = refl
numbered Unloaded = refl
numbered Malformed = refl
numbered NoRoom = refl
numbered Wild = refl
numbered NoLine = refl

pub some_number : (e : Refusal) → number_of e ≡ 0 → ⊥
some_number e z = false≢true (sym (numbered e) ∙ ap (λ (n : ℕ). eqb n 0) z)

-- a refusal handed on by a `?`
pub passed_up : {A : Type 0} (r : Result A Refusal) (e : Refusal) → IsErrAnd r (λ d. d ≡ e) → r ≡ Err e
passed_up (Ok a) e h = absurd h
passed_up (Err d) e h = ap Err h
