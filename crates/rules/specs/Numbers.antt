-- The numbers by which C and the scope paper know the refusals ("Numbers returned", and Ask 5's 12 and 13), and the numbers of an answer that may be a refusal.
use Rattle.std.specs.Prelude.{ℕ, Some, None, Ok, Err}
use Rattle.std.specs.Prelude.{Option, Result}
use Rattle.span.specs.declared.Tally.{Tally}
use Rattle.card.specs.declared.Reading.{Reading}
use Rattle.rules.specs.declared.Refusal.{Refusal}
use Rattle.rules.specs.declared.Refusal.TheVariants.{Length, Space, Lanes, Register, Mode, Operation, Boundary, Outside, Unloaded, Malformed, NoRoom, Wild, NoLine}

-- each refusal's
abbrev pub number_of : Refusal → ℕ
number_of Length = 1
number_of Space = 2
number_of Lanes = 3
number_of Register = 4
number_of Mode = 5
number_of Operation = 6
number_of Boundary = 7
number_of Outside = 8
number_of Unloaded = 9
number_of Malformed = 10
number_of NoRoom = 11
number_of Wild = 12
number_of NoLine = 13

-- an answer's: 0 where it is no refusal
abbrev pub told : {A : Type 0} → Result A Refusal → ℕ
told (Ok a) = 0
told (Err e) = number_of e

-- the same of a refusal that may be missing
abbrev pub told_by : Option Refusal → ℕ
told_by None = 0
told_by (Some e) = number_of e

-- the pixels that an answer counts: none where it is a refusal
abbrev pub tally_of : Result Tally Refusal → Tally
tally_of (Ok t) = t
tally_of (Err e) = record { enabled = 0; changed = 0 }

-- a register read as the two numbers that C gets; the value is 0 where it is refused
abbrev pub read_of : Result ℕ Refusal → Reading
read_of (Ok v) = record { number = 0; value = v }
read_of (Err e) = record { number = number_of e; value = 0 }
