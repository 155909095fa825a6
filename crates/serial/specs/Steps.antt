-- A step answers by its result, and not in the reader: its number is looked at and written around all steps.
use Rattle.std.specs.Prelude.{List, ℕ, Result}
use Rattle.card.specs.declared.Card.{Card}
use Rattle.rules.specs.declared.Refusal.{Refusal}
use Rattle.rules.specs.Numbers.{told}
use Rattle.line.specs.declared.Reader.{Reader}
use Rattle.line.specs.Serial.{Standing, standing, stuck}

-- where the reading stands before a step, at a reader that no number stops
abbrev pub before : Reader → Card → List ℕ → Standing
before r c v = standing (stuck 0 r) c v

-- and after a step that answered so
abbrev pub after : {A : Type 0} → Result A Refusal → Reader → Card → List ℕ → Standing
after answer r c v = standing (stuck (told answer) r) c v
