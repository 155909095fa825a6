-- What a write and a run promise a C program: the answer, and what is left of the card and the picture, by the definitions of `rules` and `trace`
-- at what was handed in.
use Rattle.std.specs.Prelude.{◌≡◌, List, ℕ, ◌*◌, length, drop, Result}
use Rattle.card.specs.declared.Card.{Card}
use Rattle.card.specs.declared.Write.{Write}
use Rattle.span.specs.declared.Tally.{Tally}
use Rattle.rules.specs.declared.Refusal.{Refusal}
use Rattle.rules.specs.Numbers.{told, tally_of}
use Rattle.rules.specs.Refusal.{refusal}
use Rattle.rules.specs.Writes.{count, next, picture, changed}
use Rattle.format.specs.Traces.{entry_size}
use Rattle.trace.specs.Run.{run, unread}
use Rattle.answers.specs.declared.Answer.{Answer}
use Rattle.answers.specs.declared.Ran.{Ran}

-- the write put together from its four numbers
abbrev pub write_of : ℕ → ℕ → ℕ → ℕ → Write
write_of space lanes address word = record { space = space; lanes = lanes; address = address; «data» = word }

-- what C gets of an engine's answer
abbrev pub answer_of : Result Tally Refusal → Answer
answer_of told_so = record { number = told told_so; count = (tally_of told_so).enabled; changed = (tally_of told_so).changed }

-- card c, write w and picture v gave answer r, and left card c' and picture v'
pub record Wrote (c : Card) (w : Write) (v : List ℕ) (r : Answer) (c' : Card) (v' : List ℕ) : Type 0 where
  pub number : r.number ≡ refusal c w (length v)
  pub counts : r.count ≡ count c w (length v)
  pub changes : r.changed ≡ changed c w v
  pub leaves : c' ≡ next c w v
  pub shows : v' ≡ picture c w v

-- a part, a budget, card c and picture v gave answer r, and left card c' and picture v'.
-- The unread part begins at the byte `rest` of the part
pub record Replayed (part : List ℕ) (budget : ℕ) (c : Card) (v : List ℕ) (r : Ran) (c' : Card) (v' : List ℕ) : Type 0 where
  pub number : r.number ≡ (run part budget c v).number
  pub entries : r.entries ≡ (run part budget c v).applied
  pub pixels : r.pixels ≡ (run part budget c v).pixels
  pub changes : r.changed ≡ (run part budget c v).changed
  pub rest : r.rest ≡ entry_size * (run part budget c v).applied
  pub unreads : drop r.rest part ≡ unread part (run part budget c v).applied
  pub leaves : c' ≡ (run part budget c v).card
  pub shows : v' ≡ (run part budget c v).picture
