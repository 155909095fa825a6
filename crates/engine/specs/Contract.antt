-- What `write_to` and `write` promise for every card, write and picture: its number, count, pixels changed, next card and picture are those of the definitions.
use Rattle.std.specs.Prelude.{◌≡◌, Result, List, ℕ, length}
use Rattle.span.specs.declared.Tally.{Tally}
use Rattle.card.specs.declared.Card.{Card}
use Rattle.card.specs.declared.Write.{Write}
use Rattle.rules.specs.Numbers.{told, tally_of}
use Rattle.rules.specs.Refusal.{refusal}
use Rattle.rules.specs.Writes.{count, next, picture, changed}
use Rattle.rules.specs.declared.Refusal.{Refusal}

-- card c, write w and picture v gave answer r, and left card c' and picture v'; the number of an answer that is no refusal is 0, and a refusal draws nothing
pub record Written (c : Card) (w : Write) (v : List ℕ) (r : Result Tally Refusal) (c' : Card) (v' : List ℕ) : Type 0 where
  pub number : told r ≡ refusal c w (length v)
  pub counts : (tally_of r).enabled ≡ count c w (length v)
  pub changes : (tally_of r).changed ≡ changed c w v
  pub leaves : c' ≡ next c w v
  pub shows : v' ≡ picture c w v
