-- Scope paper, "Traces", the second paragraph: running a part of a trace.
use Rattle.std.specs.Prelude.{cond, List, [], ◌∷◌, ℕ, zero, suc, ◌+◌, ◌*◌, eqb, length, drop}
use Rattle.card.specs.declared.Card.{Card}
use Rattle.card.specs.declared.Write.{Write}
use Rattle.rules.specs.Numbers.{told_by}
use Rattle.rules.specs.Refusal.{bad_length, refusal}
use Rattle.rules.specs.Writes.{count, next, picture, changed}
use Rattle.format.specs.Traces.{largest, entry_size, writes, well_formed_up_to}
use Rattle.trace.specs.declared.Ran.{Ran}

-- where a run stands: the number, the entries applied, the total pixels, those changed, the card and the picture
pub record State : Type 0 where
  pub number : ℕ
  pub applied : ℕ
  pub pixels : ℕ
  pub changed : ℕ
  pub card : Card
  pub picture : List ℕ

-- what a run answers, with the card and the picture that it leaves
abbrev pub outcome_of : Ran → Card → List ℕ → State
outcome_of r c v =
    record { number = told_by r.refused; applied = r.applied; pixels = r.pixels; changed = r.changed; card = c; picture = v }

-- nothing drawn, with this number
abbrev pub nothing : ℕ → Card → List ℕ → State
nothing n c v = record { number = n; applied = 0; pixels = 0; changed = 0; card = c; picture = v }

-- the number that a write gets here
abbrev pub answer : State → Write → ℕ
answer s w = refusal s.card w (length s.picture)

-- an accepted write is applied. A pixel that several writes change is counted at each
unfoldable pub apply : State → Write → State
apply s w =
    record {
      number = 0;
      applied = s.applied + 1;
      pixels = s.pixels + count s.card w (length s.picture);
      changed = s.changed + changed s.card w s.picture;
      card = next s.card w s.picture;
      picture = picture s.card w s.picture;
    }

-- a refused one gives its number, and leaves what was drawn
unfoldable pub refuse : State → Write → State
refuse s w =
    record { number = answer s w; applied = s.applied; pixels = s.pixels; changed = s.changed; card = s.card; picture = s.picture }

-- entry after entry, until the budget or the entries end, or a write is refused
unfoldable pub ran : List Write → ℕ → State → State
ran [] budget s = s
ran (w ∷ ws) zero s = s
ran (w ∷ ws) (suc budget) s = cond (eqb (answer s w) 0) (ran ws budget (apply s w)) (refuse s w)

-- 10 and then 1 come before anything is drawn; 10 where the part has more than so many entries, or cannot be run for another reason
unfoldable pub run_up_to : ℕ → List ℕ → ℕ → Card → List ℕ → State
run_up_to most part budget c v =
    cond (well_formed_up_to most part) (cond (bad_length (length v)) (nothing 1 c v) (ran (writes part) budget (nothing 0 c v))) (nothing 10 c v)

-- with at most the largest number of entries (change request 6)
abbrev pub run : List ℕ → ℕ → Card → List ℕ → State
run = run_up_to largest

-- the total pixels of a run never exceed this: 2,048 for each entry of the largest number
abbrev pub most_pixels : ℕ
most_pixels = 134217728

-- the part after so many entries: after those applied, the unread part
unfoldable pub unread : List ℕ → ℕ → List ℕ
unread part applied = drop (entry_size * applied) part
