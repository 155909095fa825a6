-- How the code goes ahead: an entry that lies whole in a chunk is read where it lies. `proofs/Units.antt` shows that this is what its
-- bytes do one after the other.
use Rattle.std.specs.Prelude.{Bool, not, ◌&&◌, List, ℕ, eqb}
use Rattle.card.specs.Registers.{is_set}
use Rattle.line.specs.declared.Reader.{Reader}
use Rattle.line.specs.Arrival.{entry_there}

-- no byte waits, an entry is owed, and it stands whole from byte a on
unfoldable pub whole_at : Reader → List ℕ → ℕ → Bool
whole_at r v a = is_set r.opened && (eqb r.filled 0 && (not (eqb r.applied r.announced) && entry_there v a))
