-- The card that an accepted line or continue leaves, as the code makes it. Nothing here has to be believed.
use Rattle.std.specs.Prelude.{cond, eqb}
use Rattle.card.specs.declared.Card.{Card}
use Rattle.card.specs.declared.Line.{Line}
use Rattle.card.specs.declared.Write.{Write}
use Rattle.rules.specs.Writes.{used_up}

unfoldable pub walked_on : Card → Write → Line → Card
walked_on c w l =
    record {
      registers = c.registers;
      mask = cond (eqb w.space 1) c.mask (used_up c.mask);
      copier = c.copier;
      line = l;
      held = c.held;
    }
