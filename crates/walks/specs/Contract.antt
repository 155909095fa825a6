-- What the crate `walks` promises: how a line or a continue is judged and drawn, and nothing that has to be believed.
use Rattle.std.specs.Prelude.{◌≡◌, cond, Result, List, map, ℕ, ◌%◌, eqb, length}
use Rattle.span.specs.Fragments.{Fragment, drawn, differing}
use Rattle.span.specs.Layers.{drawn_all, changed_all, summed}
use Rattle.span.specs.Spans.{Span, spanned, enabled_in}
use Rattle.span.specs.declared.Tally.{Tally}
use Rattle.card.specs.declared.Card.{Card}
use Rattle.card.specs.declared.Write.{Write}
use Rattle.rules.specs.Modes.{mode_of, is_opaque_line, effective}
use Rattle.rules.specs.Lines.{visits_of, line_left, dots, capped}
use Rattle.rules.specs.declared.Visit.{Visit}
use Rattle.plan.specs.Plan.{walk_number}
use Rattle.rules.specs.Numbers.{told, tally_of}
use Rattle.rules.specs.declared.Refusal.{Refusal}

-- one span drawn on card c gave answer r and picture v'
pub record Dotted (c : Card) (s : Span) (v : List ℕ) (r : Tally) (v' : List ℕ) : Type 0 where
  pub shows : v' ≡ drawn (c.registers.raster % 16) (spanned (effective c) s) v
  pub counts : r.enabled ≡ enabled_in s
  pub changes : r.changed ≡ differing v v'

-- the spans of these visits, and the layers that they are
abbrev pub spans_by : Card → Write → ℕ → List Visit → List Span
spans_by c w i ss = dots (is_opaque_line (mode_of c.registers.mode)) (capped c.registers.mode) c w i ss

abbrev pub layers_by : Card → Write → ℕ → List Visit → List (ℕ → Fragment)
layers_by c w i ss = map (spanned (effective c)) (spans_by c w i ss)

-- they were drawn, one after the other
pub record Visited (c : Card) (w : Write) (ss : List Visit) (v : List ℕ) (r : Tally) (v' : List ℕ) : Type 0 where
  pub shows : v' ≡ drawn_all (c.registers.raster % 16) (layers_by c w 0 ss) v
  pub counts : r.enabled ≡ summed enabled_in (spans_by c w 0 ss)
  pub changes : r.changed ≡ changed_all (c.registers.raster % 16) (layers_by c w 0 ss) v

-- card c, write w, taken for a line or a continue, and picture v gave answer r, card c' and picture v'; refused, nothing is drawn and nothing moves
pub record Walked (c : Card) (w : Write) (v : List ℕ) (r : Result Tally Refusal) (c' : Card) (v' : List ℕ) : Type 0 where
  pub number : told r ≡ walk_number c w (length v)
  pub shows : v' ≡ cond (eqb (told r) 0) (drawn_all (c.registers.raster % 16) (layers_by c w 0 (visits_of c w)) v) v
  pub counts : (tally_of r).enabled ≡ cond (eqb (told r) 0) (summed enabled_in (spans_by c w 0 (visits_of c w))) 0
  pub changes : (tally_of r).changed ≡ cond (eqb (told r) 0) (changed_all (c.registers.raster % 16) (layers_by c w 0 (visits_of c w)) v) 0
  pub leaves : c' ≡ record c { line = cond (eqb (told r) 0) (line_left c w) c.line }
