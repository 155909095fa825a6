-- The tests of a reader, one law for each answer. A test that fails decides, whatever the others say. Assumes nothing.
use mathlib.Core.Path.{◌≡◌}
use mathlib.Core.Bool.{false}
use mathlib.Core.List.{List}
use Prim.Native.Nat.{ℕ, ◌+◌, ◌*◌, ◌≤◌, ◌<◌}
use lib.Dec.{eqb, leb}
use lib.ListN.{length, get_or}
use borrow.Author.Tests.{eq-eqb, ne_eqb, le-leb, lt-leb, lt-ltb, le-ltb}
use Rattle.format.specs.Traces.{largest}
use Rattle.format.proofs.HeaderTests.{and_false}
use Rattle.line.specs.declared.Reader.{Reader}
use Rattle.line.specs.Serial.{awaited, sound, sound_up_to}
use Rattle.line.specs.Arrival.{entry_there}
use Rattle.line.specs.Ahead.{whole_at}

module _ (r : Reader) where
  -- ---- A reader that can be.

  pub no_room : awaited r ≤ r.filled → false ≡ sound r
  unfolding sound_up_to
  no_room h = simp (le-ltb _ _ h)

  pub over_announced : r.announced < r.applied → false ≡ sound r
  unfolding sound_up_to
  over_announced h = simp (lt-leb _ _ h, and_false)

  pub over_largest : largest < r.announced → false ≡ sound r
  unfolding sound_up_to
  over_largest h = simp (lt-leb _ _ h, and_false)

  pub over_widest : 2048 * r.applied < r.pixels → false ≡ sound r
  unfolding sound_up_to
  over_widest h = simp (lt-leb _ _ h, and_false)

  pub by_changed : r.filled < awaited r → r.applied ≤ r.announced → r.announced ≤ largest → r.pixels ≤ 2048 * r.applied
      → leb r.changed r.pixels ≡ sound r
  unfolding sound_up_to
  by_changed f h l p = simp (lt-ltb _ _ f, le-leb _ _ h, le-leb _ _ l, le-leb _ _ p)

  -- ---- An entry that lies whole in the chunk.

  module _ (v : List ℕ) (a : ℕ) where
    pub not_opened : r.opened ≡ 0 → false ≡ whole_at r v a
    unfolding whole_at
    not_opened h = simp (eq-eqb _ _ h)

    pub waits_for : (r.filled ≡ 0 → ⊥) → false ≡ whole_at r v a
    unfolding whole_at
    waits_for h = simp (ne_eqb _ _ h, and_false)

    pub all_applied : r.applied ≡ r.announced → false ≡ whole_at r v a
    unfolding whole_at
    all_applied h = simp (eq-eqb _ _ h, and_false)

    pub too_short : length v < a + 12 → false ≡ whole_at r v a
    unfolding whole_at entry_there
    too_short h = simp (lt-leb _ _ h, and_false)

    pub first_pad_set : (get_or v (a + 2) 0 ≡ 0 → ⊥) → false ≡ whole_at r v a
    unfolding whole_at entry_there
    first_pad_set h = simp (ne_eqb _ _ h, and_false)

    pub by_second_pad : (r.opened ≡ 0 → ⊥) → r.filled ≡ 0 → (r.applied ≡ r.announced → ⊥) → a + 12 ≤ length v → get_or v (a + 2) 0 ≡ 0
        → eqb (get_or v (a + 3) 0) 0 ≡ whole_at r v a
    unfolding whole_at entry_there
    by_second_pad o f m l z = simp (ne_eqb _ _ o, eq-eqb _ _ f, ne_eqb _ _ m, le-leb _ _ l, eq-eqb _ _ z)
