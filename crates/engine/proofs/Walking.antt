-- A line or a continue, walked, is what the definitions say of its write; and what the number of a write is, by the way that it goes. Assumes nothing.
use mathlib.Core.Path.{◌≡◌, refl, ap, sym, ◌∙◌}
use mathlib.Core.Bool.{Bool, true, false, cond, not, ◌&&◌, ◌||◌, false≢true}
use mathlib.Core.List.{List, [], ◌∷◌, map}
use Prim.Native.Nat.{ℕ, ◌%◌}
use native.Mathlib.Decide.{ℕ_discrete}
use native.Mathlib.Nat.{mod-eq_of_lt}
use lib.Dec.{T, eqb}
use lib.ListN.{length}
use borrow.Author.Tests.{eq-eqb, ne_eqb, eqb-true}
use Rattle.raster.proofs.Below.{left, right, is_true}
use Rattle.span.specs.Layers.{drawn_all, changed_all, summed}
use Rattle.span.specs.Spans.{spanned, enabled_in}
use Rattle.card.specs.Registers.{table, row_in, row_at, ◌is◌}
use Rattle.card.specs.Access.{stores}
use Rattle.card.specs.declared.Card.{Card}
use Rattle.card.specs.declared.Row.{Row}
use Rattle.card.specs.declared.Write.{Write}
use Rattle.card.specs.declared.Register.TheVariants.{Continue}
use Rattle.rules.specs.Modes.{mode_of, is_line, is_block, is_copy, register_of, effective}
use Rattle.rules.specs.Lines.{walks, line_left, line_spans, spans_of}
use Rattle.rules.specs.Refusal.{refusal}
use Rattle.rules.specs.Writes.{used_up, count, in_block_mode, operation, picture, changed, moved_line, after_frame, after_register, next}
use Rattle.rules.specs.declared.Mode.{Mode}
use Rattle.rules.specs.declared.Mode.TheVariants.{Simple, OpaqueStipple, TransparentStipple, OpaqueFill, TransparentFill, BlockStipple, BlockFill, Copy, OpaqueLine, TransparentLine, Unlisted}
use Rattle.rules.proofs.Outcome.{walks_continue, walks_line, accepted_raster, picture-accepted, changed-accepted, count-accepted, next_register, next_frame, picture_refused, changed_refused, count_refused, next_refused}
use Rattle.plan.specs.Plan.{plan_of, judged, walk_number}
use Rattle.plan.specs.declared.Plan.{Plan}
use Rattle.plan.proofs.PlanNumber.{planned-number}
use Rattle.walks.specs.Contract.{Walked}
use Rattle.span.specs.declared.Tally.{Tally}
use Rattle.rules.specs.declared.Refusal.{Refusal}
use Rattle.rules.proofs.Numbers.{numbered, some_number}
use Rattle.std.proofs.Common.{Result, Ok, Err, OnErr}
use Rattle.rules.specs.Numbers.{number_of}
use Rattle.engine.specs.Contract.{Written}
use Rattle.engine.specs.Walks.{walked_on}

-- ---- The number.

module _ (c : Card) (w : Write) (n : ℕ) {p : Plan} {k : ℕ} (of : p ≡ plan_of c w) (e : k ≡ judged p w n) where
  judged_so : k ≡ judged (plan_of c w) w n
  judged_so = e ∙ ap (λ (x : Plan). judged x w n) of

  by_plan_first : refusal c w n ≡ cond (eqb k 0) (cond (walks c w) (walk_number c w n) 0) k
  by_plan_first = planned-number c w n ∙ ap (λ (j : ℕ). cond (eqb j 0) (cond (walks c w) (walk_number c w n) 0) j) (sym judged_so)

  pub at_fault : (k ≡ 0 → ⊥) → k ≡ refusal c w n
  at_fault h = sym (by_plan_first ∙ rw (ne_eqb _ _ h))

  pub nothing_at_fault : k ≡ 0 → judged (plan_of c w) w n ≡ 0
  nothing_at_fault z = sym judged_so ∙ z

  pub still_accepted : k ≡ 0 → walks c w ≡ false → refusal c w n ≡ 0
  still_accepted z still = by_plan_first ∙ rw (eq-eqb _ _ z, still)

module _ (c : Card) (w : Write) (n : ℕ) (goes : walks c w ≡ true) (z : judged (plan_of c w) w n ≡ 0) where
  pub walk_refusal : refusal c w n ≡ walk_number c w n
  walk_refusal = planned-number c w n ∙ rw (eq-eqb _ _ z, goes)

-- ---- Which write walks: of the register table only the row at 004Ch is continue's.

abbrev alone : List Row → Bool
alone [] = true
alone (r ∷ rs) = (not (r.register is Continue) || eqb r.offset 0x4C) && alone rs

continue_only : (rs : List Row) → T (alone rs) → (a : ℕ) → (row_in rs a).register is Continue ≡ true → a ≡ 0x4C
unfolding row_in
continue_only [] t a e = absurd (false≢true e)
continue_only (r ∷ rs) t a e =
    go (ℕ_discrete r.offset a) (continue_only rs (right (not (r.register is Continue) || eqb r.offset 0x4C) (alone rs) t) a)
  where
    at : (x y : Bool) → x ≡ true → T (not x || y) → y ≡ true
    at true y h k = is_true y k
    at false y h k = absurd (false≢true h)

    go : Dec (r.offset ≡ a) → ((row_in rs a).register is Continue ≡ true → a ≡ 0x4C) → a ≡ 0x4C
    go (yes h) rest =
        let m : r.register is Continue ≡ true = rw (eq-eqb _ _ h) at e in
        sym h ∙ eqb-true r.offset 0x4C (at (r.register is Continue) (eqb r.offset 0x4C) m (left (not (r.register is Continue) || eqb r.offset 0x4C) (alone rs) t))
    go (no h) rest = rest (rw (ne_eqb _ _ h) at e)

pub is_continue : (w : Write) → eqb w.address 0x4C ≡ register_of w is Continue
unfolding row_at row_in table
is_continue w = go (ℕ_discrete w.address 0x4C) (register_of w is Continue) refl
  where
    go : Dec (w.address ≡ 0x4C) → (b : Bool) → register_of w is Continue ≡ b → eqb w.address 0x4C ≡ register_of w is Continue
    go (yes h) b e = rw h
    go (no h) true e = absurd (h (continue_only table tt w.address e))
    go (no h) false e = ne_eqb _ _ h ∙ sym e

-- ---- What it leaves.

line_mode : (m : Mode) → is_line m ≡ true → (is_block m ≡ false) × (is_copy m ≡ false)
line_mode Simple e = absurd (false≢true e)
line_mode OpaqueStipple e = absurd (false≢true e)
line_mode TransparentStipple e = absurd (false≢true e)
line_mode OpaqueFill e = absurd (false≢true e)
line_mode TransparentFill e = absurd (false≢true e)
line_mode BlockStipple e = absurd (false≢true e)
line_mode BlockFill e = absurd (false≢true e)
line_mode Copy e = absurd (false≢true e)
line_mode OpaqueLine e = (refl, refl)
line_mode TransparentLine e = (refl, refl)
line_mode Unlisted e = absurd (false≢true e)

module _ (c : Card) (w : Write) (goes : walks c w ≡ true) (v : List ℕ) where
  -- a line or a continue draws with the register's operation
  walk_operation : operation c w ≡ c.registers.raster
  unfolding operation walks
  walk_operation = go (ℕ_discrete w.space 1)
    where
      go : Dec (w.space ≡ 1) → cond (in_block_mode c w) 3 c.registers.raster ≡ c.registers.raster
      go (yes h) = rw h
      go (no h) =
          rw (line_mode (mode_of c.registers.mode) (walks_line c w goes h)).0 (aside (eqb w.space 0))
        where
          aside : (b : Bool) → cond (b && false) 3 c.registers.raster ≡ c.registers.raster
          aside true = refl
          aside false = refl

  module _ (ok : refusal c w (length v) ≡ 0) where
    low_raster : c.registers.raster % 16 ≡ operation c w
    low_raster = mod-eq_of_lt (accepted_raster c w (length v) ok) ∙ sym walk_operation

    walk_spans : spans_of c w ≡ line_spans c w
    unfolding spans_of
    walk_spans = rw goes

    walk_shows : drawn_all (c.registers.raster % 16) (map (spanned (effective c)) (line_spans c w)) v ≡ picture c w v
    walk_shows = sym (picture-accepted c w v ok ∙ rw (walk_spans, low_raster))

    walk_changes : changed_all (c.registers.raster % 16) (map (spanned (effective c)) (line_spans c w)) v ≡ changed c w v
    walk_changes = sym (changed-accepted c w v ok ∙ rw (walk_spans, low_raster))

    walk_counts : summed enabled_in (line_spans c w) ≡ count c w (length v)
    walk_counts = sym (count-accepted c w v ok ∙ rw walk_spans)

    walk_leaves : walked_on c w (line_left c w) ≡ next c w v
    unfolding walked_on walks moved_line after_frame after_register stores
    walk_leaves = go (ℕ_discrete w.space 1)
      where
        go : Dec (w.space ≡ 1) → walked_on c w (line_left c w) ≡ next c w v
        go (yes h) =
            let s = eq-eqb w.space 1 h in
            sym (next_register c w v ok h ∙ rw (s, walks_continue c w goes h))
        go (no h) =
            let s = ne_eqb w.space 1 h in
            let l = walks_line c w goes h in
            sym (next_frame c w v ok h ∙ rw (s, l, (line_mode (mode_of c.registers.mode) l).1))

  -- what a walk has answered, where the plan has nothing at fault
  module _ (z : judged (plan_of c w) w (length v) ≡ 0) {c' : Card} {v' : List ℕ} where
    pub walk_refused : {e : Refusal} → Walked c w v (Err e) c' v' → Written c w v (Err e) c' v'
    walk_refused {e} d =
        let b = numbered e in
        let n = d.number ∙ sym (walk_refusal c w (length v) goes z) in
        let some : refusal c w (length v) ≡ 0 → ⊥ = λ q. some_number e (n ∙ q) in
        record {
          number = n;
          counts = sym (count_refused c w v some);
          changes = sym (changed_refused c w v some);
          leaves = d.leaves ∙ (rw b (sym (next_refused c w v some)));
          shows = d.shows ∙ (rw b (sym (picture_refused c w v some)));
        }

    pub walk_written : {t : Tally} → Walked c w v (Ok t) c' v' → (x : Card) → x ≡ walked_on c w c'.line → Written c w v (Ok t) x v'
    walk_written d x e =
        let ok : refusal c w (length v) ≡ 0 = walk_refusal c w (length v) goes z ∙ sym d.number in
        record {
          number = sym ok;
          counts = d.counts ∙ walk_counts ok;
          changes = d.changes ∙ walk_changes ok;
          leaves = e ∙ (ap (λ (y : Card). walked_on c w y.line) d.leaves ∙ walk_leaves ok);
          shows = d.shows ∙ walk_shows ok;
        }

    -- a continue keeps the mask, and its walk is all
    pub walk_continue : eqb w.space 1 ≡ true → {t : Tally} → Walked c w v (Ok t) c' v' → Written c w v (Ok t) c' v'
    unfolding walked_on
    walk_continue s d = walk_written d c' (d.leaves ∙ rw s (ap (λ (y : Card). record c { line = y.line }) (sym d.leaves)))

    -- a line uses a one-shot mask up
    pub walk_line : eqb w.space 1 ≡ false → {t : Tally} → Walked c w v (Ok t) c' v' → (x : Card) → x ≡ record c' { mask = used_up c'.mask } → Written c w v (Ok t) x v'
    unfolding walked_on
    walk_line s d x e =
        walk_written d x
        (e ∙ rw s (ap (λ (y : Card). record { registers = y.registers; mask = used_up y.mask; copier = y.copier; line = c'.line; held = y.held }) d.leaves))

-- ---- A refused write.

module _ (c : Card) (w : Write) (v : List ℕ) where
  pub write_refused : {p : Plan} → p ≡ plan_of c w → (e : Refusal) → number_of e ≡ judged p w (length v) → Written c w v (Err e) c v
  write_refused of e h =
      let n = at_fault c w (length v) of h (some_number e) in
      let some : refusal c w (length v) ≡ 0 → ⊥ = λ q. some_number e (n ∙ q) in
      record {
        number = n;
        counts = sym (count_refused c w v some);
        changes = sym (changed_refused c w v some);
        leaves = sym (next_refused c w v some);
        shows = sym (picture_refused c w v some);
      }

  pub kept_back : {c' : Card} {v' : List ℕ} (r : Result Tally Refusal) → Written c w v r c' v' → OnErr r ((c' ≡ c) × (v' ≡ v))
  kept_back (Ok t) d = tt
  kept_back (Err e) d =
      let some : refusal c w (length v) ≡ 0 → ⊥ = λ q. some_number e (d.number ∙ q) in
      (d.leaves ∙ next_refused c w v some, d.shows ∙ picture_refused c w v some)
