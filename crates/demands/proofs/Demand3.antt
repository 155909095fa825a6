-- Demand 3: drawing one write with a list of operations is drawing it once with their composite, for every card, picture and write that
-- visits no pixel twice, refused ones and register writes included (`composes`); that the premise is needed is shown in `Twice`; and the four operations that restore every picture. `restores` assumes a picture of bytes (`Bytes`).
use mathlib.Core.Path.{◌≡◌, refl, ap, ap₂, sym, ◌∙◌}
use mathlib.Core.Bool.{Bool, true, false, cond, not, false≢true}
use mathlib.Core.List.{List, [], ◌∷◌, map}
use Prim.Native.Nat.{ℕ, suc, ◌+◌, ◌*◌, ◌/◌, ◌%◌, ◌<◌}
use native.Mathlib.Omega.{arith}
use lib.Dec.{T, ltb}
use lib.ListN.{length}
use Rattle.raster.specs.Pixel.{bit, number, result, composite, Operations, only, ◌then◌, composite_of}
use Rattle.raster.specs.Operations.{restoring}
use Rattle.raster.proofs.Composite.{result_low}
use Rattle.raster.proofs.Operations.{undoes_itself}
use Rattle.span.specs.Fragments.{Fragment, Bytes}
use Rattle.span.specs.Layers.{drawn_all, Apart}
use Rattle.span.proofs.Layers.{drawn_all_op, drawn_all_composes, drawn_all_restores}
use Rattle.card.specs.declared.Card.{Card}
use Rattle.card.specs.declared.Write.{Write}
use Rattle.span.specs.Spans.{spanned}
use Rattle.rules.specs.Modes.{mode_of, is_opaque_line, effective, frame_span}
use Rattle.rules.specs.Lines.{walks, start, visit_count, visits_of, capped, dots, spans_of}
use Rattle.rules.specs.Refusal.{bad_lanes, bad_mode, bad_raster, off_boundary, outside, unloaded, wild_walk, no_line, refusal}
use Rattle.rules.specs.Writes.{accepted, count, layers, in_block_mode, operation, picture}
use Rattle.rules.specs.Sequences.{with_operation, drawn_with, drawn_with_each, EachDraw, obeys, Different, VisitsOnce}
use Rattle.rules.specs.declared.Mode.{Mode}
use Rattle.rules.specs.declared.Mode.TheVariants.{Simple, OpaqueStipple, TransparentStipple, OpaqueFill, TransparentFill, BlockStipple, BlockFill, Copy, OpaqueLine, TransparentLine, Unlisted}
use Rattle.rules.specs.declared.Visit.{Visit}
use Rattle.rules.proofs.Tests.{same_test}
use Rattle.demands.proofs.Visits.{dots_apart}
use Rattle.demands.proofs.Counting.{one_or_none}
use Rattle.demands.proofs.Demand1.{same_length}

-- the span does not look at the raster operation
frame_same : (a : ℕ) (c : Card) (w : Write) (m : Mode) → frame_span m (with_operation a c) w ≡ frame_span m c w
unfolding frame_span
frame_same a c w Simple = refl
frame_same a c w OpaqueStipple = refl
frame_same a c w TransparentStipple = refl
frame_same a c w OpaqueFill = refl
frame_same a c w TransparentFill = refl
frame_same a c w BlockStipple = refl
frame_same a c w BlockFill = refl
frame_same a c w Copy = refl
frame_same a c w OpaqueLine = refl
frame_same a c w TransparentLine = refl
frame_same a c w Unlisted = refl

dots_same : (a : ℕ) (c : Card) (w : Write) (o k : Bool) (i : ℕ) (ss : List Visit) → dots o k (with_operation a c) w i ss ≡ dots o k c w i ss
unfolding dots
dots_same a c w o k i [] = refl
dots_same a c w o k i (s ∷ ss) = rw (dots_same a c w o k (suc i) ss)

module _ (a : ℕ) (c : Card) (w : Write) where
  -- nor does a walk
  walks_same : walks (with_operation a c) w ≡ walks c w
  unfolding walks
  walks_same = refl

  visits_same : visits_of (with_operation a c) w ≡ visits_of c w
  unfolding visits_of visit_count start
  visits_same = refl

  spans_same : spans_of (with_operation a c) w ≡ spans_of c w
  unfolding spans_of
  spans_same =
      rw (
        walks_same,
        visits_same,
        frame_same a c w (mode_of c.registers.mode),
        dots_same a c w (is_opaque_line (mode_of c.registers.mode))
            (capped c.registers.mode) 0 (visits_of c w),
      )

  raster_same : ltb 15 (c.registers.raster / 16 * 16 + a % 16) ≡ ltb 15 c.registers.raster
  raster_same = same_test 15 (c.registers.raster / 16 * 16 + a % 16) 15 c.registers.raster (λ h. omega arith) (λ h. omega arith)

  -- number and count are those of the given card, whatever the operation
  number_alike : (n : ℕ) → refusal (with_operation a c) w n ≡ refusal c w n
  unfolding refusal bad_lanes bad_mode bad_raster off_boundary outside unloaded wild_walk no_line
  number_alike n = simp (raster_same, walks_same, visits_same, spans_same)

  count_alike : (n : ℕ) → count (with_operation a c) w n ≡ count c w n
  unfolding count
  count_alike n = simp (number_alike n, spans_same)

  pub layers_same : (n : ℕ) → layers (with_operation a c) w n ≡ layers c w n
  unfolding layers
  layers_same n = rw (number_alike n, spans_same)

-- the register's bits 3:0 are the operation
low_bits : (r a : ℕ) (s d : Bool) → result (r / 16 * 16 + a % 16) s d ≡ result a s d
low_bits r a s d =
    let e : (r / 16 * 16 + a % 16) % 16 ≡ a % 16 = omega arith in
    sym (result_low (r / 16 * 16 + a % 16) s d) ∙ (ap (λ (n : ℕ). result n s d) e ∙ result_low a s d)

-- a draw with a gives the bits of a itself, or of 3 in a block mode
pub operation_with : (a : ℕ) (c : Card) (w : Write) (s d : Bool) → result (operation (with_operation a c) w) s d ≡ result (cond (in_block_mode c w) 3 a) s d
unfolding operation
operation_with a c w s d = go (in_block_mode c w)
  where
    go : (b : Bool) → result (cond b 3 (c.registers.raster / 16 * 16 + a % 16)) s d ≡ result (cond b 3 a) s d
    go true = refl
    go false = low_bits c.registers.raster a s d

-- and draws layers that do not know a
picture_with : (a : ℕ) (c : Card) (w : Write) (v : List ℕ)
    → drawn_with a c w v ≡ drawn_all (cond (in_block_mode c w) 3 a) (layers c w (length v)) v
unfolding picture
picture_with a c w v =
    ap (λ (fs : List (ℕ → Fragment)). drawn_all (operation (with_operation a c) w) fs v) (layers_same a c w (length v))
    ∙ drawn_all_op _ _ (layers c w (length v)) v (operation_with a c w)

-- two draws, on one picture after the other
picture_twice : (a b : ℕ) (c : Card) (w : Write) (v : List ℕ)
    → drawn_with b c w (drawn_with a c w v)
    ≡ drawn_all (cond (in_block_mode c w) 3 b) (layers c w (length v)) (drawn_all (cond (in_block_mode c w) 3 a) (layers c w (length v)) v)
picture_twice a b c w v =
    picture_with b c w (drawn_with a c w v)
    ∙ ap₂ (λ (n : ℕ) (u : List ℕ). drawn_all (cond (in_block_mode c w) 3 b) (layers c w n) u) (same_length (with_operation a c) w v) (picture_with a c w v)

-- drawing with a and then with b is drawing with their composite, where no pixel is drawn twice
composes_two : (a b : ℕ) (c : Card) (w : Write) (v : List ℕ) → Apart (layers c w (length v))
    → drawn_with b c w (drawn_with a c w v) ≡ drawn_with (composite a b) c w v
unfolding composite result number bit
composes_two a b c w v apart =
    picture_twice a b c w v
    ∙ (drawn_all_composes _ _ (layers c w (length v)) v apart
    ∙ (ap (λ (o : ℕ). drawn_all o (layers c w (length v)) v) (go (in_block_mode c w)) ∙ sym (picture_with (composite a b) c w v)))
  where
    go : (k : Bool) → composite (cond k 3 a) (cond k 3 b) ≡ cond k 3 (composite a b)
    go true = refl
    go false = refl

-- the last picture equals that of one draw with the composite of the list: one claim about the whole list of draws
composes_apart : (ops : Operations) (c : Card) (w : Write) (v : List ℕ) → Apart (layers c w (length v))
    → drawn_with_each ops c w v ≡ drawn_with (composite_of ops) c w v
unfolding drawn_with_each composite_of
composes_apart (only a) c w v apart = refl
composes_apart (ops then a) c w v apart =
    ap (λ (u : List ℕ). drawn_with a c w u) (composes_apart ops c w v apart) ∙ composes_two (composite_of ops) a c w v apart

-- a write that visits no pixel twice draws none twice; one that is no line and no continue has one span, or none
pub apart : (c : Card) (w : Write) (n : ℕ) → VisitsOnce c w n → Apart (layers c w n)
unfolding layers
apart c w n once = go (accepted c w n) once
  where
    go : (b : Bool) → (b ≡ true → walks c w ≡ true → Different (visits_of c w)) → Apart (cond b (map (spanned (effective c)) (spans_of c w)) [])
    go true h =
        one_or_none (λ ss. Apart (map (spanned (effective c)) ss)) c w tt (λ s h. (tt, tt)) (λ e. dots_apart _ _ c w 0 (visits_of c w) (h refl e))
    go false h = tt

-- so does every write but a line or a continue
pub visits-none : (c : Card) (w : Write) (n : ℕ) → walks c w ≡ false → VisitsOnce c w n
visits-none c w n still ok e = absurd (false≢true (sym still ∙ e))

-- every picture on the way has the length of the first
each_length : (ops : Operations) (c : Card) (w : Write) (v : List ℕ) → length (drawn_with_each ops c w v) ≡ length v
unfolding drawn_with_each
each_length (only a) c w v = same_length (with_operation a c) w v
each_length (ops then a) c w v = same_length (with_operation a c) w (drawn_with_each ops c w v) ∙ each_length ops c w v

-- the draw with a on picture u has the number and the count of the draw with b on picture v
abbrev Alike : ℕ → Card → Write → List ℕ → ℕ → List ℕ → Type 0
Alike b c w v a u =
    (refusal (with_operation a c) w (length u) ≡ refusal (with_operation b c) w (length v))
    × (count (with_operation a c) w (length u) ≡ count (with_operation b c) w (length v))

one_alike : (a b : ℕ) (c : Card) (w : Write) (u v : List ℕ) → length u ≡ length v → Alike b c w v a u
one_alike a b c w u v l = (
  number_alike a c w (length u) ∙ (ap (λ (n : ℕ). refusal c w n) l ∙ sym (number_alike b c w (length v))),
  count_alike a c w (length u) ∙ (ap (λ (n : ℕ). count c w n) l ∙ sym (count_alike b c w (length v))),
)

each_alike : (ops : Operations) (b : ℕ) (c : Card) (w : Write) (v : List ℕ) → EachDraw (Alike b c w v) ops c w v
each_alike (only a) b c w v = one_alike a b c w v v refl
each_alike (ops then a) b c w v = (each_alike ops b c w v, one_alike a b c w (drawn_with_each ops c w v) v (each_length ops c w v))

-- every draw, at the picture that it gets, has the number and the count of one draw with the composite: for every write
pub alike : (ops : Operations) (c : Card) (w : Write) (v : List ℕ) → EachDraw (Alike (composite_of ops) c w v) ops c w v
alike ops c w v = each_alike ops (composite_of ops) c w v

-- Demand 3's equation, one claim about the whole list of draws, for every card, picture and non-empty list of operations: the last
-- picture is that of one draw with the composite, and every draw is alike. It holds of every write that is no line and no continue,
-- register writes and refused ones among them, and of every line and continue that visits no pixel twice
pub record Composed (ops : Operations) (c : Card) (w : Write) (v : List ℕ) : Type 0 where
  pub last : drawn_with_each ops c w v ≡ drawn_with (composite_of ops) c w v
  pub alike : EachDraw (Alike (composite_of ops) c w v) ops c w v

pub composes : (ops : Operations) (c : Card) (w : Write) (v : List ℕ) → VisitsOnce c w (length v) → Composed ops c w v
composes ops c w v once = record { last = composes_apart ops c w v (apart c w (length v) once); alike = alike ops c w v }

pub composes_still : (ops : Operations) (c : Card) (w : Write) (v : List ℕ) → walks c w ≡ false → Composed ops c w v
composes_still ops c w v still = composes ops c w v (visits-none c w (length v) still)

-- a draw that obeys is not in a block mode
pub obeying : (k : Bool) → not k ≡ true → k ≡ false
obeying true e = sym e
obeying false e = refl

-- the same draw made twice restores every picture, for 5, 6, 9 and 10: for every write that obeys, lines and continues that visit a pixel
-- twice included
pub restores : (op : ℕ) → op < 16 → T (restoring op) → (c : Card) (w : Write) (v : List ℕ) → Bytes v → obeys c w ≡ true
    → drawn_with op c w (drawn_with op c w v) ≡ v
restores op h t c w v bytes o =
    picture_twice op op c w v
    ∙ (ap (λ (b : Bool). drawn_all (cond b 3 op) (layers c w (length v)) (drawn_all (cond b 3 op) (layers c w (length v)) v)) (obeying (in_block_mode c w) o)
    ∙ drawn_all_restores op (layers c w (length v)) v ((undoes_itself op h).1 t) bytes)
