-- A span of a single pixel, drawn and compared, and that of a visit. What is drawn is assumed to lie inside.
use mathlib.Core.Path.{◌≡◌, refl, ap, sym, ◌∙◌}
use mathlib.Core.Bool.{Bool, true, false, cond, not, ◌&&◌, ◌||◌}
use mathlib.Core.List.{List, ◌∷◌, map}
use Prim.Native.Nat.{ℕ, suc, ◌+◌, ◌-◌, ◌%◌, ◌≤◌, ◌<◌, min}
use native.Mathlib.Decide.{ℕ_discrete}
use native.Mathlib.Omega.{arith}
use lib.Dec.{eqb}
use lib.ListN.{length, get_or, set, length-set}
use borrow.Author.Tests.{eq-eqb, ne_eqb}
use lib.Seq.{get_or-set_same, get_or-set_other}
use Rattle.raster.specs.Pixel.{bit, value, made}
use Rattle.span.specs.Fragments.{Fragment, paint, painted, alters, drawn, counted, differing, byte}
use Rattle.span.specs.Layers.{drawn_all, changed_all, summed}
use Rattle.span.specs.Spans.{Span, pixel, spanned, enabled_in}
use Rattle.span.specs.declared.Tally.{Tally}
use Rattle.span.proofs.Changed.{differing-none, differing-run, differing-within}
use Rattle.span.proofs.Counted.{counted_one, counted_le}
use Rattle.span.proofs.Drawn.{drawn_is, drawn-none}
use Rattle.span.proofs.Spans.{spanned_in, spanned_elsewhere, spanned_off}
use Rattle.card.specs.declared.Card.{Card}
use Rattle.card.specs.declared.Write.{Write}
use Rattle.rules.specs.Modes.{foreground, background, effective}
use Rattle.rules.specs.Lines.{dot, dots, stepped, visits}
use Rattle.rules.specs.declared.Visit.{Visit}
use Rattle.walks.specs.Contract.{Dotted}
use Rattle.walks.proofs.Visits.{visits-next, none_left}

module _ (op : ℕ) (mask : ℕ → ℕ) (s : Span) (one : s.width ≡ 1) (v : List ℕ) (inside : s.first < length v) where
  pub dot-shows : set v s.first (painted op (pixel mask s 0) (get_or v s.first 0)) ≡ drawn op (spanned mask s) v
  dot-shows = drawn_is op (spanned mask s) v _ (length-set v s.first _) (λ i h. go i h (ℕ_discrete i s.first))
    where
      go : (i : ℕ) → i < length v → Dec (i ≡ s.first)
          → get_or (set v s.first (painted op (pixel mask s 0) (get_or v s.first 0))) i 0 ≡ painted op (spanned mask s i) (get_or v i 0)
      go i h (yes e) =
          rw e (get_or-set_same v s.first _ 0 inside
          ∙ sym (ap (λ (f : Fragment). painted op f (get_or v s.first 0)) (spanned_in mask s s.first 0 (omega arith) (omega arith))))
      go i h (no e) = get_or-set_other v s.first i _ 0 e ∙ sym (ap (λ (f : Fragment). painted op f (get_or v i 0)) (spanned_elsewhere mask s one i e))

  pub dot-changes : differing v (drawn op (spanned mask s) v) ≡ value (alters op (pixel mask s 0) (get_or v s.first 0))
  unfolding spanned counted
  dot-changes =
      let k : min s.width (length v - s.first) ≡ 1 = omega arith in
      let z : s.first + 0 ≡ s.first = omega arith in
      differing-run op s.first s.width (pixel mask s) v
      ∙ (ap (λ (n : ℕ). counted n (λ j. alters op (pixel mask s j) (get_or v (s.first + j) 0))) k
      ∙ (counted_one (λ j. alters op (pixel mask s j) (get_or v (s.first + j) 0)) ∙ ap (λ (a : ℕ). value (alters op (pixel mask s 0) (get_or v a 0))) z))

-- ---- A visit's.

-- the byte of the colour chosen
pub chosen : (b : Bool) (x y k : ℕ) → byte (cond b x y) k ≡ cond b (byte x k) (byte y k)
chosen true x y k = refl
chosen false x y k = refl

module _ (c : Card) (w : Write) (opaque shown : Bool) (i p : ℕ) (v : List ℕ) where
  abbrev on : Bool
  on = shown && (opaque || bit w.«data» i)

  abbrev op : ℕ
  op = c.registers.raster % 16

  -- it draws
  pub dot-drawn : on ≡ true → p < length v → (mask source r : ℕ) (v' : List ℕ) → mask ≡ effective c p
      → source ≡ cond (bit w.«data» i) (foreground c p) (background c p) → v' ≡ set v p (made 8 op mask source (get_or v p 0))
      → r ≡ value (alters op (paint mask source) (get_or v p 0)) → Dotted c (dot opaque shown c w i p) v (record { enabled = 1; changed = r }) v'
  dot-drawn e inside mask source r v' em es l n =
      let s : Span = dot opaque shown c w i p in
      let z : p + 0 ≡ p = omega arith in
      let f : paint mask source ≡ pixel (effective c) s 0 = rw (e, z, em, es) in
      let shown : v' ≡ drawn op (spanned (effective c) s) v
      = l ∙ (ap (λ (x : Fragment). set v p (painted op x (get_or v p 0))) f ∙ dot-shows op (effective c) s refl v inside)
      in
      record {
        shows = shown;
        counts = sym (counted_one (λ j. on) ∙ ap value e);
        changes = n ∙ (ap (λ (x : Fragment). value (alters op x (get_or v p 0))) f ∙ (sym (dot-changes op (effective c) s refl v inside) ∙ sym (ap (differing v) shown)));
      }

  -- or not
  pub dot-left : on ≡ false → Dotted c (dot opaque shown c w i p) v (record { enabled = 0; changed = 0 }) v
  dot-left e =
      record {
        shows = sym (drawn-none op _ v (λ a _. spanned_off (effective c) (dot opaque shown c w i p) (λ j h. e) a));
        counts = sym (counted_one (λ j. on) ∙ ap value e);
        changes = sym (differing-none v);
      }

pub same_eq : (a b c d : ℕ) → (a ≡ b → c ≡ d) → (c ≡ d → a ≡ b) → eqb a b ≡ eqb c d
same_eq a b c d f g = go (ℕ_discrete a b)
  where
    go : Dec (a ≡ b) → eqb a b ≡ eqb c d
    go (yes e) = eq-eqb a b e ∙ sym (eq-eqb c d (f e))
    go (no e) = ne_eqb a b e ∙ sym (ne_eqb c d (λ q. e (g q)))

-- a single pixel counts and changes one at most
pub single : {c : Card} (s : Span) {u u' : List ℕ} {r : Tally} → s.width ≡ 1 → Dotted c s u r u' → (r.enabled ≤ 1) × (r.changed ≤ 1)
single {c = c} s {u = u} {u' = u'} {r = r} e d =
    let n : enabled_in s ≤ 1 = rw e (counted_le 1 s.on) in
    let l : differing u u' ≤ enabled_in s = rw d.shows (differing-within (c.registers.raster % 16) (effective c) s u) in
    (omega (arith, d.counts), omega (arith, d.changes))

-- ---- One visit more: what it draws, and then what the rest does, is what they all do.

module _ (c : Card) (w : Write) (opaque cap : Bool) (a b : ℕ) where
  abbrev pub spans : ℕ → ℕ → Visit → List Span
  spans i k s = dots opaque cap c w i (visits a b k s)

  abbrev pub layers : ℕ → ℕ → Visit → List (ℕ → Fragment)
  layers i k s = map (spanned (effective c)) (spans i k s)

  module _ (i k : ℕ) (s : Visit) (h : 0 < k) (shown : Bool) (es : shown ≡ cap || not (eqb k 1)) where
    abbrev this : Span
    this = dot opaque shown c w i (s.place.more - s.place.less)

    pub spans_next : spans i k s ≡ this ∷ spans (i + 1) (k - 1) (stepped a b s)
    unfolding dots
    spans_next =
        let one : i + 1 ≡ suc i = omega arith in
        let last : eqb (k - 1) 0 ≡ eqb k 1 = same_eq (k - 1) 0 k 1 (λ e. omega arith) (λ e. omega arith) in
        rw (visits-next a b k s h, one, es, none_left a b (k - 1) (stepped a b s), last)

    abbrev op' : ℕ
    op' = c.registers.raster % 16

    module _ (u u' : List ℕ) (r : Tally) (d : Dotted c this u r u') where
      pub turn_shows : drawn_all op' (layers (i + 1) (k - 1) (stepped a b s)) u' ≡ drawn_all op' (layers i k s) u
      unfolding drawn_all
      turn_shows = rw (spans_next, d.shows)

      pub turn_changes : (n : ℕ) → n + r.changed + changed_all op' (layers (i + 1) (k - 1) (stepped a b s)) u' ≡ n + changed_all op' (layers i k s) u
      unfolding changed_all
      turn_changes n = rw (spans_next, d.changes, d.shows) (omega arith)

      pub turn_counts : (n : ℕ) → n + r.enabled + summed enabled_in (spans (i + 1) (k - 1) (stepped a b s)) ≡ n + summed enabled_in (spans i k s)
      turn_counts n = rw (spans_next, d.counts) (omega arith)
