-- The laws of spans: what one does at each address, two side by side, one cut in two, and the strokes that draw it. Assumes nothing.
use mathlib.Core.Path.{◌≡◌, refl, ap, ap₂, sym, ◌∙◌}
use mathlib.Core.Bool.{Bool, false, cond}
use mathlib.Core.List.{List, [], ◌∷◌, ◌++◌, append-nil}
use mathlib.Core.Logic.{◌⊎◌, inl, inr}
use Prim.Native.Nat.{ℕ, ◌+◌, ◌-◌, ◌%◌, ◌<◌, ◌≤◌, min}
use native.Mathlib.Nat.{add-zero}
use native.Mathlib.Decide.{dec_lt, ℕ_discrete}
use native.Mathlib.Omega.{arith}
use lib.ListN.{length, get_or, take, drop, length-take, length-drop, drop_of_length-le}
use lib.Seq.{take_all}
use borrow.Rule.Slice.PartMut.{put_mid}
use Rattle.raster.specs.Pixel.{bit}
use Rattle.span.specs.Fragments.{Fragment, stays, paint, painted, drawn, before, from, counted, differing, byte}
use Rattle.span.specs.Layers.{drawn_all, changed_all}
use Rattle.span.specs.Spans.{Span, In, pixel, spanned, enabled_in, piece}
use Rattle.span.specs.Strokes.{stroke, enabled, pattern_byte, Drew, Draws}
use Rattle.span.specs.declared.Strokes.{Strokes}
use Rattle.span.specs.declared.Tally.{Tally}
use Rattle.span.proofs.Changed.{changed_all_apart}
use Rattle.span.proofs.Counted.{counted_same, counted-append}
use Rattle.span.proofs.Drawn.{drawn_same, drawn_is, drawn_at, drawn-length, drawn-from}
use Rattle.span.proofs.Painted.{before_below, before-past, from_below, from_past}

module _ (mask : ℕ → ℕ) (s : Span) where
  -- what a span does at an address before it, in it and past it
  pub spanned-before : (p : ℕ) → p < s.first → spanned mask s p ≡ stays
  unfolding spanned
  spanned-before p h = from_below s.first _ h

  pub spanned_in : (p j : ℕ) → p ≡ s.first + j → j < s.width → spanned mask s p ≡ pixel mask s j
  unfolding spanned
  spanned_in p j e h =
      let k : p - s.first ≡ j = omega arith in
      from_past s.first _ (omega arith)
      ∙ (ap (λ (i : ℕ). before s.width (pixel mask s) i) k ∙ before_below s.width (pixel mask s) h)

  pub spanned-past : (p : ℕ) → s.first + s.width ≤ p → spanned mask s p ≡ stays
  unfolding spanned
  spanned-past p h = from_past s.first _ (omega arith) ∙ before-past s.width (pixel mask s) (omega arith)

  -- a single pixel leaves every other address
  pub spanned_elsewhere : s.width ≡ 1 → (p : ℕ) → (p ≡ s.first → ⊥) → spanned mask s p ≡ stays
  spanned_elsewhere one p h = go (dec_lt p s.first) (ℕ_discrete p s.first)
    where
      go : Dec (p < s.first) → Dec (p ≡ s.first) → spanned mask s p ≡ stays
      go (yes l) d = spanned-before p l
      go (no l) (yes e) = absurd (h e)
      go (no l) (no e) = spanned-past p (omega arith)

  -- where its pixel is not enabled, if one lies there, it does nothing
  pub spanned_disabled : (p : ℕ) → (p - s.first < s.width → s.on (p - s.first) ≡ false) → spanned mask s p ≡ stays
  spanned_disabled p e = go (dec_lt p s.first) (dec_lt p (s.first + s.width))
    where
      go : Dec (p < s.first) → Dec (p < s.first + s.width) → spanned mask s p ≡ stays
      go (yes h) k = spanned-before p h
      go (no h) (yes k) = spanned_in p (p - s.first) (omega arith) (omega arith) ∙ rw (e (omega arith))
      go (no h) (no k) = spanned-past p (omega arith)

  -- so does a span none of whose pixels is enabled
  pub spanned_off : ((j : ℕ) → j < s.width → s.on j ≡ false) → (p : ℕ) → spanned mask s p ≡ stays
  spanned_off e p = spanned_disabled p (e (p - s.first))

-- spans that agree pixel by pixel do the same at each address
pub spanned_same : (mask : ℕ → ℕ) (s t : Span) → s.first ≡ t.first → s.width ≡ t.width → ((j : ℕ) → j < t.width → s.on j ≡ t.on j)
    → ((j : ℕ) → j < t.width → s.takes j ≡ t.takes j) → (p : ℕ) → spanned mask s p ≡ spanned mask t p
spanned_same mask s t ef ew eo et p = go (dec_lt p t.first) (dec_lt p (t.first + t.width))
  where
    at : (j : ℕ) → j < t.width → pixel mask s j ≡ pixel mask t j
    at j h =
        ap₂ (λ (b : Bool) (x : ℕ). cond b (paint (mask (s.first + j)) x) stays) (eo j h) (et j h)
        ∙ ap (λ (a : ℕ). cond (t.on j) (paint (mask (a + j)) (t.takes j)) stays) ef

    go : Dec (p < t.first) → Dec (p < t.first + t.width) → spanned mask s p ≡ spanned mask t p
    go (yes h) k = spanned-before mask s p (omega arith) ∙ sym (spanned-before mask t p h)
    go (no h) (yes k) =
        spanned_in mask s p (p - t.first) (omega arith) (omega arith)
        ∙ (at (p - t.first) (omega arith) ∙ sym (spanned_in mask t p (p - t.first) (omega arith) (omega arith)))
    go (no h) (no k) = spanned-past mask s p (omega arith) ∙ sym (spanned-past mask t p (omega arith))

module _ (s t u : Span) (ef : s.first ≡ u.first) (et : t.first ≡ s.first + s.width) (ew : s.width + t.width ≡ u.width) where
  -- two spans side by side, each of which does what a third across both does there, draw the third
  pub beside_shows : (op : ℕ) (mask : ℕ → ℕ) → ((p : ℕ) → In p s → spanned mask s p ≡ spanned mask u p)
      → ((p : ℕ) → In p t → spanned mask t p ≡ spanned mask u p)
      → (v : List ℕ) → drawn op (spanned mask t) (drawn op (spanned mask s) v) ≡ drawn op (spanned mask u) v
  beside_shows op mask ins int v =
      drawn_is op (spanned mask u) v _ (drawn-length op (spanned mask t) _ ∙ drawn-length op (spanned mask s) v)
      (λ i h.
      drawn_at op (spanned mask t) _ i (rw (drawn-length op (spanned mask s) v) h)
      ∙ (ap (λ (x : ℕ). painted op (spanned mask t i) x) (drawn_at op (spanned mask s) v i h)
      ∙ each i (get_or v i 0) (dec_lt i s.first) (dec_lt i t.first) (dec_lt i (u.first + u.width))))
    where
      join : (i x : ℕ) {f g h : Fragment} → spanned mask t i ≡ g → spanned mask s i ≡ f → spanned mask u i ≡ h
          → painted op g (painted op f x) ≡ painted op h x → painted op (spanned mask t i) (painted op (spanned mask s i) x) ≡ painted op (spanned mask u i) x
      join i x eg es eh p = rw (eg, es, eh) p

      each : (i x : ℕ) → Dec (i < s.first) → Dec (i < t.first) → Dec (i < u.first + u.width)
          → painted op (spanned mask t i) (painted op (spanned mask s i) x) ≡ painted op (spanned mask u i) x
      each i x (yes h) l m = join i x (spanned-before mask t i (omega arith)) (spanned-before mask s i h) (spanned-before mask u i (omega arith)) refl
      each i x (no h) (yes l) m = join i x (spanned-before mask t i l) (ins i (omega arith, omega arith)) refl refl
      each i x (no h) (no l) (yes m) = join i x (int i (omega arith, omega arith)) (spanned-past mask s i (omega arith)) refl refl
      each i x (no h) (no l) (no m) =
          join i x (spanned-past mask t i (omega arith)) (spanned-past mask s i (omega arith)) (spanned-past mask u i (omega arith)) refl

-- and count what it counts, where they enable what it does
pub beside_counts : (s t u : Span) → s.width + t.width ≡ u.width → ((j : ℕ) → j < s.width → s.on j ≡ u.on j)
    → ((j : ℕ) → j < t.width → t.on j ≡ u.on (s.width + j)) → enabled_in s + enabled_in t ≡ enabled_in u
beside_counts s t u e es et =
    ap₂ (λ (a b : ℕ). a + b) (counted_same s.width es) (counted_same t.width et)
    ∙ (sym (counted-append s.width t.width u.on) ∙ ap (λ (a : ℕ). counted a u.on) e)

-- a piece of a span does what the span does there
piece_in : (mask : ℕ → ℕ) (s : Span) (k n i : ℕ) → k + n ≤ s.width → In i (piece k n s) → spanned mask (piece k n s) i ≡ spanned mask s i
piece_in mask s k n i fits h =
    spanned_in mask (piece k n s) i (i - (s.first + k)) (omega (arith, h.0)) (omega (arith, h.0, h.1))
    ∙ (same (omega (arith, h.0)) (omega (arith, h.0)) ∙ sym (spanned_in mask s i (i - s.first) (omega (arith, h.0)) (omega (arith, h.0, h.1))))
  where
    same : s.first + k + (i - (s.first + k)) ≡ s.first + (i - s.first) → k + (i - (s.first + k)) ≡ i - s.first
        → pixel mask (piece k n s) (i - (s.first + k)) ≡ pixel mask s (i - s.first)
    same p q = ap₂ (λ (a j : ℕ). cond (s.on j) (paint (mask a) (s.takes j)) stays) p q

module _ (s : Span) (k n : ℕ) (e : k + n ≡ s.width) where
  -- its first k pixels and then the rest are the whole
  pub cut_shows : (op : ℕ) (mask : ℕ → ℕ) (v : List ℕ)
      → drawn op (spanned mask (piece k n s)) (drawn op (spanned mask (piece 0 k s)) v) ≡ drawn op (spanned mask s) v
  cut_shows op mask v =
      beside_shows (piece 0 k s) (piece k n s) s (omega arith) (omega arith) e op mask (λ i h. piece_in mask s 0 k i (omega arith) h)
      (λ i h. piece_in mask s k n i (omega arith) h) v

  -- and so are their counts
  pub cut_counts : enabled_in (piece 0 k s) + enabled_in (piece k n s) ≡ enabled_in s
  cut_counts =
      beside_counts (piece 0 k s) (piece k n s) s e (λ j h. let z : 0 + j ≡ j = omega arith in ap s.on z) (λ j h. refl)

  -- and so are the pixels that they change
  pub cut_changes : (op : ℕ) (mask : ℕ → ℕ) (v : List ℕ) → let u = drawn op (spanned mask (piece 0 k s)) v in
      differing v u + differing u (drawn op (spanned mask (piece k n s)) u) ≡ differing v (drawn op (spanned mask (piece k n s)) u)
  unfolding drawn_all changed_all
  cut_changes op mask v =
      let u = drawn op (spanned mask (piece 0 k s)) v in
      ap (λ (m : ℕ). differing v u + m) (sym (add-zero (differing u (drawn op (spanned mask (piece k n s)) u))))
      ∙ changed_all_apart op (spanned mask (piece 0 k s) ∷ spanned mask (piece k n s) ∷ []) v (((λ p. go p (dec_lt p (s.first + k))), tt), (tt, tt))
    where
      go : (p : ℕ) → Dec (p < s.first + k) → (spanned mask (piece 0 k s) p ≡ stays) ⊎ (spanned mask (piece k n s) p ≡ stays)
      go p (yes h) = inr (spanned-before mask (piece k n s) p h)
      go p (no h) = inl (spanned-past mask (piece 0 k s) p (omega arith))

-- strokes whose word, bytes and masks are those of a span draw it
pub draws : (s : Strokes) (op : ℕ) (mask : ℕ → ℕ) (p : Span) → s.op ≡ op → s.width ≡ p.width
    → ((j : ℕ) → byte s.mask (j % 8) ≡ mask (p.first + j))
    → ((j : ℕ) → j < p.width → bit s.enable (j % 32) ≡ p.on j)
    → ((j : ℕ) → j < p.width → pattern_byte s.source j ≡ p.takes j)
    → Draws s op mask p
draws s op mask p eo ew em ee et =
    record {
      under = eo;
      wide = ew;
      enables = ee;
      paints = λ j h.
          ap₂ (λ (b : Bool) (x : Fragment). cond b x stays) (ee j h) (ap₂ (λ (m t : ℕ). paint m t) (em j) (et j h));
    }

module _ (s : Strokes) (op : ℕ) (mask : ℕ → ℕ) (p : Span) (d : Draws s op mask p) where
  inside : (j : ℕ) → before s.width (stroke s) j ≡ before p.width (pixel mask p) j
  inside j = go (dec_lt j p.width)
    where
      go : Dec (j < p.width) → before s.width (stroke s) j ≡ before p.width (pixel mask p) j
      go (yes h) =
          before_below s.width (stroke s) (rw d.wide h) ∙ (d.paints j h ∙ sym (before_below p.width (pixel mask p) h))
      go (no h) = before-past s.width (stroke s) (rw d.wide (omega arith)) ∙ sym (before-past p.width (pixel mask p) (omega arith))

  -- the picture that they leave
  draws-picture : (v : List ℕ) → drawn s.op (from p.first (before s.width (stroke s))) v ≡ drawn op (spanned mask p) v
  unfolding spanned
  draws-picture v =
      ap (λ (o : ℕ). drawn o (from p.first (before s.width (stroke s))) v) d.under
      ∙ drawn_same op v (λ a _. at a (dec_lt a p.first))
    where
      at : (a : ℕ) → Dec (a < p.first)
          → from p.first (before s.width (stroke s)) a ≡ from p.first (before p.width (pixel mask p)) a
      at a (yes h) = from_below p.first _ h ∙ sym (from_below p.first _ h)
      at a (no h) =
          from_past p.first _ (omega arith) ∙ (inside (a - p.first) ∙ sym (from_past p.first _ (omega arith)))

  -- and the pixels that they count, where the span lies inside
  draws-count : (n : ℕ) → p.first + p.width ≤ n → counted (min s.width (n - p.first)) (enabled s) ≡ enabled_in p
  draws-count n h =
      let e : min s.width (n - p.first) ≡ p.width = omega (arith, d.wide) in
      ap (λ (k : ℕ). counted k (enabled s)) e ∙ counted_same p.width d.enables

-- what the routine answers of strokes that draw a span inside the picture
pub drew : (s : Strokes) (op : ℕ) (mask : ℕ → ℕ) (p : Span) → Draws s op mask p → (a : ℕ) (v : List ℕ) {r : Tally} {v' : List ℕ} → Drew s a v r v' → a ≡ p.first
    → p.first + p.width ≤ length v → (v' ≡ drawn op (spanned mask p) v) × (r.enabled ≡ enabled_in p) × (r.changed ≡ differing v v')
drew s op mask p d a v e at h = (
  e.shows ∙ (ap (λ (n : ℕ). drawn s.op (from n (before s.width (stroke s))) v) at ∙ draws-picture s op mask p d v),
  e.counts ∙ (ap (λ (n : ℕ). counted (min s.width (length v - n)) (enabled s)) at ∙ draws-count s op mask p d (length v) h),
  e.changes,
)

-- a part from a on, drawn and put back, is the whole drawn from a on
pub put_drawn : (op a : ℕ) (f : ℕ → Fragment) (v ys : List ℕ) → a ≤ length v → ys ≡ drawn op f (take (length v - a) (drop a v))
    → put_mid a (length v - a) v ys ≡ drawn op (from a f) v
put_drawn op a f v ys h e =
    let k : length (drop a v) ≤ length v - a = simp length-drop (omega arith) in
    ap (λ (t : List ℕ). take a v ++ (ys ++ t)) (drop_of_length-le (drop a v) k)
    ∙ (ap (λ (t : List ℕ). take a v ++ t) (append-nil ys ∙ (e ∙ ap (λ (t : List ℕ). drawn op f t) (take_all _ (drop a v) k)))
    ∙ drawn-from op a f v h)

pub part_length : (a : ℕ) (v : List ℕ) → a ≤ length v → length (take (length v - a) (drop a v)) ≡ length v - a
part_length a v h = simp (length-take, length-drop) (omega arith)
