-- How many pixels change: two pictures compared, a span drawn, and any list of layers. Where 5 and restoring come in, the pictures are of bytes (`Bytes`).
use mathlib.Core.Path.{◌≡◌, refl, ap, ap₂, sym, ◌∙◌}
use mathlib.Core.Bool.{Bool, true, false, not, cond, false≢true}
use mathlib.Core.List.{List, [], ◌∷◌, map}
use mathlib.Core.Logic.{◌⊎◌, inl, inr, ⊎_elim}
use Prim.Native.Nat.{ℕ, ◌+◌, ◌-◌, ◌≤◌, ◌<◌, min}
use native.Mathlib.Decide.{dec_lt, ℕ_discrete}
use native.Mathlib.Omega.{arith}
use lib.Dec.{eqb}
use lib.ListN.{length, get_or}
use lib.Seq.{ext_get_or}
use borrow.Author.Tests.{eq-eqb, ne_eqb}
use Rattle.raster.specs.Pixel.{bit, value, result, made}
use Rattle.raster.proofs.Bits.{same_bits}
use Rattle.raster.proofs.Made.{made-bit, made_below}
use Rattle.span.specs.Fragments.{Fragment, stays, paint, alters, drawn, before, from, counted, differs, differing, Bytes}
use Rattle.span.specs.Layers.{drawn_all, changed_all, Apart, summed}
use Rattle.span.specs.Spans.{Span, pixel, spanned, enabled_in}
use Rattle.span.proofs.Counted.{counted_same, counted_none, counted-zero, counted-append, counted-within, counted_sum, value_le}
use Rattle.span.proofs.Drawn.{drawn_at, drawn-length, drawn-kept, drawn_five, drawn_op, drawn-bytes}
use Rattle.span.proofs.Layers.{Restores, result_twice, each_map, drawn_all-kept}
use Rattle.span.proofs.Painted.{before_below, before-past, from_below, from_past}

-- ---- Two pictures compared.

same_not : (n : ℕ) → not (eqb n n) ≡ false
same_not n = rw (eq-eqb n n refl)

-- a picture and itself
pub differing-none : (v : List ℕ) → differing v v ≡ 0
unfolding differing
differing-none v = counted_none (length v) (differs v v) (λ p h. same_not (get_or v p 0))

-- where no pixel differs they are one
differing-zero : (v v' : List ℕ) → length v' ≡ length v → differing v v' ≡ 0 → v' ≡ v
unfolding differing
differing-zero v v' l e = ext_get_or 0 v' v l (λ i h. go i (omega arith) (ℕ_discrete (get_or v' i 0) (get_or v i 0)))
  where
    go : (i : ℕ) → i < length v → Dec (get_or v' i 0 ≡ get_or v i 0) → get_or v' i 0 ≡ get_or v i 0
    go i h (yes q) = q
    go i h (no q) =
        let n : not (eqb (get_or v' i 0) (get_or v i 0)) ≡ true = rw (ne_eqb _ _ q) in
        absurd (false≢true (sym (counted-zero (length v) (differs v v') e i h) ∙ n))

-- in two steps, of which at most one changes a pixel
differing_then : (v u w : List ℕ) → length u ≡ length v
    → ((i : ℕ) → i < length v → (get_or u i 0 ≡ get_or v i 0) ⊎ (get_or w i 0 ≡ get_or u i 0)) → differing v u + differing u w ≡ differing v w
unfolding differing
differing_then v u w l e =
    ap (λ (n : ℕ). counted (length v) (differs v u) + counted n (differs u w)) l
    ∙ counted_sum (length v) (differs v u) (differs u w) (differs v w) (λ i h. one (get_or v i 0) (get_or u i 0) (get_or w i 0) (e i h))
  where
    one : (a b c : ℕ) → (b ≡ a) ⊎ (c ≡ b) → value (not (eqb b a)) + value (not (eqb c b)) ≡ value (not (eqb c a))
    one a b c (inl q) = rw (q, eq-eqb a a refl) (omega arith)
    one a b c (inr q) = rw (q, eq-eqb b b refl) (omega arith)

-- ---- One layer.

alters_not : (op old : ℕ) {x : Fragment} → x ≡ stays → alters op x old ≡ false
alters_not op old e = ap (λ (x : Fragment). alters op x old) e ∙ same_not old

-- a picture and what was drawn on it, address by address
differing-drawn : (op : ℕ) (f : ℕ → Fragment) (v : List ℕ) → differing v (drawn op f v) ≡ counted (length v) (λ p. alters op (f p) (get_or v p 0))
unfolding differing
differing-drawn op f v =
    counted_same (length v) (λ p h. ap (λ (n : ℕ). not (eqb n (get_or v p 0))) (drawn_at op f v p h))

-- n fragments from address a on: those within the picture
pub differing-run : (op a n : ℕ) (f : ℕ → Fragment) (v : List ℕ)
    → differing v (drawn op (from a (before n f)) v) ≡ counted (min n (length v - a)) (λ j. alters op (f j) (get_or v (a + j) 0))
unfolding counted
differing-run op a n f v = differing-drawn op (from a (before n f)) v ∙ go (dec_lt (length v) a)
  where
    at : ℕ → Bool
    at p = alters op (from a (before n f) p) (get_or v p 0)

    below : (k : ℕ) → k ≤ a → counted k at ≡ 0
    below k h = counted_none k at (λ p l. alters_not op (get_or v p 0) (from_below a (before n f) (omega arith)))

    go : Dec (length v < a) → counted (length v) at ≡ counted (min n (length v - a)) (λ j. alters op (f j) (get_or v (a + j) 0))
    go (yes h) =
        let z : 0 ≡ min n (length v - a) = omega arith in
        below (length v) (omega arith) ∙ ap (λ (k : ℕ). counted k (λ j. alters op (f j) (get_or v (a + j) 0))) z
    go (no h) =
        let k : ℕ = min n (length v - a) in
        let rest : ℕ = length v - a - k in
        let long : length v ≡ a + (k + rest) = omega arith in
        let shift : (j : ℕ) → a + j - a ≡ j = λ j. omega arith in
        let inside : counted k (λ j. at (a + j)) ≡ counted k (λ j. alters op (f j) (get_or v (a + j) 0))
        = counted_same k
        (λ j l.
        ap (λ (x : Fragment). alters op x (get_or v (a + j) 0))
        (from_past a (before n f) (omega arith) ∙ (ap (λ (i : ℕ). before n f i) (shift j) ∙ before_below n f (omega arith))))
        in
        let past : counted rest (λ j. at (a + (k + j))) ≡ 0
        = counted_none rest (λ j. at (a + (k + j)))
        (λ j l.
        alters_not op (get_or v (a + (k + j)) 0)
        (from_past a (before n f) (omega arith) ∙ (ap (λ (i : ℕ). before n f i) (shift (k + j)) ∙ before-past n f (omega arith))))
        in
        ap (λ (m : ℕ). counted m at) long
        ∙ omega (arith, counted-append a (k + rest) at, below a (omega arith), counted-append k rest (λ j. at (a + j)), inside, past)

-- a span changes no more pixels than it enables
pub differing-within : (op : ℕ) (mask : ℕ → ℕ) (s : Span) (v : List ℕ) → differing v (drawn op (spanned mask s) v) ≤ enabled_in s
unfolding spanned
differing-within op mask s v =
    let k : ℕ = min s.width (length v - s.first) in
    let w : s.width ≡ k + (s.width - k) = omega arith in
    let more : enabled_in s ≡ counted k s.on + counted (s.width - k) (λ j. s.on (k + j))
    = ap (λ (n : ℕ). counted n s.on) w ∙ counted-append k (s.width - k) s.on
    in
    omega (
      arith,
      differing-run op s.first s.width (pixel mask s) v,
      counted-within k (λ j. alters op (pixel mask s j) (get_or v (s.first + j) 0)) s.on
          (λ j h. one (s.on j) (mask (s.first + j)) (s.takes j) (get_or v (s.first + j) 0)),
      more,
    )
  where
    one : (b : Bool) (m t old : ℕ) → value (alters op (cond b (paint m t) stays) old) ≤ value b
    one true m t old = value_le (alters op (paint m t) old)
    one false m t old = rw (same_not old) (omega arith)

-- ---- Any list of layers.

-- spans change no more pixels than they enable
pub changed_all-within : (op : ℕ) (mask : ℕ → ℕ) (ss : List Span) (v : List ℕ) → changed_all op (map (spanned mask) ss) v ≤ summed enabled_in ss
unfolding changed_all
changed_all-within op mask [] v = omega arith
changed_all-within op mask (s ∷ ss) v =
    omega (arith, differing-within op mask s v, changed_all-within op mask ss (drawn op (spanned mask s) v))

-- where none is changed the picture stays
pub changed_all-zero : (op : ℕ) (fs : List (ℕ → Fragment)) (v : List ℕ) → changed_all op fs v ≡ 0 → drawn_all op fs v ≡ v
unfolding drawn_all changed_all
changed_all-zero op [] v e = refl
changed_all-zero op (f ∷ fs) v e =
    changed_all-zero op fs (drawn op f v) (omega arith) ∙ differing-zero v (drawn op f v) (drawn-length op f v) (omega arith)

-- layers that lie apart: the pixels that differ between the picture before and the picture after all of them
pub changed_all_apart : (op : ℕ) (fs : List (ℕ → Fragment)) (v : List ℕ) → Apart fs → changed_all op fs v ≡ differing v (drawn_all op fs v)
unfolding drawn_all changed_all
changed_all_apart op [] v a = sym (differing-none v)
changed_all_apart op (f ∷ fs) v (a, rest) =
    ap (λ (n : ℕ). differing v (drawn op f v) + n) (changed_all_apart op fs (drawn op f v) rest)
    ∙ differing_then v (drawn op f v) (drawn_all op fs (drawn op f v)) (drawn-length op f v) (λ i h. go i h (f i) refl)
  where
    painting : Fragment → Bool
    painting stays = false
    painting (paint m s) = true

    go : (i : ℕ) → i < length v → (x : Fragment) → f i ≡ x
        → (get_or (drawn op f v) i 0 ≡ get_or v i 0) ⊎ (get_or (drawn_all op fs (drawn op f v)) i 0 ≡ get_or (drawn op f v) i 0)
    go i h stays e = inl (drawn-kept op f v i h e)
    go i h (paint m s) e =
        inr
        (drawn_all-kept op fs (drawn op f v) i (rw (drawn-length op f v) h)
        (each_map fs (λ g q. ⊎_elim (λ y. absurd (false≢true (sym (ap painting y) ∙ ap painting e))) (λ z. z) (q i)) a))

-- operations that give the same bits change the same
pub changed_all_op : (a b : ℕ) (fs : List (ℕ → Fragment)) (v : List ℕ) → ((s d : Bool) → result a s d ≡ result b s d)
    → changed_all a fs v ≡ changed_all b fs v
unfolding changed_all
changed_all_op a b [] v e = refl
changed_all_op a b (f ∷ fs) v e =
    ap (λ (n : ℕ). differing v (drawn a f v) + n) (changed_all_op a b fs (drawn a f v) e)
    ∙ ap (λ (u : List ℕ). differing v u + changed_all b fs u) (drawn_op a b f v e)

-- 5 is no operation
pub changed_all_five : (fs : List (ℕ → Fragment)) (v : List ℕ) → Bytes v → changed_all 5 fs v ≡ 0
unfolding changed_all
changed_all_five [] v b = refl
changed_all_five (f ∷ fs) v b =
    ap (λ (u : List ℕ). differing v u + changed_all 5 fs u) (drawn_five f v b) ∙ omega (arith, differing-none v, changed_all_five fs v b)

-- ---- An operation that restores: what it changes does not depend on the picture.

-- a bit that undoes itself and leaves one bit leaves the other
fixed : (g : Bool → Bool) → ((d : Bool) → g (g d) ≡ d) → (d c : Bool) → g d ≡ d → g c ≡ c
fixed g e true true q = q
fixed g e false false q = q
fixed g e true false q = other (g false) refl
  where
    other : (b : Bool) → g false ≡ b → g false ≡ false
    other true r = absurd (false≢true (sym (e false) ∙ (ap g r ∙ q)))
    other false r = r
fixed g e false true q = other (g true) refl
  where
    other : (b : Bool) → g true ≡ b → g true ≡ true
    other true r = r
    other false r = absurd (false≢true (sym (ap g r ∙ q) ∙ e true))

module _ (op : ℕ) (r : Restores op) where
  kept : (m s a b : ℕ) → b < 256 → made 8 op m s a ≡ a → made 8 op m s b ≡ b
  kept m s a b h q =
      same_bits 8 _ _ (made_below 8 op m s b) h
      (λ k l. made-bit 8 op m s b k l ∙ pick (bit m k) (bit s k) (bit a k) (bit b k) (sym (made-bit 8 op m s a k l) ∙ ap (λ (n : ℕ). bit n k) q))
    where
      pick : (p t d c : Bool) → cond p (result op t d) d ≡ d → cond p (result op t c) c ≡ c
      pick true t d c e = fixed (result op t) (result_twice op r t) d c e
      pick false t d c e = refl

  alters_alike : (x : Fragment) (a b : ℕ) → a < 256 → b < 256 → alters op x a ≡ alters op x b
  alters_alike stays a b ha hb = same_not a ∙ sym (same_not b)
  alters_alike (paint m s) a b ha hb = go (ℕ_discrete (made 8 op m s a) a)
    where
      go : Dec (made 8 op m s a ≡ a) → alters op (paint m s) a ≡ alters op (paint m s) b
      go (yes q) = rw (eq-eqb _ _ q, eq-eqb _ _ (kept m s a b hb q))
      go (no q) = rw (ne_eqb _ _ q, ne_eqb _ _ (λ e. q (kept m s b a ha e)))

  -- on any two pictures of one length
  pub changed_all_alike : (fs : List (ℕ → Fragment)) (v u : List ℕ) → length u ≡ length v → Bytes v → Bytes u → changed_all op fs u ≡ changed_all op fs v
  unfolding changed_all
  changed_all_alike [] v u l bv bu = refl
  changed_all_alike (f ∷ fs) v u l bv bu =
      ap₂ (λ (m n : ℕ). m + n)
      (differing-drawn op f u
      ∙ (ap (λ (n : ℕ). counted n (λ p. alters op (f p) (get_or u p 0))) l
      ∙ (counted_same (length v) (λ p h. alters_alike (f p) (get_or u p 0) (get_or v p 0) (bu p (omega arith)) (bv p h)) ∙ sym (differing-drawn op f v))))
      (changed_all_alike fs (drawn op f v) (drawn op f u) (drawn-length op f u ∙ (l ∙ sym (drawn-length op f v))) (drawn-bytes op f v bv) (drawn-bytes op f u bu))
