-- Turns of the span routine: a word or a byte is drawn by its entry of the table, and what it changes is counted. `word_byte`, `word-marks`, `word_turn` and
-- `byte_turn` assume bytes.
use mathlib.Core.Path.{◌≡◌, refl, ap, ap₂, sym, ◌∙◌}
use mathlib.Core.Bool.{not}
use mathlib.Core.Logic.{inl, inr}
use mathlib.Core.List.{List}
use Prim.Native.Nat.{ℕ, ◌+◌, ◌-◌, ◌/◌, ◌%◌, ◌≤◌, ◌<◌, min}
use native.Mathlib.Decide.{dec_lt}
use native.Mathlib.Omega.{arith}
use lib.Bits.{bit_and, bit_xor}
use lib.Dec.{eqb}
use lib.ListN.{length, get_or, set, take, drop}
use lib.Seq.{sets, length-sets, get_or-take, get_or-drop, get_or-set_same}
use Rattle.raster.specs.Pixel.{value}
use Rattle.span.specs.Fragments.{Fragment, painted, alters, drawn, before, from, counted, differs, differing, byte, listed}
use Rattle.span.proofs.Bytes.{byte-and, byte-xor}
use Rattle.span.proofs.Changed.{differing-run}
use Rattle.span.proofs.Counted.{counted_same, counted-append}
use Rattle.span.proofs.Listed.{listed_same}
use Rattle.span.proofs.Drawn.{drawn_is, drawn_at, drawn-length, drawn-none, drawn-kept}
use Rattle.span.proofs.Painted.{before_below, before-past, before_same}
use Rattle.words.specs.Words.{joined, Marks}
use Rattle.words.proofs.Joined.{byte-joined}
use Rattle.strokes.specs.Progress.{altered, Further}
use Rattle.strokes.proofs.Stored.{sets_inside, sets_outside}
use Rattle.tables.specs.declared.Table.{Table}
use Rattle.tables.specs.Reduced.{keeps, flips, Makes}
use Rattle.tables.proofs.Reducing.{reduced_painted}

-- a word loaded, masked and flipped, byte by byte; and which bytes it changes, once it is stored
module _ (v : List ℕ) (at old and xor : ℕ) (below : (k : ℕ) → k < 8 → get_or v (at + k) 0 < 256)
    (e : old ≡ joined (listed 8 (λ k. get_or v (at + k) 0))) where
  old_byte : (k : ℕ) → k < 8 → byte old k ≡ get_or v (at + k) 0
  old_byte k h = ap (λ (n : ℕ). byte n k) e ∙ byte-joined 8 (λ j. get_or v (at + j) 0) below k h

  pub word_byte : (k : ℕ) → k < 8 → byte (bit_xor (bit_and old and) xor) k ≡ bit_xor (bit_and (get_or v (at + k) 0) (byte and k)) (byte xor k)
  word_byte k h =
      byte-xor (bit_and old and) xor k
      ∙ ap (λ (n : ℕ). bit_xor n (byte xor k)) (byte-and old and k ∙ ap (λ (n : ℕ). bit_and n (byte and k)) (old_byte k h))

  pub word-marks : {v' : List ℕ} {r : ℕ} → at + 8 ≤ length v → v' ≡ sets v at (listed 8 (byte (bit_xor (bit_and old and) xor)))
      → Marks (λ k. not (eqb (byte (bit_xor (bit_and old and) xor) k) (byte old k))) r → Marks (λ k. differs v v' (at + k)) r
  word-marks {v'} l e' m =
      record {
        marks = m.marks
            ∙ ap joined
            (listed_same 8
            (λ k h.
            let new : byte (bit_xor (bit_and old and) xor) k ≡ get_or v' (at + k) 0
            = sym (ap (λ (u : List ℕ). get_or u (at + k) 0) e' ∙ sets_inside 8 (byte (bit_xor (bit_and old and) xor)) v at k l h)
            in ap₂ (λ (i n : ℕ). value (not (eqb i n))) new (old_byte k h)));
      }

-- n pixels from j on are stored: each is made of the old one, which is that of the picture before anything was drawn
module _ (op j n : ℕ) (f : ℕ → Fragment) (v v' : List ℕ) (g : ℕ → ℕ) (l : j + n ≤ length v) (e' : v' ≡ sets v j (listed n g))
    (q : (k : ℕ) → k < n → g k ≡ painted op (f (j + k)) (get_or v (j + k) 0)) where
  new : (k : ℕ) → k < n → get_or v' (j + k) 0 ≡ painted op (f (j + k)) (get_or v (j + k) 0)
  new k h = ap (λ (u : List ℕ). get_or u (j + k) 0) e' ∙ (sets_inside n g v j k l h ∙ q k h)

  module _ (v₀ : List ℕ) (e : v ≡ drawn op (before j f) v₀) where
    long : length v ≡ length v₀
    long = ap length e ∙ drawn-length op (before j f) v₀

    old : (i : ℕ) → i < length v₀ → j ≤ i → get_or v i 0 ≡ get_or v₀ i 0
    old i h b = ap (λ (u : List ℕ). get_or u i 0) e ∙ drawn-kept op (before j f) v₀ i h (before-past j f b)

    at : (i : ℕ) → i < length v₀ → Dec (i < j) → Dec (i < j + n) → get_or v' i 0 ≡ painted op (before (j + n) f i) (get_or v₀ i 0)
    at i h (yes b) d =
        ap (λ (u : List ℕ). get_or u i 0) e'
        ∙ (sets_outside n g v j i (inl b)
        ∙ (ap (λ (u : List ℕ). get_or u i 0) e
        ∙ (drawn_at op (before j f) v₀ i h
        ∙ ap (λ (x : Fragment). painted op x (get_or v₀ i 0)) (before_same j (j + n) f i (λ _. omega arith) (λ _. omega arith)))))
    at i h (no b) (yes d) =
        let p : j + (i - j) ≡ i = omega arith in
        ap (λ (m : ℕ). get_or v' m 0) (sym p)
        ∙ (new (i - j) (omega arith)
        ∙ (ap (λ (m : ℕ). painted op (f m) (get_or v m 0)) p
        ∙ (ap (λ (o : ℕ). painted op (f i) o) (old i h (omega arith))
        ∙ ap (λ (x : Fragment). painted op x (get_or v₀ i 0)) (sym (before_below (j + n) f d)))))
    at i h (no b) (no d) =
        ap (λ (u : List ℕ). get_or u i 0) e'
        ∙ (sets_outside n g v j i (inr (omega arith))
        ∙ (old i h (omega arith) ∙ ap (λ (x : Fragment). painted op x (get_or v₀ i 0)) (sym (before-past (j + n) f (omega arith)))))

    shown : v' ≡ drawn op (before (j + n) f) v₀
    shown =
        drawn_is op (before (j + n) f) v₀ v' (ap length e' ∙ (length-sets v j (listed n g) ∙ long)) (λ i h. at i h (dec_lt i j) (dec_lt i (j + n)))

    changed : altered op f v₀ j + counted n (λ k. differs v v' (j + k)) ≡ altered op f v₀ (j + n)
    changed =
        ap (λ (m : ℕ). altered op f v₀ j + m)
        (counted_same n
        (λ k h.
        ap (λ (m : ℕ). not (eqb m (get_or v (j + k) 0))) (new k h)
        ∙ ap (λ (o : ℕ). alters op (f (j + k)) o) (old (j + k) (omega (arith, long)) (omega arith))))
        ∙ sym (counted-append j n (λ i. alters op (f i) (get_or v₀ i 0)))

  stored_run : Further op f j (j + n) v (counted n (λ k. differs v v' (j + k))) v'
  stored_run = record { shows = shown; changes = changed }

-- ---- Turns one after the other.

module _ {op : ℕ} {f : ℕ → Fragment} {m n r : ℕ} {u u' : List ℕ} (first : Further op f m n u r u') where
  -- the same, with other names
  pub further_as : {m' n' r' : ℕ} → m ≡ m' → n ≡ n' → r ≡ r' → Further op f m' n' u r' u'
  further_as em en er =
      record {
        shows = λ v e. first.shows v (e ∙ ap (λ (k : ℕ). drawn op (before k f) v) (sym em)) ∙ ap (λ (k : ℕ). drawn op (before k f) v) en;
        changes = λ v e.
            ap₂ (λ (k s : ℕ). altered op f v k + s) (sym em) (sym er)
            ∙ (first.changes v (e ∙ ap (λ (k : ℕ). drawn op (before k f) v) (sym em)) ∙ ap (λ (k : ℕ). altered op f v k) en);
      }

  pub further_then : {k s : ℕ} {u'' : List ℕ} → Further op f n k u' s u'' → Further op f m k u (r + s) u''
  further_then next =
      record {
        shows = λ v e. next.shows v (first.shows v e);
        changes = λ v e. omega (arith, first.changes v e, next.changes v (first.shows v e));
      }

pub further_none : (op : ℕ) (f : ℕ → Fragment) (m : ℕ) (u : List ℕ) → Further op f m m u 0 u
further_none op f m u = record { shows = λ v e. e; changes = λ v e. omega arith }

-- ---- A word or a byte.

module _ (op : ℕ) (f : ℕ → Fragment) where
  -- word g of the pattern, at a multiple of 8
  pub word_turn : (t : Table) → Makes t op f → (j g : ℕ) (v : List ℕ) {v' : List ℕ} → j % 8 ≡ 0 → j / 8 % 4 ≡ g
      → v' ≡ sets v j (listed 8 (λ k. bit_xor (bit_and (get_or v (j + k) 0) (byte (get_or t.and g 0) k)) (byte (get_or t.xor g 0) k)))
      → ((i : ℕ) → get_or v i 0 < 256) → j + 8 ≤ length v
      → Further op f j (j + 8) v (counted 8 (λ k. differs v v' (j + k))) v'
  word_turn t m j g v {v'} e8 eg e' below l = stored_run op j 8 f v v' _ l e' each
    where
      each : (k : ℕ) → k < 8
          → bit_xor (bit_and (get_or v (j + k) 0) (byte (get_or t.and g 0) k)) (byte (get_or t.xor g 0) k) ≡ painted op (f (j + k)) (get_or v (j + k) 0)
      each k h =
          let p : (j + k) / 8 % 4 ≡ g = omega arith in
          let q : (j + k) % 8 ≡ k = omega arith in
          ap₂ (λ (a x : ℕ). bit_xor (bit_and (get_or v (j + k) 0) a) x)
          (ap₂ (λ (n i : ℕ). byte (get_or t.and n 0) i) (sym p) (sym q) ∙ m.and (j + k))
          (ap₂ (λ (n i : ℕ). byte (get_or t.xor n 0) i) (sym p) (sym q) ∙ m.xor (j + k))
          ∙ reduced_painted op (f (j + k)) (get_or v (j + k) 0) (below (j + k))

  -- one byte
  pub byte_turn : (j a x : ℕ) {v : List ℕ} → j < length v → get_or v j 0 < 256 → a ≡ keeps op (f j) → x ≡ flips op (f j)
      → Further op f j (j + 1) v (value (not (eqb (bit_xor (bit_and (get_or v j 0) a) x) (get_or v j 0)))) (set v j (bit_xor (bit_and (get_or v j 0) a) x))
  unfolding listed counted
  byte_turn j a x {v} b below ea ex =
      let new : ℕ = bit_xor (bit_and (get_or v j 0) a) x in
      let z : j + 0 ≡ j = omega arith in
      let one : new ≡ painted op (f j) (get_or v j 0)
      = ap₂ (λ (m n : ℕ). bit_xor (bit_and (get_or v j 0) m) n) ea ex ∙ reduced_painted op (f j) (get_or v j 0) below
      in
      let put : get_or (set v j new) j 0 ≡ new = get_or-set_same v j new 0 b in
      further_as (stored_run op j 1 f v (set v j new) (λ k. new) (omega arith) refl
      (λ k h. let y : j ≡ j + k = omega arith in one ∙ ap (λ (i : ℕ). painted op (f i) (get_or v i 0)) y))
      refl refl (rw (z, put) (omega arith))

-- ---- The whole.

-- from the first pixel on
module _ {op : ℕ} {f : ℕ → Fragment} {n r : ℕ} {u u' : List ℕ} (all : Further op f 0 n u r u') where
  begun : u ≡ drawn op (before 0 f) u
  begun = sym (drawn-none op (before 0 f) u (λ p _. before-past 0 f (omega arith)))

  pub further_shows : u' ≡ drawn op (before n f) u
  further_shows = all.shows u begun

  pub further_changes : r ≡ altered op f u n
  unfolding counted
  further_changes = omega (arith, all.changes u begun)

-- what is changed in the part that starts at a is changed in the whole
pub part_changes : (op a n k : ℕ) (f : ℕ → Fragment) (v : List ℕ) → k ≡ min n (length v - a)
    → altered op f (take (length v - a) (drop a v)) k ≡ differing v (drawn op (from a (before n f)) v)
part_changes op a n k f v e =
    ap (λ (m : ℕ). altered op f (take (length v - a) (drop a v)) m) e
    ∙ (counted_same (min n (length v - a))
    (λ j h. ap (λ (o : ℕ). alters op (f j) o) (get_or-take (length v - a) (drop a v) j 0 (omega arith) ∙ get_or-drop a v j 0))
    ∙ sym (differing-run op a n f v))
