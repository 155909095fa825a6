-- Pixels changed, counted by the marks of words: one word, and the four of a pattern; and the pattern drawn. `once_turn` assumes bytes, and room for them.
use mathlib.Core.Path.{◌≡◌, refl, ap, sym, ◌∙◌}
use mathlib.Core.Bool.{Bool, true, false}
use mathlib.Core.List.{List}
use Prim.Native.Nat.{ℕ, zero, suc, ◌+◌, ◌*◌, ◌^◌, ◌≤◌, ◌<◌}
use native.Mathlib.Omega.{arith}
use lib.Bits.{bit_and, bit_xor}
use lib.Count.{ones, ones_cat}
use lib.ListN.{length, get_or}
use lib.Seq.{sets, length-sets}
use Rattle.raster.specs.Pixel.{value}
use Rattle.span.specs.Fragments.{Fragment, byte, listed, counted, differs}
use Rattle.span.proofs.Counted.{counted_le, value_le}
use Rattle.words.specs.Words.{joined, added, Marks}
use Rattle.words.proofs.Joined.{joined_add, added_add, added-counted}
use Rattle.tables.specs.declared.Table.{Table}
use Rattle.tables.specs.Reduced.{Makes}
use Rattle.strokes.specs.Progress.{Further}
use Rattle.strokes.proofs.Turns.{word_turn, further_as, further_then}

pub marks_small : {f : ℕ → Bool} {w : ℕ} → Marks f w → w ≤ 0x0101010101010101
unfolding joined listed
marks_small {f} e =
    omega (
      arith,
      e.marks,
      value_le (f 0),
      value_le (f 1),
      value_le (f 2),
      value_le (f 3),
      value_le (f 4),
      value_le (f 5),
      value_le (f 6),
      value_le (f 7),
    )

-- r is the sum of the bytes of w
abbrev Totals : ℕ → ℕ → Type 0
Totals w r = (f : ℕ → ℕ) → w ≡ joined (listed 8 f) → added (listed 8 f) < 256 → r ≡ added (listed 8 f)

-- one word
digit : (b : Bool) → ones (value b) ≡ value b
unfolding ones
digit true = refl
digit false = refl

marks-ones : (n : ℕ) (f : ℕ → Bool) → ones (joined (listed n (λ k. value (f k)))) ≡ added (listed n (λ k. value (f k)))
unfolding joined listed added ones
marks-ones zero f = refl
marks-ones (suc n) f =
    let above : ℕ = joined (listed n (λ k. value (f (suc k)))) in
    let e : value (f 0) + 256 * above ≡ above * 2 ^ 8 + value (f 0) = omega arith in
    ap ones e ∙ (ones_cat 8 above (value (f 0)) (omega (arith, value_le (f 0))) ∙ omega (arith, digit (f 0), marks-ones n (λ k. f (suc k))))

pub one_word : {f : ℕ → Bool} {w r : ℕ} → Marks f w → r ≡ ones w → (r ≡ counted 8 f) × (r ≤ 8)
one_word {f} {w} {r} m t =
    let e : r ≡ counted 8 f = t ∙ (ap ones m.marks ∙ (marks-ones 8 f ∙ added-counted 8 f)) in
    (e, omega (arith, e, counted_le 8 f))

-- four words, whose marks are added first
four_words : {f g h i : ℕ → Bool} {a b c d r : ℕ} → Marks f a → Marks g b → Marks h c → Marks i d → Totals (a + b + c + d) r
    → r ≡ counted 8 f + counted 8 g + counted 8 h + counted 8 i
four_words {f} {g} {h} {i} {a} {b} {c} {d} ea eb ec ed t =
    let sum : ℕ → ℕ = λ k. value (f k) + value (g k) + value (h k) + value (i k) in
    let joins : a + b + c + d ≡ joined (listed 8 sum)
    = omega (
      arith,
      ea.marks,
      eb.marks,
      ec.marks,
      ed.marks,
      joined_add 8 (λ k. value (f k)) (λ k. value (g k)),
      joined_add 8 (λ k. value (f k) + value (g k)) (λ k. value (h k)),
      joined_add 8 (λ k. value (f k) + value (g k) + value (h k)) (λ k. value (i k)),
    )
    in
    let adds : added (listed 8 sum) ≡ counted 8 f + counted 8 g + counted 8 h + counted 8 i
    = omega (
      arith,
      added_add 8 (λ k. value (f k)) (λ k. value (g k)),
      added_add 8 (λ k. value (f k) + value (g k)) (λ k. value (h k)),
      added_add 8 (λ k. value (f k) + value (g k) + value (h k)) (λ k. value (i k)),
      added-counted 8 f,
      added-counted 8 g,
      added-counted 8 h,
      added-counted 8 i,
    )
    in
    t sum joins (omega (arith, adds, counted_le 8 f, counted_le 8 g, counted_le 8 h, counted_le 8 i)) ∙ adds

-- a word drawn by entry g of the table, from pixel j on: what `strokes::word` promises
abbrev Stored : Table → ℕ → ℕ → List ℕ → ℕ → List ℕ → Type 0
Stored t g j u m u' =
    (u' ≡ sets u j (listed 8 (λ k. bit_xor (bit_and (get_or u (j + k) 0) (byte (get_or t.and g 0) k)) (byte (get_or t.xor g 0) k))))
    × Marks (λ k. differs u u' (j + k)) m

stored_length : (t : Table) (g j : ℕ) (u : List ℕ) {u' : List ℕ} {m : ℕ} → Stored t g j u m u' → length u' ≡ length u
stored_length t g j u e = ap length e.0 ∙ length-sets u j (listed 8 (λ k. bit_xor (bit_and (get_or u (j + k) 0) (byte (get_or t.and g 0) k)) (byte (get_or t.xor g 0) k)))

-- the four words of a pattern, drawn one after the other from the first pixel on, and their marks added up
pub once_turn : (t : Table) (u v w x : List ℕ) {y : List ℕ} {a b c d r : ℕ} → Stored t 0 0 u a v → Stored t 1 8 v b w → Stored t 2 16 w c x → Stored t 3 24 x d y
    → Totals (a + b + c + d) r → ((i : ℕ) → get_or u i 0 < 256) → ((i : ℕ) → get_or v i 0 < 256) → ((i : ℕ) → get_or w i 0 < 256) → ((i : ℕ) → get_or x i 0 < 256)
    → 32 ≤ length u → (op : ℕ) (f : ℕ → Fragment) → Makes t op f → Further op f 0 32 u r y
once_turn t u v w x first second third fourth sums bu bv bw bx l op f m =
    let lv : length v ≡ length u = stored_length t 0 0 u first in
    let lw : length w ≡ length v = stored_length t 1 8 v second in
    let lx : length x ≡ length w = stored_length t 2 16 w third in
    let one = word_turn op f t m 0 0 u refl refl first.0 bu (omega arith) in
    let two = word_turn op f t m 8 1 v refl refl second.0 bv (omega arith) in
    let three = word_turn op f t m 16 2 w refl refl third.0 bw (omega arith) in
    let four = word_turn op f t m 24 3 x refl refl fourth.0 bx (omega arith) in
    further_as (further_then (further_then (further_then one two) three) four) refl refl (sym (four_words first.1 second.1 third.1 fourth.1 sums))
