-- The picture after any fragments at all: each law once, for every mode. `drawn_five` and `drawn_restores` assume a picture of bytes (`Bytes`).
use mathlib.Core.Path.{◌≡◌, refl, ap, ap₂, sym, ◌∙◌}
use mathlib.Core.Bool.{Bool, false}
use mathlib.Core.List.{List, [], ◌∷◌, ◌++◌}
use Prim.Native.Nat.{ℕ, zero, suc, ◌-◌, ◌≤◌, ◌<◌, min}
use native.Mathlib.Nat.{le_of_suc-le-suc, not-suc-le-zero}
use native.Mathlib.Decide.{dec_lt}
use native.Mathlib.Omega.{arith}
use lib.ListN.{length, get_or, take, drop, length-append, length-drop, get_or-append}
use lib.Seq.{ext_get_or, get_or-take, get_or-drop, get_or-append-add, length-take-le}
use Rattle.raster.specs.Pixel.{bit, result, composite}
use Rattle.raster.proofs.Made.{made-outside}
use Rattle.span.specs.Fragments.{Fragment, stays, paint, painted, drawn, before, from, Bytes}
use Rattle.span.proofs.Painted.{before_same, from_below, from_past, painted_then, painted_five, painted_plane, painted_op, painted_below}

pub drawn-length : (op : ℕ) (f : ℕ → Fragment) (v : List ℕ) → length (drawn op f v) ≡ length v
unfolding drawn
drawn-length op f [] = refl
drawn-length op f (x ∷ v) = ap suc (drawn-length op (λ p. f (suc p)) v)

-- byte i of the new picture
pub drawn_at : (op : ℕ) (f : ℕ → Fragment) (v : List ℕ) (i : ℕ) → i < length v → get_or (drawn op f v) i 0 ≡ painted op (f i) (get_or v i 0)
unfolding drawn
drawn_at op f [] i h = absurd (not-suc-le-zero h)
drawn_at op f (x ∷ v) zero h = refl
drawn_at op f (x ∷ v) (suc i) h = drawn_at op (λ p. f (suc p)) v i (le_of_suc-le-suc h)

-- a picture of that length with those bytes is the new picture
pub drawn_is : (op : ℕ) (f : ℕ → Fragment) (v w : List ℕ) → length w ≡ length v
    → ((i : ℕ) → i < length v → get_or w i 0 ≡ painted op (f i) (get_or v i 0)) → w ≡ drawn op f v
drawn_is op f v w l e =
    ext_get_or 0 w (drawn op f v) (l ∙ sym (drawn-length op f v))
    (λ i h. let b : i < length v = omega arith in e i b ∙ sym (drawn_at op f v i b))

-- only the fragments within the picture count
pub drawn_same : (op : ℕ) {f g : ℕ → Fragment} (v : List ℕ) → ((p : ℕ) → p < length v → f p ≡ g p) → drawn op f v ≡ drawn op g v
drawn_same op {f} {g} v e =
    drawn_is op g v (drawn op f v) (drawn-length op f v)
    (λ i h. drawn_at op f v i h ∙ ap (λ (x : Fragment). painted op x (get_or v i 0)) (e i h))

-- no fragment, no change
pub drawn-none : (op : ℕ) (f : ℕ → Fragment) (v : List ℕ) → ((p : ℕ) → p < length v → f p ≡ stays) → drawn op f v ≡ v
drawn-none op f v e = sym (drawn_is op f v v refl (λ i h. sym (ap (λ (x : Fragment). painted op x (get_or v i 0)) (e i h))))

-- drawn into the part that starts at a is drawn from a on
pub drawn-from : (op a : ℕ) (f : ℕ → Fragment) (v : List ℕ) → a ≤ length v → take a v ++ drawn op f (drop a v) ≡ drawn op (from a f) v
drawn-from op a f v h =
    drawn_is op (from a f) v (take a v ++ drawn op f (drop a v))
    (simp (length-append, drawn-length, length-drop, length-take-le a v h) (omega arith))
    (λ i l. each i l (dec_lt i a))
  where
    each : (i : ℕ) → i < length v → Dec (i < a) → get_or (take a v ++ drawn op f (drop a v)) i 0 ≡ painted op (from a f i) (get_or v i 0)
    each i l (yes b) =
        get_or-append (take a v) (drawn op f (drop a v)) 0 i (omega (arith, length-take-le a v h))
        ∙ (get_or-take a v i 0 b ∙ ap (λ (x : Fragment). painted op x (get_or v i 0)) (sym (from_below a f b)))
    each i l (no n) =
        ap (λ (j : ℕ). get_or (take a v ++ drawn op f (drop a v)) j 0) (omega (arith, length-take-le a v h))
        ∙ (get_or-append-add (take a v) (drawn op f (drop a v)) (i - a) 0
        ∙ (drawn_at op f (drop a v) (i - a) (simp length-drop (omega arith))
        ∙ ap₂ (λ (x : Fragment) (old : ℕ). painted op x old) (sym (from_past a f (omega arith)))
        (get_or-drop a v (i - a) 0 ∙ ap (λ (j : ℕ). get_or v j 0) (omega arith))))

-- what lies past the end does not count
pub drawn_before_min : (op n : ℕ) (f : ℕ → Fragment) (v : List ℕ) → drawn op (before (min n (length v)) f) v ≡ drawn op (before n f) v
drawn_before_min op n f v = drawn_same op v (λ p l. before_same (min n (length v)) n f p (λ b. omega arith) (λ b. omega arith))

-- drawn with a, then with b, is drawn with the composite
pub drawn_then : (a b : ℕ) (f : ℕ → Fragment) (v : List ℕ) → drawn b f (drawn a f v) ≡ drawn (composite a b) f v
drawn_then a b f v =
    drawn_is (composite a b) f v (drawn b f (drawn a f v)) (simp drawn-length)
    (λ i h.
    drawn_at b f (drawn a f v) i (simp drawn-length h)
    ∙ (ap (λ (old : ℕ). painted b (f i) old) (drawn_at a f v i h) ∙ painted_then a b (f i) (get_or v i 0)))

-- 5 is no operation
pub drawn_five : (f : ℕ → Fragment) (v : List ℕ) → Bytes v → drawn 5 f v ≡ v
drawn_five f v bytes = sym (drawn_is 5 f v v refl (λ i h. sym (painted_five (f i) (get_or v i 0) (bytes i h))))

-- an operation whose composite with itself is 5 restores the picture when it is drawn twice
pub drawn_restores : (op : ℕ) (f : ℕ → Fragment) (v : List ℕ) → composite op op ≡ 5 → Bytes v → drawn op f (drawn op f v) ≡ v
drawn_restores op f v e bytes = drawn_then op op f v ∙ (ap (λ (a : ℕ). drawn a f v) e ∙ drawn_five f v bytes)

-- where there is no fragment the byte stays
pub drawn-kept : (op : ℕ) (f : ℕ → Fragment) (v : List ℕ) (i : ℕ) → i < length v → f i ≡ stays → get_or (drawn op f v) i 0 ≡ get_or v i 0
drawn-kept op f v i h e = drawn_at op f v i h ∙ ap (λ (x : Fragment). painted op x (get_or v i 0)) e

-- outside the mask the bit stays
pub drawn-outside : (op : ℕ) (f : ℕ → Fragment) (v : List ℕ) (i mask source k : ℕ) → i < length v → f i ≡ paint mask source → k < 8
    → bit mask k ≡ false → bit (get_or (drawn op f v) i 0) k ≡ bit (get_or v i 0) k
drawn-outside op f v i mask source k h e hk out =
    ap (λ (n : ℕ). bit n k) (drawn_at op f v i h ∙ ap (λ (x : Fragment). painted op x (get_or v i 0)) e)
    ∙ made-outside 8 op mask source (get_or v i 0) k hk out

-- plane k of the new picture depends on plane k of the old picture alone
pub drawn_plane : (op : ℕ) (f : ℕ → Fragment) (v v' : List ℕ) (i k : ℕ) → length v ≡ length v' → i < length v → k < 8
    → bit (get_or v i 0) k ≡ bit (get_or v' i 0) k → bit (get_or (drawn op f v) i 0) k ≡ bit (get_or (drawn op f v') i 0) k
drawn_plane op f v v' i k l h hk e =
    ap (λ (n : ℕ). bit n k) (drawn_at op f v i h)
    ∙ (painted_plane op (f i) (get_or v i 0) (get_or v' i 0) k hk e ∙ ap (λ (n : ℕ). bit n k) (sym (drawn_at op f v' i (omega arith))))

-- operations that give the same bits draw the same
pub drawn_op : (a b : ℕ) (f : ℕ → Fragment) (v : List ℕ) → ((s d : Bool) → result a s d ≡ result b s d) → drawn a f v ≡ drawn b f v
drawn_op a b f v e =
    drawn_is b f v (drawn a f v) (drawn-length a f v) (λ i h. drawn_at a f v i h ∙ painted_op a b e (f i) (get_or v i 0))

-- a picture of bytes stays one
pub drawn-bytes : (op : ℕ) (f : ℕ → Fragment) (v : List ℕ) → Bytes v → Bytes (drawn op f v)
drawn-bytes op f v bytes i h =
    let l : i < length v = omega (arith, drawn-length op f v) in rw (drawn_at op f v i l) (painted_below op (f i) (get_or v i 0) (bytes i l))
