-- The picture after any list of layers: each law once, over any list. Where 5 and restoring come in, the picture is one of bytes (`Bytes`).
use mathlib.Core.Path.{◌≡◌, refl, ap, sym, ◌∙◌}
use mathlib.Core.Bool.{Bool, true, false, not, cond}
use mathlib.Core.List.{List, [], ◌∷◌, map}
use mathlib.Core.Logic.{◌⊎◌, inl, inr}
use Prim.Native.Nat.{ℕ, ◌<◌}
use native.Mathlib.Omega.{arith}
use lib.ListN.{length, get_or}
use Rattle.raster.specs.Pixel.{bit, result, made, composite}
use Rattle.raster.proofs.Bits.{same_bits}
use Rattle.raster.proofs.Composite.{result-composite, result_five}
use Rattle.raster.proofs.Made.{made-bit, made_below}
use Rattle.span.specs.Fragments.{Fragment, stays, paint, painted, drawn, Bytes}
use Rattle.span.specs.Layers.{drawn_all, Each, Pairs, Apart}
use Rattle.span.proofs.Drawn.{drawn-length, drawn_at, drawn_is, drawn-none, drawn_then, drawn_five, drawn-kept, drawn_op, drawn-bytes}

pub drawn_all-length : (op : ℕ) (fs : List (ℕ → Fragment)) (v : List ℕ) → length (drawn_all op fs v) ≡ length v
unfolding drawn_all
drawn_all-length op [] v = refl
drawn_all-length op (f ∷ fs) v = drawn_all-length op fs (drawn op f v) ∙ drawn-length op f v

-- a byte that no layer paints stays
pub drawn_all-kept : (op : ℕ) (fs : List (ℕ → Fragment)) (v : List ℕ) (i : ℕ) → i < length v → Each (λ f. f i ≡ stays) fs
    → get_or (drawn_all op fs v) i 0 ≡ get_or v i 0
unfolding drawn_all
drawn_all-kept op [] v i h e = refl
drawn_all-kept op (f ∷ fs) v i h (e, es) =
    drawn_all-kept op fs (drawn op f v) i (rw drawn-length h) es ∙ drawn-kept op f v i h e

-- a bit that no layer reaches stays. What a layer does at i is one fragment; painting it leaves bit k of every byte
pub drawn_all-outside : (op : ℕ) (fs : List (ℕ → Fragment)) (v : List ℕ) (i k : ℕ) → i < length v
    → Each (λ f. (old : ℕ) → bit (painted op (f i) old) k ≡ bit old k) fs → bit (get_or (drawn_all op fs v) i 0) k ≡ bit (get_or v i 0) k
unfolding drawn_all
drawn_all-outside op [] v i k h e = refl
drawn_all-outside op (f ∷ fs) v i k h (e, es) =
    drawn_all-outside op fs (drawn op f v) i k (rw drawn-length h) es
    ∙ (ap (λ (n : ℕ). bit n k) (drawn_at op f v i h) ∙ e (get_or v i 0))

-- operations that give the same bits draw the same
pub drawn_all_op : (a b : ℕ) (fs : List (ℕ → Fragment)) (v : List ℕ) → ((s d : Bool) → result a s d ≡ result b s d)
    → drawn_all a fs v ≡ drawn_all b fs v
unfolding drawn_all
drawn_all_op a b [] v e = refl
drawn_all_op a b (f ∷ fs) v e = drawn_all_op a b fs (drawn a f v) e ∙ ap (λ (u : List ℕ). drawn_all b fs u) (drawn_op a b f v e)

-- 5 is no operation
drawn_all_five : (fs : List (ℕ → Fragment)) (v : List ℕ) → Bytes v → drawn_all 5 fs v ≡ v
unfolding drawn_all
drawn_all_five [] v b = refl
drawn_all_five (f ∷ fs) v b = ap (λ (u : List ℕ). drawn_all 5 fs u) (drawn_five f v b) ∙ drawn_all_five fs v b

-- f drawn with b and g drawn with a may change places: at each address, whatever the byte
abbrev Swap : ℕ → ℕ → (ℕ → Fragment) → (ℕ → Fragment) → Type 0
Swap a b f g = (p old : ℕ) → painted b (f p) (painted a (g p) old) ≡ painted a (g p) (painted b (f p) old)

drawn_swap : (a b : ℕ) (f g : ℕ → Fragment) (v : List ℕ) → Swap a b f g → drawn b f (drawn a g v) ≡ drawn a g (drawn b f v)
drawn_swap a b f g v s =
    drawn_is a g (drawn b f v) (drawn b f (drawn a g v)) (simp drawn-length)
    (λ i h.
    let l : i < length v = omega (arith, drawn-length b f v) in
    drawn_at b f (drawn a g v) i (rw drawn-length l)
    ∙ (ap (λ (old : ℕ). painted b (f i) old) (drawn_at a g v i l)
    ∙ (s i (get_or v i 0) ∙ ap (λ (old : ℕ). painted a (g i) old) (sym (drawn_at b f v i l)))))

drawn-past : (a b : ℕ) (f : ℕ → Fragment) (fs : List (ℕ → Fragment)) (v : List ℕ) → Each (Swap a b f) fs
    → drawn b f (drawn_all a fs v) ≡ drawn_all a fs (drawn b f v)
unfolding drawn_all
drawn-past a b f [] v s = refl
drawn-past a b f (g ∷ gs) v (s, ss) =
    drawn-past a b f gs (drawn a g v) ss ∙ ap (λ (u : List ℕ). drawn_all a gs u) (drawn_swap a b f g v s)

-- drawn with a, then with b, is drawn with the composite, where any two layers may change places
drawn_all_then : (a b : ℕ) (fs : List (ℕ → Fragment)) (v : List ℕ) → Pairs (Swap a b) fs
    → drawn_all b fs (drawn_all a fs v) ≡ drawn_all (composite a b) fs v
unfolding drawn_all
drawn_all_then a b [] v s = refl
drawn_all_then a b (f ∷ fs) v (s, ss) =
    ap (λ (u : List ℕ). drawn_all b fs u) (drawn-past a b f fs (drawn a f v) s)
    ∙ (drawn_all_then a b fs (drawn b f (drawn a f v)) ss
    ∙ ap (λ (u : List ℕ). drawn_all (composite a b) fs u) (drawn_then a b f v))

module _ {A : Type 0} where
  pub each_map : {p q : A → Type 0} (xs : List A) → ((x : A) → p x → q x) → Each p xs → Each q xs
  each_map [] f e = tt
  each_map (x ∷ xs) f (e, es) = (f x e, each_map xs f es)

  pub each_all : {p : A → Type 0} (xs : List A) → ((x : A) → p x) → Each p xs
  each_all [] f = tt
  each_all (x ∷ xs) f = (f x, each_all xs f)

  pairs_map : {r s : A → A → Type 0} (xs : List A) → ((x y : A) → r x y → s x y) → Pairs r xs → Pairs s xs
  pairs_map [] f e = tt
  pairs_map (x ∷ xs) f (e, es) = (each_map xs (f x) e, pairs_map xs f es)

  pairs_all : {r : A → A → Type 0} (xs : List A) → ((x y : A) → r x y) → Pairs r xs
  pairs_all [] f = tt
  pairs_all (x ∷ xs) f = (each_all xs (f x), pairs_all xs f)

pub each_mapped : {A B : Type 0} (p : B → Type 0) (f : A → B) (xs : List A) → Each (λ x. p (f x)) xs → Each p (map f xs)
each_mapped p f [] e = tt
each_mapped p f (x ∷ xs) (e, es) = (e, each_mapped p f xs es)

-- composing: layers that lie apart
pub drawn_all_composes : (a b : ℕ) (fs : List (ℕ → Fragment)) (v : List ℕ) → Apart fs
    → drawn_all b fs (drawn_all a fs v) ≡ drawn_all (composite a b) fs v
drawn_all_composes a b fs v apart = drawn_all_then a b fs v (pairs_map fs (λ f g h p old. one (f p) (g p) old (h p)) apart)
  where
    one : (x y : Fragment) (old : ℕ) → (x ≡ stays) ⊎ (y ≡ stays) → painted b x (painted a y old) ≡ painted a y (painted b x old)
    one x y old (inl e) = rw e
    one x y old (inr e) = rw e

-- an operation that undoes itself flips an old bit or leaves it, as the source says
flips : (g : Bool → Bool) → ((d : Bool) → g (g d) ≡ d) → (d : Bool) → g d ≡ cond (g false) (not d) d
flips g e = go (g true) (g false) refl refl
  where
    go : (t f : Bool) → g true ≡ t → g false ≡ f → (d : Bool) → g d ≡ cond (g false) (not d) d
    go true true et ef d = cc (e false)
    go true false et ef true = rw (et, ef)
    go true false et ef false = rw ef
    go false true et ef true = rw (et, ef)
    go false true et ef false = rw ef
    go false false et ef d = cc (e true)

swaps : (x y d : Bool) → cond x (not (cond y (not d) d)) (cond y (not d) d) ≡ cond y (not (cond x (not d) d)) (cond x (not d) d)
swaps true true d = refl
swaps true false d = refl
swaps false y d = refl

commutes : (g h : Bool → Bool) → ((d : Bool) → g (g d) ≡ d) → ((d : Bool) → h (h d) ≡ d) → (d : Bool) → g (h d) ≡ h (g d)
commutes g h eg eh d =
    let by : Bool → Bool → Bool = λ x z. cond x (not z) z in
    flips g eg (h d)
    ∙ (ap (by (g false)) (flips h eh d)
    ∙ (swaps (g false) (h false) d ∙ sym (flips h eh (g d) ∙ ap (by (h false)) (flips g eg d))))

-- an operation that restores: drawn twice it is no operation
abbrev pub Restores : ℕ → Type 0
Restores op = composite op op ≡ 5

pub result_twice : (op : ℕ) → Restores op → (s d : Bool) → result op s (result op s d) ≡ d
result_twice op e s d = sym (result-composite op op s d) ∙ (ap (λ (o : ℕ). result o s d) e ∙ result_five s d)

result_swaps : (a b : ℕ) → Restores a → Restores b → (s t d : Bool) → result a s (result b t d) ≡ result b t (result a s d)
result_swaps a b ea eb s t d = commutes (result a s) (result b t) (result_twice a ea s) (result_twice b eb t) d

painted_swaps : (a b : ℕ) → Restores a → Restores b → (x y : Fragment) (old : ℕ) → painted a x (painted b y old) ≡ painted b y (painted a x old)
painted_swaps a b ea eb stays y old = refl
painted_swaps a b ea eb (paint m s) stays old = refl
painted_swaps a b ea eb (paint m s) (paint n t) old =
    same_bits 8 _ _ (made_below 8 a m s (made 8 b n t old)) (made_below 8 b n t (made 8 a m s old))
    (λ k h.
    simp (made-bit 8 a m s (made 8 b n t old) k h, made-bit 8 b n t old k h, made-bit 8 b n t (made 8 a m s old) k h, made-bit 8 a m s old k h)
    (pick (bit m k) (bit n k) (bit s k) (bit t k) (bit old k)))
  where
    pick : (p q s t d : Bool)
        → cond p (result a s (cond q (result b t d) d)) (cond q (result b t d) d)
        ≡ cond q (result b t (cond p (result a s d) d)) (cond p (result a s d) d)
    pick true true s t d = result_swaps a b ea eb s t d
    pick true false s t d = refl
    pick false q s t d = refl

-- restoring: any layers at all, repeats too
pub drawn_all_restores : (op : ℕ) (fs : List (ℕ → Fragment)) (v : List ℕ) → Restores op → Bytes v → drawn_all op fs (drawn_all op fs v) ≡ v
drawn_all_restores op fs v e bytes =
    drawn_all_then op op fs v (pairs_all fs (λ f g p old. painted_swaps op op e e (f p) (g p) old))
    ∙ (ap (λ (o : ℕ). drawn_all o fs v) e ∙ drawn_all_five fs v bytes)

-- and the draws of two such operations may change places
pub drawn_all_swap : (a b : ℕ) (fs gs : List (ℕ → Fragment)) (v : List ℕ) → Restores a → Restores b
    → drawn_all b fs (drawn_all a gs v) ≡ drawn_all a gs (drawn_all b fs v)
unfolding drawn_all
drawn_all_swap a b [] gs v ea eb = refl
drawn_all_swap a b (f ∷ fs) gs v ea eb =
    ap (λ (u : List ℕ). drawn_all b fs u) (drawn-past a b f gs v (each_all gs (λ g p old. painted_swaps b a eb ea (f p) (g p) old)))
    ∙ drawn_all_swap a b fs gs (drawn b f v) ea eb

-- layers that leave every byte
pub drawn_all-none : (op : ℕ) (fs : List (ℕ → Fragment)) (v : List ℕ) → Each (λ f. (p : ℕ) → f p ≡ stays) fs → drawn_all op fs v ≡ v
unfolding drawn_all
drawn_all-none op [] v e = refl
drawn_all-none op (f ∷ fs) v (e, es) =
    ap (λ (u : List ℕ). drawn_all op fs u) (drawn-none op f v (λ p _. e p)) ∙ drawn_all-none op fs v es

-- a picture of bytes stays one
pub drawn_all-bytes : (op : ℕ) (fs : List (ℕ → Fragment)) (v : List ℕ) → Bytes v → Bytes (drawn_all op fs v)
unfolding drawn_all
drawn_all-bytes op [] v b = b
drawn_all-bytes op (f ∷ fs) v b = drawn_all-bytes op fs (drawn op f v) (drawn-bytes op f v b)
