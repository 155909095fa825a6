-- Little-endian numbers in a list of bytes, over any list and offset. `bytes_word` assumes a list of bytes (`Bytes`).
use mathlib.Core.Path.{◌≡◌, refl, ap, sym, ◌∙◌, subst}
use mathlib.Core.List.{List, [], ◌∷◌, ◌++◌}
use Prim.Native.Nat.{ℕ, ◌+◌, ◌*◌, ◌/◌, ◌%◌, ◌^◌, ◌≤◌, ◌<◌}
use native.Mathlib.Nat.{div-one, add_assoc}
use native.Mathlib.Numerals.{add-one}
use native.Mathlib.Omega.{arith}
use lib.Pow.{shr-shr}
use lib.ListN.{length, get_or, take, drop, length-take, length-drop}
use lib.Seq.{drop-cons, get_or-drop, get_or-take}
use Rattle.span.specs.Fragments.{byte, Bytes}
use Rattle.format.specs.Bytes.{word, bytes}

-- byte k of a number, from the number without its lowest k bytes
byte_2 : (x : ℕ) → x / 65536 ≡ x / 256 / 256
byte_2 x = sym (shr-shr x 8 8)

byte_3 : (x : ℕ) → x / 16777216 ≡ x / 256 / 256 / 256
byte_3 x = sym (shr-shr x 16 8) ∙ ap (λ (n : ℕ). n / 256) (byte_2 x)

-- a number is made of its bytes
rejoined : (x : ℕ) → x < 2 ^ 32 → x % 256 + 2 ^ 8 * (x / 256 % 256) + 2 ^ 16 * (x / 65536 % 256) + 2 ^ 24 * (x / 16777216 % 256) ≡ x
rejoined x h =
    rw (byte_3, byte_2)
    (go _ _ _ _ _ _ _ (low x) (low (x / 256)) (low (x / 256 / 256)) (omega arith))
  where
    low : (y : ℕ) → y % 256 + 256 * (y / 256) ≡ y
    low y = omega arith

    go : (x q r s a b c : ℕ) → a + 256 * q ≡ x → b + 256 * r ≡ q → c + 256 * s ≡ r → s < 256
        → a + 2 ^ 8 * b + 2 ^ 16 * c + 2 ^ 24 * (s % 256) ≡ x
    go x q r s a b c e f g k = omega arith

pub word_bytes : (x : ℕ) (rest : List ℕ) → x < 2 ^ 32 → word (bytes x ++ rest) 0 ≡ x
unfolding word bytes byte
word_bytes x rest h = rw div-one (rejoined x h)

-- and the bytes of a number that is made of four bytes are those
module _ {a b c d : ℕ} (ha : a < 256) (hb : b < 256) (hc : c < 256) (hd : d < 256) where
  parted : bytes (a + 2 ^ 8 * b + 2 ^ 16 * c + 2 ^ 24 * d) ≡ a ∷ b ∷ c ∷ d ∷ []
  unfolding bytes byte
  parted =
      let x : ℕ = a + 2 ^ 8 * b + 2 ^ 16 * c + 2 ^ 24 * d in
      let e1 : x / 256 ≡ b + 2 ^ 8 * c + 2 ^ 16 * d = omega arith in
      let e2 : x / 256 / 256 ≡ c + 2 ^ 8 * d = rw e1 (omega arith) in
      let e3 : x / 256 / 256 / 256 ≡ d = rw e2 (omega arith) in
      let f0 : byte x 0 ≡ a = ap (λ (n : ℕ). n % 256) (div-one x) ∙ omega arith in
      let f1 : byte x 1 ≡ b = ap (λ (n : ℕ). n % 256) e1 ∙ omega arith in
      let f2 : byte x 2 ≡ c = ap (λ (n : ℕ). n % 256) (byte_2 x ∙ e2) ∙ omega arith in
      let f3 : byte x 3 ≡ d = ap (λ (n : ℕ). n % 256) (byte_3 x ∙ e3) ∙ omega arith in
      cc (f0, f1, f2, f3)

pub word-drop : (n : ℕ) (v : List ℕ) (a : ℕ) → word (drop n v) a ≡ word v (n + a)
unfolding word
word-drop n v a = simp (get_or-drop, add_assoc)

pub word-take : (n : ℕ) (v : List ℕ) (a : ℕ) → a + 4 ≤ n → word (take n v) a ≡ word v a
unfolding word
word-take n v a h = simp (get_or-take n v a 0 (omega arith), get_or-take n v (a + 1) 0 (omega arith), get_or-take n v (a + 2) 0 (omega arith), get_or-take n v (a + 3) 0 (omega arith))

drop-next : (v : List ℕ) (a b : ℕ) → a + 1 ≡ b → a < length v → drop a v ≡ get_or v a 0 ∷ drop b v
drop-next v a b e h = drop-cons v a 0 h ∙ ap (λ (n : ℕ). get_or v a 0 ∷ drop n v) (sym (add-one a) ∙ e)

pub drop_four : (v : List ℕ) (a : ℕ) → a + 4 ≤ length v
    → drop a v ≡ get_or v a 0 ∷ get_or v (a + 1) 0 ∷ get_or v (a + 2) 0 ∷ get_or v (a + 3) 0 ∷ drop (a + 4) v
drop_four v a h =
    rw (
      drop-next v a (a + 1) refl (omega arith),
      drop-next v (a + 1) (a + 2) (omega arith) (omega arith),
      drop-next v (a + 2) (a + 3) (omega arith) (omega arith),
      drop-next v (a + 3) (a + 4) (omega arith) (omega arith),
    )

-- four bytes of a list are those of the number that they make
pub bytes_word : (v : List ℕ) (a b : ℕ) → Bytes v → b ≤ length v → a + 4 ≡ b → bytes (word v a) ++ drop b v ≡ drop a v
unfolding word
bytes_word v a b fits h e =
    ap (λ (l : List ℕ). l ++ drop b v)
    (parted (fits a (omega arith)) (fits (a + 1) (omega arith)) (fits (a + 2) (omega arith)) (fits (a + 3) (omega arith)))
    ∙ ap (λ (n : ℕ). get_or v a 0 ∷ get_or v (a + 1) 0 ∷ get_or v (a + 2) 0 ∷ get_or v (a + 3) 0 ∷ drop n v) (sym e)
    ∙ sym (drop_four v a (omega arith))

-- a part of a list of bytes is one
pub front : (n : ℕ) (v : List ℕ) → Bytes v → Bytes (take n v)
front n v fits i h =
    subst (λ (x : ℕ). x < 256) (sym (get_or-take n v i 0 (omega (arith, length-take n v)))) (fits i (omega (arith, length-take n v)))

pub after : (n : ℕ) (v : List ℕ) → Bytes v → Bytes (drop n v)
after n v fits i h = subst (λ (x : ℕ). x < 256) (sym (get_or-drop n v i 0)) (fits (n + i) (omega (arith, length-drop n v)))
