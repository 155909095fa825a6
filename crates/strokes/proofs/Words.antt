-- A word of std's, low byte first, as the list of its bytes. Assumes nothing.
use borrow.Rule.Slice.PartMut.{mid_of, put_mid}
use mathlib.Core.Path.{◌≡◌, ap, sym, ◌∙◌}
use Rattle.std.proofs.lemmas.List.{append_assoc}
use mathlib.Core.List.{List}
use Prim.Native.Nat.{ℕ, ◌+◌, ◌-◌, ◌≤◌, ◌<◌}
use native.Mathlib.Nat.{div-one}
use native.Mathlib.Omega.{arith}
use lib.ListN.{length, get_or}
use lib.Seq.{sets, drop-drop}
use Rattle.std.proofs.lemmas.List.Edits.{sets-eq}
use Rattle.std.specs.Int.{w64, from_le_bytes, to_le_bytes}
use Rattle.span.specs.Fragments.{byte, listed}
use Rattle.span.proofs.Listed.{listed-length, listed_at, listed_part}
use Rattle.words.specs.Words.{joined}

pub word-listed : (f : ℕ → ℕ) {bytes : List ℕ} → bytes ≡ listed 8 f → from_le_bytes w64 bytes ≡ joined (listed 8 f)
unfolding listed joined
word-listed f e = ap (from_le_bytes w64) e ∙ omega arith

pub listed-word : (w : ℕ) → to_le_bytes w64 w ≡ listed 8 (byte w)
unfolding listed byte
listed-word w = rw div-one

pub word_at : (w k : ℕ) {bytes : List ℕ} → bytes ≡ to_le_bytes w64 w → k < 8 → get_or bytes k 0 ≡ byte w k
word_at w k e h = ap (λ (l : List ℕ). get_or l k 0) (e ∙ listed-word w) ∙ listed_at 8 (byte w) k h

-- the part of so many bytes from a on, read
pub part-listed : (n a : ℕ) (v : List ℕ) → a + n ≤ length v → mid_of a (a + n - a) v ≡ listed n (λ k. get_or v (a + k) 0)
part-listed n a v h =
    let e : a + n - a ≡ n = omega arith in ap (λ (k : ℕ). mid_of a k v) e ∙ sym (listed_part n a v h)

-- and written
pub part-sets : (n a : ℕ) (v : List ℕ) (f : ℕ → ℕ) {bytes : List ℕ} → a + n ≤ length v → bytes ≡ listed n f
    → put_mid a (a + n - a) v bytes ≡ sets v a (listed n f)
part-sets n a v f {bytes} h e =
    let k : a + n - a ≡ n = omega arith in
    let l : a + length (listed n f) ≡ a + n = ap (λ (m : ℕ). a + m) (listed-length n f) in
    ap (λ (ys : List ℕ). put_mid a (a + n - a) v ys) e
    ∙ (ap (λ (m : ℕ). put_mid a m v (listed n f)) k
    ∙ sym (sets-eq (listed n f) v a (omega (arith, l)) ∙ rw (l, ← drop-drop n a v, append_assoc)))
