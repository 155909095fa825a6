-- Runs of stores, one after the other: adjacent stores are one. So an entry is stored, and a header. Assumes nothing.
use borrow.Rule.Slice.PartMut.{put_mid}
use mathlib.Core.Path.{◌≡◌, refl, ap, sym, ◌∙◌}
use mathlib.Core.List.{List, [], ◌∷◌, ◌++◌}
use Prim.Native.Nat.{ℕ, suc, ◌+◌, ◌-◌, ◌*◌, ◌≤◌}
use native.Mathlib.Nat.{div-one}
use native.Mathlib.Omega.{arith}
use lib.ListN.{length, set, take, drop, length-drop}
use lib.Seq.{sets, drop-drop, length-take-le}
use Rattle.std.proofs.lemmas.List.{append_assoc}
use Rattle.std.proofs.lemmas.List.Edits.{sets-eq}
use Rattle.std.specs.Int.{w32, to_le_bytes}
use Rattle.span.specs.Fragments.{byte}
use Rattle.card.specs.declared.Write.{Write}
use Rattle.format.specs.Bytes.{bytes}
use Rattle.format.specs.Traces.{header, entry}

-- a part of so many bytes, written
pub part-sets : (n a : ℕ) (v bytes : List ℕ) → length bytes ≡ length (take (a + n - a) (drop a v)) → a + n ≤ length v → put_mid a (a + n - a) v bytes ≡ sets v a bytes
part-sets n a v bytes l h =
    let k : a + n - a ≡ n = omega arith in
    let e : a + length bytes ≡ a + n = omega (arith, l, length-take-le (a + n - a) (drop a v) (omega (arith, length-drop a v, h))) in
    ap (λ (m : ℕ). put_mid a m v bytes) k ∙ sym (sets-eq bytes v a (omega (arith, e, h)) ∙ rw (e, ← drop-drop n a v, append_assoc))

-- the bytes of a number, as std says them
pub made_bytes : (x : ℕ) → to_le_bytes w32 x ≡ bytes x
unfolding bytes byte
made_bytes x = rw div-one

-- adjacent stores are one
adjacent : (v : List ℕ) (a : ℕ) (xs ys : List ℕ) → sets (sets v a xs) (a + length xs) ys ≡ sets v a (xs ++ ys)
adjacent v a [] ys = ap (λ (i : ℕ). sets v i ys) (omega arith)
adjacent v a (x ∷ xs) ys = ap (λ (i : ℕ). sets (sets v a (x ∷ xs)) i ys) (omega arith) ∙ adjacent (set v a x) (suc a) xs ys

then_sets : (v : List ℕ) {v₁ v₂ : List ℕ} (a b : ℕ) (xs ys : List ℕ)
    → v₁ ≡ sets v a xs → v₂ ≡ sets v₁ b ys → a + length xs ≡ b → v₂ ≡ sets v a (xs ++ ys)
then_sets v a b xs ys e₁ e₂ e =
    e₂ ∙ ap (λ (l : List ℕ). sets l b ys) e₁ ∙ ap (λ (i : ℕ). sets (sets v a xs) i ys) (sym e) ∙ adjacent v a xs ys

pub put_entry : (v : List ℕ) {v₁ v₂ v₃ : List ℕ} (a : ℕ) (w : Write)
    → v₁ ≡ sets v a (w.space ∷ w.lanes ∷ 0 ∷ 0 ∷ [])
    → v₂ ≡ sets v₁ (a + 4) (bytes w.address)
    → v₃ ≡ sets v₂ (a + 8) (bytes w.«data»)
    → v₃ ≡ sets v a (entry w)
unfolding entry bytes
put_entry v a w e₁ e₂ e₃ =
    let front : List ℕ = w.space ∷ w.lanes ∷ 0 ∷ 0 ∷ [] in
    let address : List ℕ = bytes w.address in
    then_sets v a (a + 8) (front ++ address) (bytes w.«data») (then_sets v a (a + 4) front address e₁ e₂ refl) e₃ refl

pub put_header : (v : List ℕ) {v₁ v₂ v₃ v₄ : List ℕ} (count vram : ℕ)
    → v₁ ≡ sets v 0 (bytes count)
    → v₂ ≡ sets v₁ 4 (bytes 16)
    → v₃ ≡ sets v₂ 8 (bytes vram)
    → v₄ ≡ sets v₃ 12 (bytes (16 + 12 * count))
    → v₄ ≡ sets v 0 (header count vram)
unfolding header bytes
put_header v count vram e₁ e₂ e₃ e₄ =
    let one : List ℕ = bytes count in
    let two : List ℕ = one ++ bytes 16 in
    let three : List ℕ = two ++ bytes vram in
    then_sets v 0 12 three (bytes (16 + 12 * count))
    (then_sets v 0 8 two (bytes vram) (then_sets v 0 4 one (bytes 16) e₁ e₂ refl) e₃ refl)
    e₄
    refl
