-- However the bytes are cut into chunks, the number, the reader, the card and the picture are the same: two chunks one after the other are
-- their bytes as one chunk, and so are the chunks of any list, those with no byte among them. For every reader, every card and every
-- picture, and whatever number of entries is allowed. Assumes nothing.
use mathlib.Core.Path.{◌≡◌, refl, ap, sym, ◌∙◌}
use mathlib.Core.Bool.{Bool, true, false}
use mathlib.Core.List.{List, [], ◌∷◌, ◌++◌, append-nil}
use Prim.Native.Nat.{ℕ}
use native.Mathlib.Omega.{arith}
use lib.Dec.{eqb}
use lib.ListN.{length}
use borrow.Author.Tests.{eq-eqb, ne_eqb, eqb-true, eqb-false}
use Rattle.rules.specs.Refusal.{bad_length}
use Rattle.line.specs.Serial.{Standing, sticks, byte_up_to, reads_up_to, sound_up_to, chunk_up_to, chunks_up_to, joined}
use Rattle.line.proofs.Steps.{reads-stuck}
use Rattle.line.proofs.Kept.{to_sound, of_sound, reads_size, reads-sound}

module _ (most : ℕ) where
  -- ---- How a chunk begins.

  module _ (bs : List ℕ) (s : Standing) where
    -- a number sticks: nothing is read, and nothing drawn
    pub chunk-stuck : (s.reader.number ≡ 0 → ⊥) → chunk_up_to most bs s ≡ s
    unfolding chunk_up_to
    chunk-stuck n = rw (ne_eqb _ _ n)

    module _ (free : s.reader.number ≡ 0) where
      -- 10 for a reader that cannot be
      pub chunk_unsound : sound_up_to most s.reader ≡ false → chunk_up_to most bs s ≡ sticks 10 s
      unfolding chunk_up_to
      chunk_unsound u = rw (eq-eqb _ _ free, u)

      -- 1 for a VRAM that number 1 forbids, whatever the bytes, also where there are none
      pub chunk_bad : sound_up_to most s.reader ≡ true → bad_length (length s.picture) ≡ true → chunk_up_to most bs s ≡ sticks 1 s
      unfolding chunk_up_to
      chunk_bad u l = rw (eq-eqb _ _ free, u, l)

    -- else the bytes one after the other
    pub chunk-reads : sound_up_to most s.reader ≡ true → bad_length (length s.picture) ≡ false → chunk_up_to most bs s ≡ reads_up_to most bs s
    unfolding chunk_up_to
    chunk-reads u l = go (eqb s.reader.number 0) refl
      where
        go : (x : Bool) → eqb s.reader.number 0 ≡ x → chunk_up_to most bs s ≡ reads_up_to most bs s
        go true e = rw (e, u, l)
        go false e = chunk-stuck (eqb-false _ _ e) ∙ sym (reads-stuck most bs s (eqb-false _ _ e))

  -- ---- The theorems.

  reads-append : (xs ys : List ℕ) (s : Standing) → reads_up_to most (xs ++ ys) s ≡ reads_up_to most ys (reads_up_to most xs s)
  unfolding reads_up_to
  reads-append [] ys s = refl
  reads-append (b ∷ xs) ys s = reads-append xs ys (byte_up_to most s b)

  pub two_chunks : (xs ys : List ℕ) (s : Standing) → chunk_up_to most ys (chunk_up_to most xs s) ≡ chunk_up_to most (xs ++ ys) s
  two_chunks xs ys s = go (eqb s.reader.number 0) (sound_up_to most s.reader) (bad_length (length s.picture)) refl refl refl
    where
      -- the first chunk changes nothing but the number
      stops : (n : ℕ) → (n ≡ 0 → ⊥) → ((bs : List ℕ) → chunk_up_to most bs s ≡ sticks n s) → chunk_up_to most ys (chunk_up_to most xs s) ≡ chunk_up_to most (xs ++ ys) s
      stops n z h = ap (chunk_up_to most ys) (h xs) ∙ chunk-stuck ys (sticks n s) z ∙ sym (h (xs ++ ys))

      go : (x y z : Bool) → eqb s.reader.number 0 ≡ x → sound_up_to most s.reader ≡ y → bad_length (length s.picture) ≡ z
          → chunk_up_to most ys (chunk_up_to most xs s) ≡ chunk_up_to most (xs ++ ys) s
      go false y z d e f = let n = eqb-false _ _ d in ap (chunk_up_to most ys) (chunk-stuck xs s n) ∙ chunk-stuck ys s n ∙ sym (chunk-stuck (xs ++ ys) s n)
      go true false z d e f = stops 10 (λ z. omega (arith, z)) (λ bs. chunk_unsound bs s (eqb-true _ _ d) e)
      go true true true d e f = stops 1 (λ z. omega (arith, z)) (λ bs. chunk_bad bs s (eqb-true _ _ d) e f)
      go true true false d e f =
          ap (chunk_up_to most ys) (chunk-reads xs s e f)
          ∙ chunk-reads ys (reads_up_to most xs s) (of_sound most _ (reads-sound most xs s (to_sound most _ e))) (ap bad_length (reads_size most xs s) ∙ f)
          ∙ sym (reads-append xs ys s)
          ∙ sym (chunk-reads (xs ++ ys) s e f)

  -- any list of one or more
  pub any_chunks : (bs : List ℕ) (rest : List (List ℕ)) (s : Standing) → chunks_up_to most (bs ∷ rest) s ≡ chunk_up_to most (joined (bs ∷ rest)) s
  unfolding chunks_up_to joined
  any_chunks bs [] s = ap (λ (xs : List ℕ). chunk_up_to most xs s) (sym (append-nil bs))
  any_chunks bs (next ∷ rest) s = any_chunks next rest (chunk_up_to most bs s) ∙ two_chunks bs (joined (next ∷ rest)) s

  -- so two lists with the same bytes end alike
  pub same_bytes : (xs ys : List ℕ) (xss yss : List (List ℕ)) (s : Standing) → joined (xs ∷ xss) ≡ joined (ys ∷ yss)
      → chunks_up_to most (xs ∷ xss) s ≡ chunks_up_to most (ys ∷ yss) s
  same_bytes xs ys xss yss s e = any_chunks xs xss s ∙ ap (λ (bs : List ℕ). chunk_up_to most bs s) e ∙ sym (any_chunks ys yss s)
