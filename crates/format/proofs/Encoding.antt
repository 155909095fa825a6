-- Bytes that are a trace are the bytes of what they decode to: there is one spelling of each trace. Assumes a list of bytes (`Bytes`).
use mathlib.Core.Path.{◌≡◌, refl, ap, sym, ◌∙◌}
use mathlib.Core.Bool.{true}
use mathlib.Core.List.{List, ◌++◌, append_assoc, append-nil}
use Prim.Native.Nat.{ℕ, zero, suc, ◌+◌, ◌*◌, ◌≤◌}
use native.Mathlib.Omega.{arith}
use lib.ListN.{length, get_or, drop}
use lib.Seq.{drop-length}
use borrow.Author.Tests.{eqb-true}
use Rattle.span.specs.Fragments.{Bytes}
use Rattle.rules.proofs.Tests.{both}
use Rattle.format.specs.Bytes.{word, bytes}
use Rattle.format.specs.Traces.{header, entry, entries, encoded, write_at, writes_at, padded_at, entry_count, writes, well_formed, is_trace}
use Rattle.format.proofs.Bytes.{bytes_word, drop_four, after}
use Rattle.format.proofs.Tested.{formed, Traced, traced, counted}

module _ (v : List ℕ) (fits : Bytes v) where
  -- one entry
  entry-write_at : (a : ℕ) → a + 12 ≤ length v → get_or v (a + 2) 0 ≡ 0 → get_or v (a + 3) 0 ≡ 0
      → entry (write_at v a) ++ drop (a + 12) v ≡ drop a v
  unfolding entry write_at
  entry-write_at a h p q =
      let address : List ℕ = bytes (word v (a + 4)) in
      let tail : (address ++ bytes (word v (a + 8))) ++ drop (a + 12) v ≡ drop (a + 4) v =
      append_assoc address (bytes (word v (a + 8))) (drop (a + 12) v)
      ∙ ap (λ (l : List ℕ). address ++ l) (bytes_word v (a + 8) (a + 12) fits (omega arith) (omega arith))
      ∙ bytes_word v (a + 4) (a + 8) fits (omega arith) (omega arith)
      in
      sym (drop_four v a (omega arith) ∙ rw (p, q, tail))

  -- k entries
  entries-writes_at : (a k b : ℕ) → b ≤ length v → a + 12 * k ≡ b → padded_at v a k ≡ true
      → entries (writes_at v a k) ++ drop b v ≡ drop a v
  unfolding entries writes_at padded_at
  entries-writes_at a zero b h e t = let same : b ≡ a = omega arith in ap (λ (n : ℕ). drop n v) same
  entries-writes_at a (suc k) b h e t =
      let (p, r) = both _ _ t in
      let (q, s) = both _ _ r in
      append_assoc (entry (write_at v a)) (entries (writes_at v (a + 12) k)) (drop b v)
      ∙ ap (λ (l : List ℕ). entry (write_at v a) ++ l) (entries-writes_at (a + 12) k b h (omega arith) s)
      ∙ entry-write_at a (omega arith) (eqb-true _ _ p) (eqb-true _ _ q)

  -- the header
  header_words : Traced v → header (word v 0) (word v 8) ++ drop 16 v ≡ v
  unfolding header
  header_words t =
      let words : bytes (word v 0) ++ bytes (word v 4) ++ bytes (word v 8) ++ bytes (word v 12) ≡ header (word v 0) (word v 8) = rw (t.offset, t.total) in
      ap (λ (l : List ℕ). l ++ drop 16 v) (sym words)
      ∙ simp append_assoc
      (rw (
        bytes_word v 12 16 fits t.header refl,
        bytes_word v 8 12 fits (omega arith) refl,
        bytes_word v 4 8 fits (omega arith) refl,
        bytes_word v 0 4 fits (omega arith) refl,
      ))

-- a part is the entries of its writes
pub entries-writes : (part : List ℕ) → Bytes part → well_formed part ≡ true → entries (writes part) ≡ part
unfolding writes
entries-writes part fits e =
    let f = formed part e in
    sym (append-nil _)
    ∙ ap (λ (l : List ℕ). entries (writes part) ++ l) (sym (drop-length part))
    ∙ entries-writes_at part fits 0 (entry_count part) (length part) (omega arith) (omega arith) f.padded

length-writes_at : (v : List ℕ) (a k : ℕ) → length (writes_at v a k) ≡ k
unfolding writes_at
length-writes_at v a zero = refl
length-writes_at v a (suc k) = ap suc (length-writes_at v (a + 12) k)

pub length-writes : (part : List ℕ) → length (writes part) ≡ entry_count part
unfolding writes
length-writes part = length-writes_at part 0 (entry_count part)

-- one spelling
pub encoded-writes : (v : List ℕ) → Bytes v → is_trace v ≡ true → encoded (word v 8) (writes (drop 16 v)) ≡ v
unfolding encoded
encoded-writes v fits e =
    let t = traced v e in
    ap (λ (n : ℕ). header n (word v 8) ++ entries (writes (drop 16 v))) (length-writes (drop 16 v) ∙ counted v t)
    ∙ ap (λ (l : List ℕ). header (word v 0) (word v 8) ++ l) (entries-writes (drop 16 v) (after 16 v fits) t.entries)
    ∙ header_words v fits t
