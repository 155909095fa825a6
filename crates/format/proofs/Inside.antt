-- A number and an entry: read where they lie inside the bytes. Assumes nothing.
use mathlib.Core.Path.{◌≡◌}
use mathlib.Core.List.{List}
use Prim.Native.Nat.{ℕ, ◌+◌, ◌≤◌}
use lib.ListN.{length}
use borrow.Author.Tests.{le-leb}
use Rattle.format.specs.Bytes.{word, word_at}
use Rattle.format.specs.Traces.{write_at, entry_at}

module _ (v : List ℕ) (a : ℕ) where
  pub word_inside : a + 4 ≤ length v → word_at v a ≡ word v a
  unfolding word_at
  word_inside h = rw (le-leb _ _ h)

  pub inside : a + 12 ≤ length v → entry_at v a ≡ write_at v a
  unfolding entry_at
  inside h = rw (le-leb _ _ h)
