-- How the span routine gets on: some of a picture's first pixels are drawn, and then some more.
use Rattle.std.specs.Prelude.{◌≡◌, List, ℕ, ◌+◌, get_or}
use Rattle.span.specs.Fragments.{Fragment, alters, drawn, before, counted}

-- how many of the first n pixels of picture v the fragments f change
abbrev pub altered : ℕ → (ℕ → Fragment) → List ℕ → ℕ → ℕ
altered op f v n = counted n (λ j. alters op (f j) (get_or v j 0))

-- from u, a picture whose first m pixels are drawn with the fragments f, to u', with its first n drawn, r more of them changed
pub record Further (op : ℕ) (f : ℕ → Fragment) (m n : ℕ) (u : List ℕ) (r : ℕ) (u' : List ℕ) : Type 0 where
  pub shows : (v : List ℕ) → u ≡ drawn op (before m f) v → u' ≡ drawn op (before n f) v
  pub changes : (v : List ℕ) → u ≡ drawn op (before m f) v → altered op f v m + r ≡ altered op f v n
