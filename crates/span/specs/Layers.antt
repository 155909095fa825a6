-- Spans drawn one after the other: a list of layers, each one fragment for each address. A layer is drawn on what the ones before left.
use Rattle.std.specs.Prelude.{◌≡◌, List, [], ◌∷◌, ◌⊎◌, ℕ, ◌+◌}
use Rattle.span.specs.Fragments.{Fragment, stays, drawn, differing}

-- the picture after the layers
unfoldable pub drawn_all : ℕ → List (ℕ → Fragment) → List ℕ → List ℕ
drawn_all op [] v = v
drawn_all op (f ∷ fs) v = drawn_all op fs (drawn op f v)

-- the number of pixels changed: each layer is judged on the picture before it, so that a pixel changed by two of them counts twice
unfoldable pub changed_all : ℕ → List (ℕ → Fragment) → List ℕ → ℕ
changed_all op [] v = 0
changed_all op (f ∷ fs) v = differing v (drawn op f v) + changed_all op fs (drawn op f v)

module _ {A : Type 0} where
  -- p holds of each member
  abbrev pub Each : (A → Type 0) → List A → Type 0
  Each p [] = Unit
  Each p (x ∷ xs) = p x × Each p xs

  -- r holds of each member and each later one
  abbrev pub Pairs : (A → A → Type 0) → List A → Type 0
  Pairs r [] = Unit
  Pairs r (x ∷ xs) = Each (r x) xs × Pairs r xs

  -- the sum of g over the members
  abbrev pub summed : (A → ℕ) → List A → ℕ
  summed g [] = 0
  summed g (x ∷ xs) = g x + summed g xs

-- no address is painted by two of the layers: of any two, at each address one leaves the byte
abbrev pub Apart : List (ℕ → Fragment) → Type 0
Apart fs = Pairs (λ f g. (p : ℕ) → (f p ≡ stays) ⊎ (g p ≡ stays)) fs
