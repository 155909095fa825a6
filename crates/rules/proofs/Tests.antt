-- The laws that turn what a branch of the code has shown into the test of a definition: for `search`. Assumes nothing.
use mathlib.Core.Path.{◌≡◌, refl, sym, ◌∙◌}
use mathlib.Core.Bool.{Bool, true, false, not, ◌&&◌, ◌||◌}
use Prim.Native.Nat.{ℕ, ◌≤◌, ◌<◌}
use native.Mathlib.Decide.{dec_lt}
use native.Mathlib.Omega.{arith}
use lib.Dec.{ltb}
use borrow.Author.Tests.{eq-eqb, ne_eqb, lt-ltb, le-ltb}

pub or_false : (b : Bool) → b || false ≡ b
or_false true = refl
or_false false = refl

pub not_not : (b : Bool) → not (not b) ≡ b
not_not true = refl
not_not false = refl

pub neither : (a b : Bool) → a || b ≡ false → (a ≡ false) × (b ≡ false)
neither true b e = (cc, cc)
neither false b e = (refl, e)

pub both : (a b : Bool) → a && b ≡ true → (a ≡ true) × (b ≡ true)
both true b e = (refl, e)
both false b e = (cc, cc)

-- what a callee's answer says of the test that it answers
pub said : {r b v : Bool} → r ≡ b → r ≡ v → b ≡ v
said e t = sym e ∙ t

-- two tests of one fact
pub same_test : (a b c d : ℕ) → (a < b → c < d) → (c < d → a < b) → ltb a b ≡ ltb c d
same_test a b c d f g = go (dec_lt a b)
  where
    not_lt : (c < d → ⊥) → d ≤ c
    not_lt h = omega arith

    go : Dec (a < b) → ltb a b ≡ ltb c d
    go (yes h) = lt-ltb a b h ∙ sym (lt-ltb c d (f h))
    go (no h) = le-ltb a b (omega arith) ∙ sym (le-ltb c d (not_lt (λ k. h (g k))))

pub ruleset tests = (eq-eqb, ne_eqb, lt-ltb, le-ltb, or_false)
