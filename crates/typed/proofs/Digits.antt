-- Numbers read digit after digit. Assumes nothing.
use Rattle.std.proofs.Common.{◌≡◌, refl, ap, sym, ℕ, suc, ◌+◌, ◌*◌, ◌<◌, ◌≤◌, List, length, get_or, drop, None, Some, arith, add-one}
use Rattle.std.specs.Prelude.{ltb, cond, ◌||◌}
use Rattle.std.specs.Char.{digit_value}
use Rattle.std.specs.Option.{option_and_then}
use Rattle.typed.specs.Typed.{digit_of, digits_after, hex_of}
use lib.ListN.{drop_of_length-le}
use lib.Seq.{drop-cons}
use borrow.Author.Tests.{le-ltb}

pub is_digit : (c d : ℕ) → digit_value c < 16 → d ≡ digit_value c → digit_of c ≡ Some d
unfolding digit_of
is_digit c d h e = grind arith

pub is_none : (c : ℕ) → (digit_value c < 16 → ⊥) → digit_of c ≡ None
unfolding digit_of
is_none c h = grind arith

module _ (t : List ℕ) (i v : ℕ) (h : i < length t) where
  next : digits_after v (drop i t)
      ≡ option_and_then (λ d. cond (ltb 9 d || ltb 999999 v) None (digits_after (v * 10 + d) (drop (suc i) t))) (digit_of (get_or t i 0))
  unfolding digits_after
  next = ap (λ (l : List ℕ). digits_after v l) (drop-cons t i 0 h)

  pub bad_digit : (digit_value (get_or t i 0) < 10 → ⊥) → None ≡ digits_after v (drop i t)
  unfolding digit_of
  bad_digit d = rw next (grind arith)

  pub too_long : 999999 < v → None ≡ digits_after v (drop i t)
  unfolding digit_of
  too_long k = rw next (grind arith)

  pub one_more : (d : ℕ) → digit_value (get_or t i 0) < 10 → d ≡ digit_value (get_or t i 0) → v ≤ 999999 → digits_after (v * 10 + d) (drop (i + 1) t) ≡ digits_after v (drop i t)
  one_more d k e m = rw (next, is_digit (get_or t i 0) d (omega arith) e) (simp (le-ltb 9 d (omega (arith, e)), le-ltb 999999 v m, add-one))

pub at_end : (t : List ℕ) (i v : ℕ) → length t ≤ i → Some v ≡ digits_after v (drop i t)
unfolding digits_after
at_end t i v h = sym (ap (λ (l : List ℕ). digits_after v l) (drop_of_length-le t h))

pub both_digits : (t : List ℕ) (h l : ℕ) → length t ≡ 2
    → digit_value (get_or t 0 0) < 16 → h ≡ digit_value (get_or t 0 0)
    → digit_value (get_or t 1 0) < 16 → l ≡ digit_value (get_or t 1 0)
    → Some (h * 16 + l) ≡ hex_of t
unfolding hex_of
both_digits t h l n hh he lh le = rw (n, is_digit (get_or t 0 0) h hh he, is_digit (get_or t 1 0) l lh le) refl
