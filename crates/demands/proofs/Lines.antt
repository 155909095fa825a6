-- Ask 5: what a line or a continue leaves alone, and that what it keeps is exact. Assumes that the write is one, and accepted where that is said.
use mathlib.Core.Path.{◌≡◌, refl, ap, sym, ◌∙◌, subst}
use mathlib.Core.Bool.{Bool, true, false, cond, not, ◌&&◌, ◌||◌, false≢true}
use mathlib.Core.List.{List, [], ◌∷◌}
use mathlib.Core.Logic.{inl, inr}
use Prim.Native.Nat.{ℕ, zero, suc, ◌+◌, ◌-◌, ◌/◌, ◌%◌, ◌≤◌, ◌<◌}
use native.Mathlib.Decide.{dec_lt, ℕ_discrete}
use native.Mathlib.Omega.{arith}
use lib.Dec.{eqb, leb, ltb}
use lib.ListN.{length, get_or}
use borrow.Author.Tests.{eq-eqb, ne_eqb, lt-ltb, le-ltb, leb-true, ltb-true, ltb-false, not-false}
use Rattle.span.specs.Layers.{Each}
use Rattle.span.specs.Spans.{Span}
use Rattle.card.specs.Registers.{is_set}
use Rattle.card.specs.Access.{stores}
use Rattle.card.specs.declared.Card.{Card}
use Rattle.card.specs.declared.Write.{Write}
use Rattle.card.specs.declared.Register.TheVariants.{Continue}
use Rattle.rules.specs.Lines.{plus, minus, signed, word, within, in_sixteen_bits, below_zero, stepped, visits, walked, strays, wild, walks, start, visit_count, visits_of, line_left, address_of, none, dot, dots, spans_of}
use Rattle.rules.specs.Refusal.{names, bad_length, largest_vram, past, outside, wild_walk, no_line, refusal}
use Rattle.rules.specs.Writes.{picture, after_frame, after_register, next}
use Rattle.rules.specs.declared.Visit.{Visit}
use Rattle.rules.specs.declared.Whole.{Whole}
use Rattle.rules.proofs.Outcome.{accepted_passed, some_length, walks_continue, next_register, next_frame, next_refused}
use Rattle.rules.proofs.Tests.{neither, both}
use Rattle.demands.proofs.Demand2.{Misses, outside-stays}

-- ---- The registers, and every pixel that is not visited.

pub registers_stay : (c : Card) (w : Write) (v : List ℕ) → walks c w ≡ true → (next c w v).registers ≡ c.registers
unfolding walks after_frame after_register stores
registers_stay c w v goes = go (ℕ_discrete (refusal c w (length v)) 0) (ℕ_discrete w.space 1)
  where
    go : Dec (refusal c w (length v) ≡ 0) → Dec (w.space ≡ 1) → (next c w v).registers ≡ c.registers
    go (no h) d = ap (λ (x : Card). x.registers) (next_refused c w v h)
    go (yes ok) (yes h) =
        ap (λ (x : Card). x.registers) (next_register c w v ok h) ∙ rw (walks_continue c w goes h)
    go (yes ok) (no h) = ap (λ (x : Card). x.registers) (next_frame c w v ok h)

-- a single pixel misses every other byte
missed : (s : Span) → s.width ≡ 1 → (p : ℕ) → (s.first ≡ p → ⊥) → Misses p s
missed s one p h = go (dec_lt p s.first) (ℕ_discrete s.first p)
  where
    go : Dec (p < s.first) → Dec (s.first ≡ p) → Misses p s
    go (yes l) e = inl l
    go (no l) (yes e) = absurd (h e)
    go (no l) (no e) = inr (inl (omega arith))

not_visited : (o k : Bool) (c : Card) (w : Write) (p i : ℕ) (ss : List Visit) → Each (λ s. address_of s ≡ p → ⊥) ss → Each (Misses p) (dots o k c w i ss)
unfolding dots
not_visited o k c w p i [] e = tt
not_visited o k c w p i (s ∷ ss) (e, es) = (missed (dot o (k || not (none ss)) c w i (address_of s)) refl p e, not_visited o k c w p (suc i) ss es)

-- a byte at which no visit stands stays
pub unvisited_stays : (c : Card) (w : Write) (v : List ℕ) (p : ℕ) → walks c w ≡ true → p < length v → Each (λ s. address_of s ≡ p → ⊥) (visits_of c w)
    → get_or (picture c w v) p 0 ≡ get_or v p 0
unfolding spans_of
unvisited_stays c w v p goes h e = outside-stays c w v p h (rw goes (not_visited _ _ c w p 0 (visits_of c w) e))

-- ---- What is kept is exact: the word holds the very number, below 0 too.

-- two whole numbers are the same
abbrev pub Same : Whole → Whole → Type 0
Same x y = x.more + y.less ≡ y.more + x.less

-- no more than a step outside the largest VRAM
abbrev Close : Whole → Type 0
Close x = (x.less ≤ x.more + 65536) × (x.more ≤ x.less + 2162688)

word_holds : (x : Whole) → Close x → Same (signed 32 0 (word x)) x
word_holds x (l, h) = go (dec_lt x.more x.less)
  where
    go : Dec (x.more < x.less) → Same (signed 32 0 (word x)) x
    go (yes b) =
        let e : word x / 1 % 4294967296 ≡ x.more + 4294967296 - x.less = omega arith in
        let t : ltb (word x / 1 % 4294967296) 2147483648 ≡ false = le-ltb (word x / 1 % 4294967296) 2147483648 (omega arith) in
        rw t (omega arith)
    go (no b) =
        let e : word x / 1 % 4294967296 ≡ x.more - x.less = omega arith in
        let t : ltb (word x / 1 % 4294967296) 2147483648 ≡ true = lt-ltb (word x / 1 % 4294967296) 2147483648 (omega arith) in
        rw t (omega arith)

-- a step is short
short_step : (a b : ℕ) (s : Visit) → ((stepped a b s).place.more ≤ s.place.more + 65535) × (s.place.less ≤ (stepped a b s).place.less)
    × (s.place.more ≤ (stepped a b s).place.more) × ((stepped a b s).place.less ≤ s.place.less + 65536)
unfolding stepped
short_step a b s = go (below_zero s.error)
  where
    after : Bool → Visit
    after t =
        cond {A = Visit} t (record { place = plus s.place (signed 16 16 a); error = plus s.error (signed 16 0 a) })
        (record { place = plus s.place (signed 16 16 b); error = minus s.error (signed 16 0 b) })

    upto : (t : Bool) → cond t 0 65536 ≤ 65536
    upto true = omega arith
    upto false = omega arith

    go : (t : Bool) → ((after t).place.more ≤ s.place.more + 65535) × (s.place.less ≤ (after t).place.less)
        × (s.place.more ≤ (after t).place.more) × ((after t).place.less ≤ s.place.less + 65536)
    go true = (omega arith, omega arith, omega arith, omega (arith, upto (ltb (a / 65536 % 65536) 32768)))
    go false = (omega arith, omega arith, omega arith, omega (arith, upto (ltb (b / 65536 % 65536) 32768)))

-- the visits lie inside VRAM, so what is left after the last lies close to it
ends_close : (n a b k : ℕ) (s : Visit) → n ≤ 2097152 → strays n (visits a b (suc k) s) ≡ false → Close (walked a b (suc k) s).place
unfolding visits walked
ends_close n a b zero s h e =
    let (first, rest) = neither (not (within n s.place)) false e in
    let (low, high) = both (leb s.place.less s.place.more) _ (not-false _ first) in
    let l : s.place.less ≤ s.place.more = leb-true _ _ low in
    let u : s.place.more < s.place.less + n = ltb-true _ _ high in
    let q = short_step a b s in
    (omega (arith, q.0, q.1, q.2, q.3), omega (arith, q.0, q.1, q.2, q.3))
ends_close n a b (suc k) s h e =
    let (first, rest) = neither (not (within n s.place)) _ e in
    ends_close n a b k (stepped a b s) h rest

errors_end : (a b k : ℕ) (s : Visit) → wild a b (visits a b (suc k) s) ≡ false → in_sixteen_bits (walked a b (suc k) s).error ≡ true
unfolding visits walked
errors_end a b zero s e =
    let (x, y) = neither (not (in_sixteen_bits s.error)) _ e in
    let (z, t) = neither (not (in_sixteen_bits (stepped a b s).error)) _ y in
    not-false _ z
errors_end a b (suc k) s e =
    let (x, y) = neither (not (in_sixteen_bits s.error)) _ e in
    let (z, t) = neither (not (in_sixteen_bits (stepped a b s).error)) _ y in
    errors_end a b k (stepped a b s) t

module _ (c : Card) (w : Write) (n : ℕ) (goes : walks c w ≡ true) (ok : refusal c w n ≡ 0) where
  abbrev a : ℕ
  a = c.registers.bresenham1

  abbrev b : ℕ
  b = c.registers.bresenham2

  -- what an accepted line or continue leaves after its last step
  abbrev end : Visit
  end = walked a b (visit_count c w) (start c w)

  in_vram : n ≤ 2097152
  unfolding bad_length
  in_vram = ltb-false largest_vram n (neither (eqb n 0 || not (eqb (n % 64) 0)) (ltb largest_vram n) (accepted_passed c w n ok 0)).1

  -- it has a visit
  some_visits : 0 < visit_count c w
  unfolding visit_count walks no_line
  some_visits = go (ℕ_discrete w.space 1)
    where
      yes_and : (x : Bool) → x ≡ true → (y : Bool) → x && y ≡ y
      yes_and true e y = refl
      yes_and false e y = absurd (false≢true e)

      go : Dec (w.space ≡ 1) → 0 < visit_count c w
      go (yes h) =
          let s = eq-eqb w.space 1 h in
          let g = walks_continue c w goes h in
          let q : no_line c w ≡ false = accepted_passed c w n ok 10 in
          let k : not (is_set c.line.kept) ≡ false = sym (yes_and (names w Continue) (rw (s, g)) _) ∙ q in
          rw (s, not-false (is_set c.line.kept) k) (omega arith)
      go (no h) = rw (ne_eqb w.space 1 h) (some_length c.registers.bresenham3)

  again : suc (visit_count c w - 1) ≡ visit_count c w
  again = omega (arith, some_visits)

  pub place_kept : Same (signed 32 0 (line_left c w).place) end.place
  unfolding line_left visits_of outside
  place_kept =
      let inside : strays n (visits a b (visit_count c w) (start c w)) ≡ false
      = subst (λ (t : Bool). cond t (strays n (visits a b (visit_count c w) (start c w))) (past n (spans_of c w)) ≡ false) goes (accepted_passed c w n ok 7) in
      word_holds end.place
      (subst (λ (k : ℕ). Close (walked a b k (start c w)).place) again
      (ends_close n a b (visit_count c w - 1) (start c w) in_vram (subst (λ (k : ℕ). strays n (visits a b k (start c w)) ≡ false) (sym again) inside)))

  -- and the error lies in 16 bits
  pub error_fits : in_sixteen_bits end.error ≡ true
  unfolding visits_of wild_walk
  error_fits =
      let tame : wild a b (visits a b (visit_count c w) (start c w)) ≡ false
      = subst (λ (t : Bool). t && wild a b (visits a b (visit_count c w) (start c w)) ≡ false) goes (accepted_passed c w n ok 9) in
      subst (λ (k : ℕ). in_sixteen_bits (walked a b k (start c w)).error ≡ true) again
      (errors_end a b (visit_count c w - 1) (start c w) (subst (λ (k : ℕ). wild a b (visits a b k (start c w)) ≡ false) (sym again) tame))

  pub error_kept : Same (signed 32 0 (line_left c w).error) end.error
  unfolding line_left
  error_kept =
      let (low, high) = both (leb end.error.less (end.error.more + 32768)) _ error_fits in
      let l : end.error.less ≤ end.error.more + 32768 = leb-true _ _ low in
      let u : end.error.more < end.error.less + 32768 = ltb-true _ _ high in
      word_holds end.error (omega arith, omega arith)
