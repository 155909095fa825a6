-- One byte: which of the cases it meets, and what holds after it whichever it was. Whatever number of entries is allowed. Assumes nothing.
use mathlib.Core.Path.{◌≡◌, refl, ap, ◌∙◌}
use mathlib.Core.Bool.{Bool, true, false, cond, not, ◌||◌}
use mathlib.Core.List.{List, [], ◌∷◌}
use Prim.Native.Nat.{ℕ, ◌+◌, ◌≤◌, ◌<◌}
use lib.Dec.{ltb}
use lib.ListN.{set}
use borrow.Author.Tests.{eq-eqb, ne_eqb, eqb-true, eqb-false, lt-ltb, le-ltb, ltb-true, ltb-false, not-true, not-false}
use Rattle.card.specs.Registers.{is_set}
use Rattle.rules.proofs.Tests.{neither}
use Rattle.format.specs.Bytes.{word}
use Rattle.format.specs.Traces.{write_at, good_header_up_to}
use Rattle.line.specs.declared.Reader.{Reader}
use Rattle.line.specs.Serial.{Standing, standing, awaited, complete, bad_pad, stuck, sticks, waits, headed, opens, draws, byte_up_to, reads_up_to}

-- ---- The cases.

-- the bytes waiting, with this one
abbrev pub came : Standing → ℕ → List ℕ
came s b = set s.reader.waiting s.reader.filled b

module _ (most : ℕ) (s : Standing) (b : ℕ) where
  abbrev r : Reader
  r = s.reader

  module _ (free : r.number ≡ 0) where
    none : is_set r.number ≡ false
    none = ap not (eq-eqb r.number 0 free)

    pub byte_past : complete r ≡ true → byte_up_to most s b ≡ sticks 10 s
    unfolding byte_up_to
    byte_past d = rw (none, d)

    module _ (more : complete r ≡ false) where
      pub byte_pad : bad_pad r b ≡ true → byte_up_to most s b ≡ sticks 10 s
      unfolding byte_up_to
      byte_pad p = rw (none, more, p)

      module _ (clear : bad_pad r b ≡ false) where
        pub byte-waits : r.filled + 1 < awaited r → byte_up_to most s b ≡ waits (came s b) s
        unfolding byte_up_to
        byte-waits h = rw (none, more, clear, lt-ltb (r.filled + 1) (awaited r) h)

        module _ (whole : awaited r ≤ r.filled + 1) where
          whole_test : ltb (r.filled + 1) (awaited r) ≡ false
          whole_test = le-ltb (r.filled + 1) (awaited r) whole

          pub byte-draws : is_set r.opened ≡ true → byte_up_to most s b ≡ draws (write_at (came s b) 0) s
          unfolding byte_up_to
          byte-draws o = rw (none, more, clear, whole_test, o)

          pub byte-opens : is_set r.opened ≡ false → good_header_up_to most (came s b) ≡ true → byte_up_to most s b ≡ opens (word (came s b) 0) s
          unfolding byte_up_to
          byte-opens o g = rw (none, more, clear, whole_test, o, g)

          pub byte_bad_header : is_set r.opened ≡ false → good_header_up_to most (came s b) ≡ false → byte_up_to most s b ≡ sticks 10 s
          unfolding byte_up_to
          byte_bad_header o g = rw (none, more, clear, whole_test, o, g)

          -- both at once, as the code answers
          pub byte_judges : is_set r.opened ≡ false
              → byte_up_to most s b ≡ standing (cond (good_header_up_to most (came s b)) (headed (word (came s b) 0) r) (stuck 10 r)) s.card s.picture
          unfolding opens
          byte_judges o = go (good_header_up_to most (came s b)) refl
            where
              go : (g : Bool) → good_header_up_to most (came s b) ≡ g → byte_up_to most s b ≡ standing (cond g (headed (word (came s b) 0) r) (stuck 10 r)) s.card s.picture
              go true g = byte-opens o g
              go false g = byte_bad_header o g

-- a number that sticks
byte-stuck : (most : ℕ) (s : Standing) (b : ℕ) → (s.reader.number ≡ 0 → ⊥) → byte_up_to most s b ≡ s
unfolding byte_up_to
byte-stuck most s b n = rw (ne_eqb s.reader.number 0 n)

pub reads-stuck : (most : ℕ) (bs : List ℕ) (s : Standing) → (s.reader.number ≡ 0 → ⊥) → reads_up_to most bs s ≡ s
unfolding reads_up_to
reads-stuck most [] s n = refl
reads-stuck most (b ∷ bs) s n = ap (reads_up_to most bs) (byte-stuck most s b n) ∙ reads-stuck most bs s n

-- what byte b makes of s
pub data Step (most : ℕ) (s : Standing) (b : ℕ) : Standing → Type 0 where
  stays : (s.reader.number ≡ 0 → ⊥) → Step most s b s
  refuses : Step most s b (sticks 10 s)
  waiting : s.reader.filled + 1 < awaited s.reader → Step most s b (waits (came s b) s)
  drawing : s.reader.number ≡ 0 → is_set s.reader.opened ≡ true → complete s.reader ≡ false
      → awaited s.reader ≤ s.reader.filled + 1 → Step most s b (draws (write_at (came s b) 0) s)
  opening : awaited s.reader ≤ s.reader.filled + 1 → good_header_up_to most (came s b) ≡ true → Step most s b (opens (word (came s b) 0) s)

pub step : (most : ℕ) (s : Standing) (b : ℕ) → Step most s b (byte_up_to most s b)
unfolding byte_up_to
step most s b =
    go (is_set s.reader.number) (complete s.reader || bad_pad s.reader b) (ltb (s.reader.filled + 1) (awaited s.reader)) (is_set s.reader.opened) (good_header_up_to most (came s b)) refl refl refl refl refl
  where
    go : (n p w o g : Bool) → is_set s.reader.number ≡ n → complete s.reader || bad_pad s.reader b ≡ p
        → ltb (s.reader.filled + 1) (awaited s.reader) ≡ w → is_set s.reader.opened ≡ o → good_header_up_to most (came s b) ≡ g
        → Step most s b (cond n s (cond p (sticks 10 s) (cond w (waits (came s b) s) (cond o (draws (write_at (came s b) 0) s) (cond g (opens (word (came s b) 0) s) (sticks 10 s))))))
    go true p w o g d e f h i = stays (λ z. eqb-false _ _ (not-true _ d) z)
    go false true w o g d e f h i = refuses
    go false false true o g d e f h i = waiting (ltb-true _ _ f)
    go false false false true g d e f h i = drawing (eqb-true _ _ (not-false _ d)) h (neither (complete s.reader) (bad_pad s.reader b) e).0 (ltb-false _ _ f)
    go false false false false true d e f h i = opening (ltb-false _ _ f) i
    go false false false false false d e f h i = refuses
