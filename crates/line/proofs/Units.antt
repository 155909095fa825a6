-- A header and an entry, once all of their bytes have come, whatever number of entries is allowed. Assumes that the reader has room for 16
-- bytes, as the reader of the code has.
use mathlib.Core.Path.{◌≡◌, refl, ap, sym, ◌∙◌}
use mathlib.Core.Bool.{Bool, true, false, ◌||◌}
use mathlib.Core.List.{List, [], ◌++◌, append-nil}
use Prim.Native.Nat.{ℕ, zero, suc, ◌+◌, ◌≤◌, ◌<◌}
use native.Mathlib.Omega.{arith}
use lib.Dec.{eqb}
use lib.ListN.{length, get_or, take, drop, set, length-append, get_or-append}
use lib.Seq.{take-suc, drop-cons, append_snoc, set_at, get_or-take, length-take-le}
use borrow.Author.Tests.{eqb-true, ne_eqb, le-leb}
use Rattle.card.specs.Registers.{is_set}
use Rattle.card.specs.declared.Write.{Write}
use Rattle.format.specs.Bytes.{word}
use Rattle.format.specs.Traces.{largest, write_at, good_header, good_header_up_to}
use Rattle.format.proofs.HeaderTests.{and_false}
use Rattle.line.specs.Serial.{Standing, awaited, complete, bad_pad, sticks, waits, opens, draws, byte_up_to, reads_up_to}
use Rattle.line.proofs.Steps.{reads-stuck, byte_pad, byte-waits, byte-draws, byte-opens, byte_bad_header}

-- the first k bytes of u in front of what is left of ws
abbrev front : ℕ → List ℕ → List ℕ → List ℕ
front k u ws = take k u ++ drop k ws

-- one more
front_set : (k : ℕ) (u ws : List ℕ) → k < length u → k < length ws → set (front k u ws) k (get_or u k 0) ≡ front (suc k) u ws
front_set k u ws h l =
    ap (λ (z : List ℕ). set (take k u ++ z) k (get_or u k 0)) (drop-cons ws k 0 l)
    ∙ set_at (take k u) _ _ _ k (length-take-le k u (omega arith))
    ∙ sym (append_snoc (take k u) (get_or u k 0) (drop (suc k) ws))
    ∙ ap (λ (z : List ℕ). z ++ drop (suc k) ws) (sym (take-suc u k 0 h))

-- read as in u
front_reads : (k : ℕ) (u ws : List ℕ) (i : ℕ) → k ≤ length u → i < k → get_or (front k u ws) i 0 ≡ get_or u i 0
front_reads k u ws i h l = get_or-append (take k u) (drop k ws) 0 i (omega (arith, length-take-le k u h)) ∙ get_or-take k u i 0 l

front_word : (k : ℕ) (u ws : List ℕ) (a : ℕ) → k ≤ length u → a + 4 ≤ k → word (front k u ws) a ≡ word u a
unfolding word
front_word k u ws a h l =
    cc (
      front_reads k u ws a h (omega arith),
      front_reads k u ws (a + 1) h (omega arith),
      front_reads k u ws (a + 2) h (omega arith),
      front_reads k u ws (a + 3) h (omega arith),
    )

front_entry : (u ws : List ℕ) → 12 ≤ length u → write_at (front 12 u ws) 0 ≡ write_at u 0
unfolding write_at
front_entry u ws h =
    cc (
      front_reads 12 u ws 0 h (omega arith),
      front_reads 12 u ws 1 h (omega arith),
      front_word 12 u ws 4 h (omega arith),
      front_word 12 u ws 8 h (omega arith),
    )

front_header : (most : ℕ) (u ws : List ℕ) → 16 ≤ length u → good_header_up_to most (front 16 u ws) ≡ good_header_up_to most u
unfolding good_header_up_to
front_header most u ws h =
    let long : 16 ≤ length (front 16 u ws) = omega (arith, length-append (take 16 u) (drop 16 ws), length-take-le 16 u h) in
    cc (
      le-leb 16 (length u) h,
      le-leb 16 (length (front 16 u ws)) long,
      front_word 16 u ws 0 h (omega arith),
      front_word 16 u ws 4 h (omega arith),
      front_word 16 u ws 8 h (omega arith),
      front_word 16 u ws 12 h (omega arith),
    )

-- so are the header's 16 bytes alone
pub header_front : (u : List ℕ) → 16 ≤ length u → good_header (take 16 u) ≡ good_header u
header_front u h = ap good_header (sym (append-nil (take 16 u))) ∙ front_header largest u [] h

pub word_front : (u : List ℕ) (a : ℕ) → 16 ≤ length u → a + 4 ≤ 16 → word (take 16 u) a ≡ word u a
word_front u a h l = ap (λ (z : List ℕ). word z a) (sym (append-nil (take 16 u))) ∙ front_word 16 u [] a h l

-- s, with k bytes in ws waiting
abbrev holding : ℕ → List ℕ → Standing → Standing
holding k ws s =
    let r = s.reader in
    record {
      reader = record {
        number = r.number;
        opened = r.opened;
        announced = r.announced;
        applied = r.applied;
        pixels = r.pixels;
        changed = r.changed;
        filled = k;
        waiting = ws;
      };
      card = s.card;
      picture = s.picture;
    }

-- s, with the first k bytes of u waiting
abbrev pub partly : ℕ → List ℕ → Standing → Standing
partly k u s = holding k (front k u s.reader.waiting) s

module _ (most : ℕ) (u : List ℕ) (s : Standing) (free : s.reader.number ≡ 0) (more : complete s.reader ≡ false) (start : s.reader.filled ≡ 0)
    (room : length s.reader.waiting ≡ 16) where
  -- the pad bytes among the first k are zero
  abbrev Clear : ℕ → Type 0
  Clear k = (i : ℕ) → i < k → bad_pad (partly i u s).reader (get_or u i 0) ≡ false

  still : (k : ℕ) → complete (partly k u s).reader ≡ false
  unfolding complete
  still k = more

  taken : (k : ℕ) → k < length u → k < length s.reader.waiting
      → waits (set (partly k u s).reader.waiting k (get_or u k 0)) (partly k u s) ≡ partly (suc k) u s
  unfolding waits
  taken k h l =
      let e : k + 1 ≡ suc k = omega arith in
      ap (λ (z : List ℕ). holding (k + 1) z s) (front_set k u s.reader.waiting h l)
      ∙ ap (λ (n : ℕ). holding n (front (suc k) u s.reader.waiting) s) e

  -- k bytes, fewer than are awaited, wait
  pub fills : (k : ℕ) → k ≤ length u → k < awaited s.reader → k ≤ 16 → Clear k → reads_up_to most u s ≡ reads_up_to most (drop k u) (partly k u s)
  unfolding reads_up_to waits
  fills zero h l f c = ap (λ (k : ℕ). reads_up_to most u (holding k s.reader.waiting s)) start
  fills (suc k) h l f c =
      fills k (omega arith) (omega arith) (omega arith) (λ i j. c i (omega arith))
      ∙ ap (λ (z : List ℕ). reads_up_to most z (partly k u s)) (drop-cons u k 0 (omega arith))
      ∙ ap (reads_up_to most (drop (suc k) u)) (byte-waits most (partly k u s) (get_or u k 0) free (still k) (c k (omega arith)) (omega arith) ∙ taken k (omega arith) (omega (arith, room)))

  -- the byte after them
  last : (k : ℕ) → k < length u → k < awaited s.reader → k < 16 → Clear k → reads_up_to most u s ≡ reads_up_to most (drop (suc k) u) (byte_up_to most (partly k u s) (get_or u k 0))
  unfolding reads_up_to
  last k h l f c = fills k (omega arith) l (omega arith) c ∙ ap (λ (z : List ℕ). reads_up_to most z (partly k u s)) (drop-cons u k 0 h)

  -- ---- An entry.

  module _ (o : is_set s.reader.opened ≡ true) (long : 12 ≤ length u) where
    entry-awaited : awaited s.reader ≡ 12
    entry-awaited = rw o

    -- byte i of an entry is a pad byte
    abbrev pad : ℕ → Bool
    pad i = eqb i 2 || eqb i 3

    clear : (k : ℕ) → ((i : ℕ) → i < k → pad i ≡ true → get_or u i 0 ≡ 0) → Clear k
    unfolding bad_pad
    clear k z i h = go (pad i) refl
      where
        go : (x : Bool) → pad i ≡ x → bad_pad (partly i u s).reader (get_or u i 0) ≡ false
        go true e = simp (o, z i h e, and_false)
        go false e = simp (o, e)

    -- a pad byte that is not zero answers 10 at once: the bytes after it are not read, and those before it wait
    refused_at : (i : ℕ) → i < 12 → Clear i → bad_pad (partly i u s).reader (get_or u i 0) ≡ true → reads_up_to most u s ≡ sticks 10 (partly i u s)
    refused_at i h c p =
        last i (omega arith) (omega (arith, entry-awaited)) (omega arith) c
        ∙ ap (reads_up_to most (drop (suc i) u)) (byte_pad most (partly i u s) (get_or u i 0) free (still i) p)
        ∙ reads-stuck most (drop (suc i) u) (sticks 10 (partly i u s)) (λ z. omega (arith, z))

    zeros : (k : ℕ) → (2 < k → get_or u 2 0 ≡ 0) → (3 < k → get_or u 3 0 ≡ 0) → (i : ℕ) → i < k → pad i ≡ true → get_or u i 0 ≡ 0
    zeros k f g i h p = go (eqb i 2) (eqb i 3) refl refl
      where
        go : (x y : Bool) → eqb i 2 ≡ x → eqb i 3 ≡ y → get_or u i 0 ≡ 0
        go true y d e = let z = eqb-true _ _ d in ap (λ (j : ℕ). get_or u j 0) z ∙ f (omega (arith, h, z))
        go false true d e = let z = eqb-true _ _ e in ap (λ (j : ℕ). get_or u j 0) z ∙ g (omega (arith, h, z))
        go false false d e = cc (d, e, p)

    pub first_pad : (get_or u 2 0 ≡ 0 → ⊥) → reads_up_to most u s ≡ sticks 10 (partly 2 u s)
    unfolding bad_pad
    first_pad n = refused_at 2 (omega arith) (clear 2 (zeros 2 (λ h. omega (arith, h)) (λ h. omega (arith, h)))) (simp (o, ne_eqb _ _ n))

    pub second_pad : get_or u 2 0 ≡ 0 → (get_or u 3 0 ≡ 0 → ⊥) → reads_up_to most u s ≡ sticks 10 (partly 3 u s)
    unfolding bad_pad
    second_pad z n = refused_at 3 (omega arith) (clear 3 (zeros 3 (λ _. z) (λ h. omega (arith, h)))) (simp (o, ne_eqb _ _ n))

    -- an entry whose pad bytes are zero is drawn
    pub entry-drawn : get_or u 2 0 ≡ 0 → get_or u 3 0 ≡ 0 → reads_up_to most u s ≡ reads_up_to most (drop 12 u) (draws (write_at u 0) s)
    unfolding draws bad_pad
    entry-drawn f g =
        last 11 (omega arith) (omega (arith, entry-awaited)) (omega arith) (clear 11 (zeros 11 (λ _. f) (λ _. g)))
        ∙ ap (reads_up_to most (drop 12 u))
        (byte-draws most (partly 11 u s) (get_or u 11 0) free (still 11) (rw o) (omega (arith, entry-awaited)) o
        ∙ ap (λ (w : Write). draws w s)
        (ap (λ (z : List ℕ). write_at z 0) (front_set 11 u s.reader.waiting (omega arith) (omega (arith, room))) ∙ front_entry u s.reader.waiting long))

  -- ---- The header.

  module _ (o : is_set s.reader.opened ≡ false) (long : 16 ≤ length u) where
    header-awaited : awaited s.reader ≡ 16
    header-awaited = rw o

    no_pads : Clear 16
    unfolding bad_pad
    no_pads i h = rw o

    abbrev came : List ℕ
    came = set (partly 15 u s).reader.waiting 15 (get_or u 15 0)

    all_came : came ≡ front 16 u s.reader.waiting
    all_came = front_set 15 u s.reader.waiting (omega arith) (omega (arith, room))

    -- the sixteenth byte judges
    judged : good_header_up_to most came ≡ good_header_up_to most u
    judged = ap (good_header_up_to most) all_came ∙ front_header most u s.reader.waiting long

    at_last : reads_up_to most u s ≡ reads_up_to most (drop 16 u) (byte_up_to most (partly 15 u s) (get_or u 15 0))
    at_last = last 15 (omega arith) (omega (arith, header-awaited)) (omega arith) (λ i h. no_pads i (omega arith))

    pub header-opens : good_header_up_to most u ≡ true → reads_up_to most u s ≡ reads_up_to most (drop 16 u) (opens (word u 0) s)
    unfolding opens bad_pad
    header-opens g =
        at_last
        ∙ ap (reads_up_to most (drop 16 u))
        (byte-opens most (partly 15 u s) (get_or u 15 0) free (still 15) (rw o) (omega (arith, header-awaited)) o (judged ∙ g)
        ∙ ap (λ (n : ℕ). opens n s) (ap (λ (z : List ℕ). word z 0) all_came ∙ front_word 16 u s.reader.waiting 0 long (omega arith)))

    pub header_refused : good_header_up_to most u ≡ false → reads_up_to most u s ≡ sticks 10 (partly 15 u s)
    unfolding bad_pad
    header_refused g =
        at_last
        ∙ ap (reads_up_to most (drop 16 u))
        (byte_bad_header most (partly 15 u s) (get_or u 15 0) free (still 15) (rw o) (omega (arith, header-awaited)) o (judged ∙ g))
        ∙ reads-stuck most (drop 16 u) (sticks 10 (partly 15 u s)) (λ z. omega (arith, z))
