-- What starting, appending and extending leave in the buffer: the bytes of a trace, and every byte past it. Appending assumes a buffer of bytes
-- (`Bytes`).
use mathlib.Core.Path.{◌≡◌, refl, ap, sym, ◌∙◌, subst}
use mathlib.Core.Bool.{Bool, true, false, cond}
use mathlib.Core.List.{List, [], ◌∷◌, ◌++◌, append_assoc, append-nil}
use Prim.Native.Nat.{ℕ, ◌+◌, ◌≤◌, ◌<◌}
use native.Mathlib.Omega.{arith}
use lib.Dec.{eqb}
use lib.ListN.{length, take, drop, length-append, length-drop, take-append-drop}
use lib.Seq.{sets, sets-eq, take-append_seam, drop-append-add, drop-drop, drop_at, length-take-le}
use borrow.Author.Tests.{eqb-true}
use Rattle.card.specs.declared.Write.{Write}
use Rattle.span.specs.Fragments.{Bytes}
use Rattle.format.specs.Bytes.{word, word_at, bytes}
use Rattle.format.specs.Traces.{largest, header, entry, entries, encoded, writes, is_trace}
use Rattle.format.specs.Recording.{one_more_number, one_more_length, holds_trace, append_number, appended, grown, one_more_buffer}
use Rattle.format.proofs.Bytes.{word-take, front, after}
use Rattle.format.proofs.Inside.{word_inside}
use Rattle.format.proofs.Tested.{Headed, headed, fitting, traced, counted}
use Rattle.format.proofs.RecordingTests.{Growable, appends_to_trace}
use Rattle.format.proofs.Encoding.{entries-writes, length-writes}

-- stores from the end of p on leave p
sets_seam : (p q xs : List ℕ) (n : ℕ) → length p ≡ n → length xs ≤ length q → sets (p ++ q) n xs ≡ (p ++ xs) ++ drop (length xs) q
sets_seam p q xs n e h =
    ap (λ (i : ℕ). sets (p ++ q) i xs) (sym e)
    ∙ sets-eq xs (p ++ q) (length p) (omega (arith, length-append p q))
    ∙ rw (take-append_seam, drop-append-add)

-- the header of a start, stored
pub stored_header : (b : List ℕ) (vram : ℕ) → 16 ≤ length b → sets b 0 (header 0 vram) ≡ encoded vram [] ++ drop 16 b
unfolding encoded entries header bytes
stored_header b vram h = sets_seam [] b (header 0 vram) 0 refl h

-- ---- One entry more: the header counts it, and the entries and every byte past it are as they were.

length-entry : (w : Write) → length (entry w) ≡ 12
unfolding entry bytes
length-entry w = refl

length-header : (count vram : ℕ) → length (header count vram) ≡ 16
unfolding header bytes
length-header count vram = refl

-- a store over the front, and one after the rest
two_stores : (h body r H E : List ℕ) (used : ℕ) → length h ≡ length H → length (h ++ body) ≡ used → length E ≤ length r
    → sets (sets ((h ++ body) ++ r) 0 H) used E ≡ H ++ (body ++ (E ++ drop (length E) r))
two_stores h body r H E used same e room =
    ap (λ (l : List ℕ). sets l used E) headed
    ∙ sets_seam (H ++ body) r E used (omega (arith, length-append h body, length-append H body)) room
    ∙ simp append_assoc
  where
    over : sets ([] ++ (h ++ (body ++ r))) 0 H ≡ ([] ++ H) ++ drop (length H) (h ++ (body ++ r))
    over = sets_seam [] (h ++ (body ++ r)) H 0 refl (omega (arith, length-append h (body ++ r)))

    headed : sets ((h ++ body) ++ r) 0 H ≡ (H ++ body) ++ r
    headed =
        ap (λ (l : List ℕ). sets l 0 H) (append_assoc h body r)
        ∙ over
        ∙ ap (λ (l : List ℕ). H ++ l) (drop_at h (body ++ r) (length H) same)
        ∙ sym (append_assoc H body r)

module _ (b : List ℕ) (used : ℕ) (h : 16 ≤ used) (room : used + 12 ≤ length b) where
  abbrev t : List ℕ
  t = take used b

  length_t : length t ≡ used
  length_t = length-take-le used b (omega (arith, room))

  pub same_count : word t 0 ≡ word b 0
  same_count = word-take used b 0 (omega (arith, h))

  same_vram : word t 8 ≡ word b 8
  same_vram = word-take used b 8 (omega (arith, h))

  -- what the code reads of the header
  pub count_read : word_at b 0 ≡ word b 0
  count_read = word_inside b 0 (omega (arith, h, room))

  vram_read : word_at b 8 ≡ word b 8
  vram_read = word_inside b 8 (omega (arith, h, room))

  -- what it stores
  pub entry_stored : (w : Write) {count vram : ℕ} {v₁ v₂ : List ℕ} → count ≡ word_at b 0 → vram ≡ word_at b 8
      → v₁ ≡ sets b 0 (header (count + 1) vram) → v₂ ≡ sets v₁ used (entry w) → v₂ ≡ grown b used w
  unfolding grown
  entry_stored w ec ev s₁ s₂ =
      let r : List ℕ = drop used b in
      let H : List ℕ = header (word t 0 + 1) (word t 8) in
      let whole : b ≡ (take 16 t ++ drop 16 t) ++ r = sym (take-append-drop used b) ∙ ap (λ (l : List ℕ). l ++ r) (sym (take-append-drop 16 t)) in
      let front : length (take 16 t) ≡ 16 = length-take-le 16 t (omega (arith, h, length_t)) in
      let past : drop (length (entry w)) r ≡ drop (used + 12) b = ap (λ (n : ℕ). drop n r) (length-entry w) ∙ drop-drop 12 used b in
      s₂
      ∙ ap (λ (l : List ℕ). sets l used (entry w)) (s₁ ∙ cc (ec, ev, count_read, vram_read, same_count, same_vram))
      ∙ ap (λ (l : List ℕ). sets (sets l 0 H) used (entry w)) whole
      ∙ two_stores (take 16 t) (drop 16 t) r H (entry w) used (front ∙ sym (length-header _ _)) (ap length (take-append-drop 16 t) ∙ length_t) (omega (arith, length-drop used b, length-entry w, room))
      ∙ ap (λ (l : List ℕ). H ++ (drop 16 t ++ (entry w ++ l))) past

-- bytes that fit their header
module _ (b : List ℕ) (used : ℕ) (g : Growable b used) where
  is : Headed (take used b)
  is = headed (take used b) (fitting (take used b) g.front_fits_header).0

  pub header-within : 16 ≤ used
  header-within = omega (arith, is.header, length-take-le used b g.within)

  pub count_below : word b 0 < largest
  count_below = below (word b 0) (omega (arith, is.few, same_count b used header-within g.room)) g.few
    where
      below : (n : ℕ) → n ≤ largest → (n ≡ largest → ⊥) → n < largest
      below n h e = omega arith

  pub length_below : used + 12 ≤ 786448
  length_below = omega (arith, is.total, (fitting (take used b) g.front_fits_header).1, length-take-le used b g.within, count_below, same_count b used header-within g.room)

-- a buffer whose first bytes have the entries of these writes has those of one more
entries-append : (ws : List Write) (w : Write) → entries (ws ++ (w ∷ [])) ≡ entries ws ++ entry w
unfolding entries
entries-append [] w = append-nil (entry w)
entries-append (x ∷ ws) w = ap (λ (l : List ℕ). entry x ++ l) (entries-append ws w) ∙ sym (append_assoc (entry x) (entries ws) (entry w))

grown-trace : (b : List ℕ) (used : ℕ) (w : Write) (ws : List Write) → length ws ≡ word (take used b) 0 → entries ws ≡ drop 16 (take used b)
    → grown b used w ≡ encoded (word (take used b) 8) (ws ++ (w ∷ [])) ++ drop (used + 12) b
unfolding grown encoded
grown-trace b used w ws n e =
    let count : word (take used b) 0 + 1 ≡ length (ws ++ (w ∷ [])) = omega (arith, n, length-append ws (w ∷ [])) in
    sym (rw (entries-append ws w, e, ← count) (simp append_assoc))

-- ---- Appending: the entries of a trace are those of its writes.

pub trace-grown : (b : List ℕ) (used : ℕ) (w : Write) → Bytes b → is_trace (take used b) ≡ true
    → grown b used w ≡ encoded (word (take used b) 8) (writes (drop 16 (take used b)) ++ (w ∷ [])) ++ drop (used + 12) b
trace-grown b used w fits e =
    let t = traced (take used b) e in
    grown-trace b used w (writes (drop 16 (take used b)))
    (length-writes (drop 16 (take used b)) ∙ counted (take used b) t)
    (entries-writes (drop 16 (take used b)) (after 16 (take used b) (front used b fits)) t.entries)

pub appending : (b : List ℕ) (used : ℕ) (w : Write) → Bytes b → one_more_buffer (holds_trace b used) b used w ≡ appended b used w
unfolding one_more_buffer appended
appending b used w fits = go (eqb (append_number b used w) 0) refl
  where
    after_it : List ℕ
    after_it = encoded (word (take used b) 8) (writes (drop 16 (take used b)) ++ (w ∷ [])) ++ drop (used + 12) b

    go : (x : Bool) → eqb (append_number b used w) 0 ≡ x → cond x (grown b used w) b ≡ cond x after_it b
    go true z = trace-grown b used w fits (appends_to_trace b used w (eqb-true _ _ z))
    go false z = refl

-- ---- The code hands on its test's answer t; what holds by t holds by the test.

abbrev Answered : Bool → List ℕ → ℕ → Write → ℕ → ℕ → List ℕ → Type 0
Answered t b used w n k v = (n ≡ one_more_number t b used w) × (k ≡ one_more_length t b used w) × (v ≡ one_more_buffer t b used w)

pub as_tested : (t u : Bool) (b : List ℕ) (used : ℕ) (w : Write) → t ≡ u → {n k : ℕ} {v : List ℕ} → Answered t b used w n k v → Answered u b used w n k v
as_tested t u b used w e {n} {k} {v} h = subst (λ (x : Bool). Answered x b used w n k v) e h
