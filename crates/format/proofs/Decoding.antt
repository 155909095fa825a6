-- The bytes of a trace decode to its writes. Assumes nothing but that the writes are as the bus delivers them.
use mathlib.Core.Path.{◌≡◌, refl, ap, sym, ◌∙◌}
use mathlib.Core.Bool.{true, false, not, ◌||◌}
use mathlib.Core.List.{List, [], ◌∷◌, ◌++◌, append-nil}
use Prim.Native.Nat.{ℕ, zero, suc, ◌+◌, ◌*◌, ◌%◌, ◌≤◌}
use native.Mathlib.Nat.{add_assoc}
use native.Mathlib.Omega.{arith}
use lib.Dec.{eqb, ltb}
use lib.ListN.{length, drop, length-drop}
use lib.Seq.{get_or-drop}
use borrow.Author.Tests.{eq-eqb, ltb-false}
use Rattle.card.specs.declared.Write.{Write}
use Rattle.rules.specs.Refusal.{bad_length, largest_vram}
use Rattle.rules.proofs.Tests.{neither}
use Rattle.format.specs.Bytes.{word, bytes}
use Rattle.format.specs.Traces.{largest, Delivered, header, entry, entries, encoded, write_at, writes_at, padded_at, entry_count, writes, well_formed, good_header, fits_header, is_trace, trace, decoded, decoded_up_to}
use Rattle.format.proofs.Bytes.{word_bytes, word-drop}
use Rattle.format.proofs.Padding.{by_padding}
use Rattle.format.proofs.HeaderTests.{by_total, by_length, by_entries}
use Rattle.format.proofs.Tested.{headed, fitting}

-- what is read at a of what is left after n is read at n + a
pub write_at-drop : (n : ℕ) (v : List ℕ) (a : ℕ) → write_at (drop n v) a ≡ write_at v (n + a)
unfolding write_at
write_at-drop n v a = simp (get_or-drop, word-drop, add_assoc)

pub writes_at-drop : (n : ℕ) (v : List ℕ) (a k : ℕ) → writes_at (drop n v) a k ≡ writes_at v (n + a) k
unfolding writes_at
writes_at-drop n v a zero = refl
writes_at-drop n v a (suc k) = cc (write_at-drop n v a, writes_at-drop n v (a + 12) k, add_assoc n a 12)

pub padded_at-drop : (n : ℕ) (v : List ℕ) (a k : ℕ) → padded_at (drop n v) a k ≡ padded_at v (n + a) k
unfolding padded_at
padded_at-drop n v a zero = refl
padded_at-drop n v a (suc k) = simp (get_or-drop, padded_at-drop n v (a + 12) k, add_assoc)

-- bytes that fit their header are a trace where every pad byte is zero
pub by_pads : (v : List ℕ) → fits_header v ≡ true → padded_at v 16 (word v 0) ≡ is_trace v
by_pads v f =
    let (g, whole) = fitting v f in
    let h = headed v g in
    let size : length (drop 16 v) ≡ 12 * word v 0 = omega (arith, length-drop 16 v, whole, h.total) in
    let count : entry_count (drop 16 v) ≡ word v 0 = omega (arith, size) in
    sym (padded_at-drop 16 v 0 (word v 0))
    ∙ ap (padded_at (drop 16 v) 0) (sym count)
    ∙ by_padding (drop 16 v) (omega (arith, size)) (omega (arith, count, h.few))
    ∙ by_entries v f

-- an entry in front
write_at-entry : (w : Write) (rest : List ℕ) → Delivered w → write_at (entry w ++ rest) 0 ≡ w
unfolding write_at entry bytes
write_at-entry w rest d =
    let v : List ℕ = entry w ++ rest in
    let address : word v 4 ≡ w.address = sym (word-drop 4 v 0) ∙ word_bytes w.address (bytes w.«data» ++ rest) d.address in
    let ending : word v 8 ≡ w.«data» = sym (word-drop 8 v 0) ∙ word_bytes w.«data» rest d.«data» in
    ap (λ (x : ℕ). record { space = w.space; lanes = w.lanes; address = x; «data» = word v 8 }) address
    ∙ ap (λ (x : ℕ). record { space = w.space; lanes = w.lanes; address = w.address; «data» = x }) ending

-- writes as the bus delivers them
pub data Every : List Write → Type 0 where
  none : Every []
  more : {w : Write} {ws : List Write} → Delivered w → Every ws → Every (w ∷ ws)

writes_at-entries : (ws : List Write) (rest : List ℕ) → Every ws → writes_at (entries ws ++ rest) 0 (length ws) ≡ ws
unfolding writes_at entries entry bytes
writes_at-entries [] rest none = refl
writes_at-entries (w ∷ ws) rest (more d ds) =
    let tail : List ℕ = entries ws ++ rest in
    cc (
      write_at-entry w tail d,
      sym (writes_at-drop 12 (entry w ++ tail) 0 (length ws)) ∙ writes_at-entries ws rest ds,
    )

padded_at-entries : (ws : List Write) (rest : List ℕ) → padded_at (entries ws ++ rest) 0 (length ws) ≡ true
unfolding padded_at entries entry bytes
padded_at-entries [] rest = refl
padded_at-entries (w ∷ ws) rest =
    sym (padded_at-drop 12 (entry w ++ (entries ws ++ rest)) 0 (length ws)) ∙ padded_at-entries ws rest

length-entries : (ws : List Write) → length (entries ws) ≡ 12 * length ws
unfolding entries entry bytes
length-entries [] = refl
length-entries (w ∷ ws) = omega (arith, length-entries ws)

-- the entries of writes are a part that decodes to them
module _ (ws : List Write) (few : length ws ≤ largest) where
  count_entries : entry_count (entries ws) ≡ length ws
  count_entries = omega (arith, length-entries ws)

  entries_formed : well_formed (entries ws) ≡ true
  entries_formed =
      sym (by_padding (entries ws) (omega (arith, length-entries ws)) (omega (arith, length-entries ws)))
      ∙ ap (padded_at (entries ws) 0) count_entries
      ∙ ap (λ (l : List ℕ). padded_at l 0 (length ws)) (sym (append-nil (entries ws)))
      ∙ padded_at-entries ws []

  pub writes-entries : Every ws → writes (entries ws) ≡ ws
  unfolding writes
  writes-entries ds =
      ap (writes_at (entries ws) 0) count_entries
      ∙ ap (λ (l : List ℕ). writes_at l 0 (length ws)) (sym (append-nil (entries ws)))
      ∙ writes_at-entries ws [] ds

-- a VRAM length that number 1 does not refuse is small
pub small : (n : ℕ) → bad_length n ≡ false → n ≤ largest_vram
unfolding bad_length
small n e = ltb-false _ _ (neither (eqb n 0 || not (eqb (n % 64) 0)) (ltb largest_vram n) e).1

-- the bytes of a trace
module _ (vram : ℕ) (ws : List Write) (good : bad_length vram ≡ false) (few : length ws ≤ largest) where
  abbrev spelled : List ℕ
  spelled = encoded vram ws

  abbrev total : ℕ
  total = 16 + 12 * length ws

  pub count_word : word spelled 0 ≡ length ws
  unfolding encoded header bytes
  count_word = word_bytes (length ws) _ (omega arith)

  offset_word : word spelled 4 ≡ 16
  unfolding encoded header bytes
  offset_word = sym (word-drop 4 spelled 0) ∙ word_bytes 16 _ (omega arith)

  pub vram_word : word spelled 8 ≡ vram
  unfolding encoded header bytes
  vram_word = sym (word-drop 8 spelled 0) ∙ word_bytes vram _ (omega (arith, small vram good))

  total_word : word spelled 12 ≡ total
  unfolding encoded header bytes
  total_word = sym (word-drop 12 spelled 0) ∙ word_bytes total _ (omega arith)

  pub body : drop 16 spelled ≡ entries ws
  unfolding encoded header bytes
  body = refl

  pub length-encoded : length spelled ≡ total
  unfolding encoded header bytes
  length-encoded = omega (arith, length-entries ws)

  header_fits : good_header spelled ≡ true
  header_fits =
      sym
      (by_total spelled (omega (arith, length-encoded)) (sym count_word) few (sym offset_word) refl (sym vram_word) good (sym total_word))
      ∙ eq-eqb total total refl

  pub encoded-trace : is_trace spelled ≡ true
  encoded-trace =
      sym (by_entries spelled (sym (by_length spelled header_fits (sym total_word)) ∙ eq-eqb _ _ length-encoded))
      ∙ ap well_formed body
      ∙ entries_formed ws few

  -- decoding gives the length and the writes back
  pub decoded-encoded : Every ws → decoded spelled ≡ trace vram ws
  unfolding decoded_up_to
  decoded-encoded ds = rw (encoded-trace, vram_word, body, writes-entries ws few ds)
