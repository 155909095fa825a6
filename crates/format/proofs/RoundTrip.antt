-- Demand 2, the last sentence: traces written and read back give the same writes, through `check` too, and equal writes for
-- equal memory lengths give equal bytes. Assumes that the writes are as the bus delivers them; `one_spelling`, a list of bytes (`Bytes`).
use mathlib.Core.Path.{◌≡◌, refl, ap, sym, ◌∙◌}
use mathlib.Core.Bool.{Bool, true, false, cond}
use mathlib.Core.List.{List, [], ◌∷◌, ◌++◌}
use Prim.Native.Nat.{ℕ, ◌+◌, ◌*◌, ◌≤◌}
use native.Mathlib.Omega.{arith}
use lib.Dec.{eqb}
use lib.ListN.{length, take, drop, length-append}
use lib.Seq.{take_at}
use borrow.Author.Tests.{eq-eqb, ne_eqb}
use Rattle.card.specs.declared.Write.{Write}
use Rattle.rules.specs.Refusal.{bad_length}
use Rattle.span.specs.Fragments.{Bytes}
use Rattle.format.specs.Bytes.{word}
use Rattle.format.specs.Traces.{largest, Delivered, encoded, writes, well_formed, is_trace, malformed, trace, decoded, decoded_up_to, check_number, check_length, check_part}
use Rattle.format.specs.Recording.{start_number, start_length, started, one_more_length, append_number, append_length, appended}
use Rattle.format.proofs.Tested.{traced}
use Rattle.format.proofs.Checking.{good}
use Rattle.format.proofs.Encoding.{encoded-writes}
use Rattle.format.proofs.Decoding.{Every, none, more, count_word, vram_word, body, writes-entries, length-encoded, encoded-trace, decoded-encoded}
use Rattle.format.proofs.RecordingTests.{good_start, appendable}
use Rattle.format.proofs.Growing.{same_count, header-within, count_below}

-- an accepted start and any appends, refused ones among them, have recorded these writes: the buffer, and the length that the last
-- accepted one returned
pub data Recorded (vram : ℕ) : List Write → List ℕ → ℕ → Type 0 where
  begun : (b : List ℕ) → start_number (length b) vram ≡ 0 → Recorded vram [] (started b vram) (start_length (length b) vram)
  and_then : {ws : List Write} {b : List ℕ} {used : ℕ} → Recorded vram ws b used
      → (w : Write) → Delivered w → append_number b used w ≡ 0 → Recorded vram (ws ++ (w ∷ [])) (appended b used w) (append_length b used w)
  and_not : {ws : List Write} {b : List ℕ} {used : ℕ} → Recorded vram ws b used
      → (w : Write) → (append_number b used w ≡ 0 → ⊥) → Recorded vram ws (appended b used w) used

record Holds (vram : ℕ) (ws : List Write) (b : List ℕ) (used : ℕ) : Type 0 where
  spelled : take used b ≡ encoded vram ws
  long : used ≡ 16 + 12 * length ws
  few : length ws ≤ largest
  good : bad_length vram ≡ false
  delivered : Every ws

every_more : {ws : List Write} {w : Write} → Every ws → Delivered w → Every (ws ++ (w ∷ []))
every_more none d = more d none
every_more (more e es) d = more e (every_more es d)

-- a buffer that begins with the bytes of a trace
pub front : (vram : ℕ) (ws : List Write) (rest : List ℕ) (used : ℕ) → bad_length vram ≡ false → length ws ≤ largest → used ≡ 16 + 12 * length ws
    → take used (encoded vram ws ++ rest) ≡ encoded vram ws
front vram ws rest used good few e = take_at (encoded vram ws) rest used (length-encoded vram ws good few ∙ sym e)

begin : (vram : ℕ) (b : List ℕ) → start_number (length b) vram ≡ 0 → Holds vram [] (started b vram) (start_length (length b) vram)
unfolding started start_length
begin vram b e =
    let z : eqb (start_number (length b) vram) 0 ≡ true = eq-eqb _ _ e in
    let good = good_start (length b) vram e in
    rw z (record { spelled = front vram [] (drop 16 b) 16 good (omega arith) refl; long = refl; few = omega arith; good = good; delivered = none })

step : {vram : ℕ} {ws : List Write} {b : List ℕ} {used : ℕ} → Holds vram ws b used → (w : Write) → Delivered w → append_number b used w ≡ 0
    → Holds vram (ws ++ (w ∷ [])) (appended b used w) (append_length b used w)
unfolding appended one_more_length
step {vram} {ws} {b} {used} h w d e =
    let z : eqb (append_number b used w) 0 ≡ true = eq-eqb _ _ e in
    let a = appendable b used w e in
    let t : List ℕ = take used b in
    let same_vram : word t 8 ≡ vram = ap (λ (l : List ℕ). word l 8) h.spelled ∙ vram_word vram ws h.good h.few in
    let same_writes : writes (drop 16 t) ≡ ws =
    ap (λ (l : List ℕ). writes (drop 16 l)) h.spelled
    ∙ ap writes (body vram ws h.good h.few)
    ∙ writes-entries ws h.few h.delivered
    in
    let counts : word b 0 ≡ length ws =
    sym (same_count b used (header-within b used a) a.room) ∙ ap (λ (l : List ℕ). word l 0) h.spelled ∙ count_word vram ws h.good h.few
    in
    let longer : length (ws ++ (w ∷ [])) ≡ length ws + 1 = length-append ws (w ∷ []) in
    let few : length (ws ++ (w ∷ [])) ≤ largest = omega (arith, count_below b used a) in
    let long : used + 12 ≡ 16 + 12 * length (ws ++ (w ∷ [])) = omega (arith, h.long) in
    rw (z, same_vram, same_writes)
    (record {
      spelled = front vram (ws ++ (w ∷ [])) (drop (used + 12) b) (used + 12) h.good few long;
      long = long;
      few = few;
      good = h.good;
      delivered = every_more h.delivered d;
    })

kept : (b : List ℕ) (used : ℕ) (w : Write) → (append_number b used w ≡ 0 → ⊥) → appended b used w ≡ b
unfolding appended
kept b used w n = rw (ne_eqb _ _ n)

holds : {vram : ℕ} {ws : List Write} {b : List ℕ} {used : ℕ} → Recorded vram ws b used → Holds vram ws b used
holds {vram} (begun b e) = begin vram b e
holds (and_then r w d e) = step (holds r) w d e
holds (and_not {b = b} {used = used} r w n) = rw (kept b used w n) (holds r)

-- what a start and any appends wrote is `encoded`
pub recorded : {vram : ℕ} {ws : List Write} {b : List ℕ} {used : ℕ} → Recorded vram ws b used → take used b ≡ encoded vram ws
recorded r = (holds r).spelled

-- and a trace
pub recorded_trace : {vram : ℕ} {ws : List Write} {b : List ℕ} {used : ℕ} → Recorded vram ws b used → is_trace (take used b) ≡ true
recorded_trace r = let h = holds r in ap is_trace h.spelled ∙ encoded-trace _ _ h.good h.few

-- it is read back as the same writes
pub read_back : {vram : ℕ} {ws : List Write} {b : List ℕ} {used : ℕ} → Recorded vram ws b used → decoded (take used b) ≡ trace vram ws
read_back r = let h = holds r in ap decoded h.spelled ∙ decoded-encoded _ _ h.good h.few h.delivered

-- what `check` answers for the bytes v of a trace of these writes: it accepts them, gives the VRAM length that the trace was started for,
-- and hands back a part that `run` takes (not 10), whose entries are the writes appended, each as it was and in their order
pub record Checks (vram : ℕ) (ws : List Write) (v : List ℕ) : Type 0 where
  pub number : check_number v ≡ 0
  pub memory : check_length v ≡ vram
  pub runnable : well_formed (check_part v) ≡ true
  pub same : writes (check_part v) ≡ ws

-- so it answers for what a start and any appends recorded, the first `used` bytes of the buffer
pub checked : {vram : ℕ} {ws : List Write} {b : List ℕ} {used : ℕ} → Recorded vram ws b used → Checks vram ws (take used b)
checked {vram} {ws} r =
    let h = holds r in
    let t : is_trace (encoded vram ws) ≡ true = encoded-trace vram ws h.good h.few in
    let (part, number, memory) = good (encoded vram ws) t in
    rw h.spelled
    (record {
      number = sym number;
      memory = sym memory ∙ vram_word vram ws h.good h.few;
      runnable = ap well_formed (sym part) ∙ (traced (encoded vram ws) t).entries;
      same = ap writes (sym part ∙ body vram ws h.good h.few) ∙ writes-entries ws h.few h.delivered;
    })

-- equal writes for equal memory lengths give equal bytes, in whatever buffers and with whatever refusals
pub equal_bytes : {vram : ℕ} {ws : List Write} {b b' : List ℕ} {used used' : ℕ}
    → Recorded vram ws b used → Recorded vram ws b' used' → take used b ≡ take used' b'
equal_bytes r r' = recorded r ∙ sym (recorded r')

-- whatever decodes is the bytes of what it decodes to: one spelling of each trace
pub one_spelling : (v : List ℕ) {vram : ℕ} {ws : List Write} → Bytes v → decoded v ≡ trace vram ws → v ≡ encoded vram ws
unfolding decoded_up_to
one_spelling v {vram} {ws} fits e = go (is_trace v) refl e
  where
    go : (b : Bool) → is_trace v ≡ b → cond b (trace (word v 8) (writes (drop 16 v))) malformed ≡ trace vram ws → v ≡ encoded vram ws
    go true t e = sym (encoded-writes v fits t) ∙ cc
    go false t e = cc
