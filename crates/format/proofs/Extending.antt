-- Extending what is a trace is appending to it, in number, length and every byte, and leaves a trace again. Elsewhere too it is appending, but where the bytes
-- fit their header and a pad byte is not zero: appending answers 10 there, and extending looks at the header alone. So a host that started a trace, or checked
-- it once, may extend it. Assumes a buffer of bytes (`Bytes`), and `recorded_on` that the write is as the bus delivers it.
use mathlib.Core.Path.{◌≡◌, refl, ap, sym, ◌∙◌, subst}
use mathlib.Core.Bool.{Bool, true, false, ◌&&◌}
use mathlib.Core.List.{List, [], ◌∷◌, ◌++◌}
use Prim.Native.Nat.{ℕ, ◌+◌, ◌*◌, ◌≤◌}
use native.Mathlib.Omega.{arith}
use lib.Dec.{leb}
use lib.ListN.{length, take, drop, length-append}
use lib.Seq.{length-take-le}
use borrow.Author.Tests.{eq-eqb}
use Rattle.card.specs.declared.Write.{Write}
use Rattle.span.specs.Fragments.{Bytes}
use Rattle.format.specs.Bytes.{word}
use Rattle.format.specs.Traces.{largest, Delivered, encoded, writes, fits_header, is_trace, padded_at}
use Rattle.format.specs.Recording.{one_more_buffer, holds_trace, append_number, append_length, appended, holds_header, extend_number, extend_length, extended}
use Rattle.format.proofs.HeaderTests.{not_fitting}
use Rattle.format.proofs.Tested.{trace_fitting, traced, counted}
use Rattle.format.proofs.Encoding.{length-writes}
use Rattle.format.proofs.Decoding.{by_pads, encoded-trace}
use Rattle.format.proofs.RecordingTests.{Growable, growable}
use Rattle.format.proofs.Growing.{same_count, header-within, count_below, trace-grown, appending, as_tested}
use Rattle.format.proofs.RoundTrip.{Recorded, and_then, front, recorded_trace}

-- extending and appending give the same
pub record SameGrowth (b : List ℕ) (used : ℕ) (w : Write) : Type 0 where
  pub number : extend_number b used w ≡ append_number b used w
  pub lengths : extend_length b used w ≡ append_length b used w
  pub leaves : extended b used w ≡ appended b used w

module _ (b : List ℕ) (used : ℕ) (w : Write) where
  abbrev t : List ℕ
  t = take used b

  judged : fits_header t ≡ is_trace t → holds_header b used ≡ holds_trace b used
  unfolding holds_header holds_trace
  judged e = ap (λ (x : Bool). leb used (length b) && x) e

  judged_alike : Bytes b → fits_header t ≡ is_trace t → SameGrowth b used w
  judged_alike fits e =
      let (number, lengths, leaves) = as_tested (holds_header b used) (holds_trace b used) b used w (judged e) (refl, refl, refl) in
      record { number = number; lengths = lengths; leaves = leaves ∙ appending b used w fits }

  -- whatever the bytes: where they fit their header, every pad byte is zero
  pub but_for_pads : Bytes b → (fits_header t ≡ true → padded_at t 16 (word t 0) ≡ true) → SameGrowth b used w
  but_for_pads fits h = judged_alike fits (go (fits_header t) refl)
    where
      go : (x : Bool) → fits_header t ≡ x → fits_header t ≡ is_trace t
      go true e = e ∙ sym (h e) ∙ by_pads t e
      go false e = e ∙ not_fitting t largest e

  -- a trace
  pub extends : Bytes b → is_trace t ≡ true → SameGrowth b used w
  extends fits e = judged_alike fits (trace_fitting t e ∙ sym e)

  -- what is left is a trace again, so that it can be extended again
  pub still_a_trace : Bytes b → is_trace t ≡ true → extend_number b used w ≡ 0 → is_trace (take (used + 12) (extended b used w)) ≡ true
  unfolding one_more_buffer
  still_a_trace fits e z =
      let is = traced t e in
      let ws : List Write = writes (drop 16 t) ++ (w ∷ []) in
      let g : Growable b used = growable (holds_header b used) b used w (λ x. x) z in
      let n : length (writes (drop 16 t)) ≡ word t 0 = length-writes (drop 16 t) ∙ counted t is in
      let more : length ws ≡ length (writes (drop 16 t)) + 1 = length-append (writes (drop 16 t)) (w ∷ []) in
      let few : length ws ≤ largest = omega (arith, n, more, count_below b used g, same_count b used (header-within b used g) g.room) in
      let long : used + 12 ≡ 16 + 12 * length ws = omega (arith, n, more, is.whole, is.total, length-take-le used b g.within) in
      let leaves : extended b used w ≡ encoded (word t 8) ws ++ drop (used + 12) b = rw (eq-eqb _ _ z) (trace-grown b used w fits e) in
      ap (λ (l : List ℕ). is_trace (take (used + 12) l)) leaves
      ∙ ap is_trace (front (word t 8) ws (drop (used + 12) b) (used + 12) is.vram few long)
      ∙ encoded-trace (word t 8) ws is.vram few

-- what a start and any appends recorded: a write that extends it is recorded as one that is appended, so any number of them can be extended by
module _ {vram : ℕ} {ws : List Write} {b : List ℕ} {used : ℕ} (r : Recorded vram ws b used) (fits : Bytes b) (w : Write) where
  pub recorded_extends : SameGrowth b used w
  recorded_extends = extends b used w fits (recorded_trace r)

  pub recorded_on : Delivered w → extend_number b used w ≡ 0 → Recorded vram (ws ++ (w ∷ [])) (extended b used w) (extend_length b used w)
  recorded_on d e =
      let same = recorded_extends in
      subst (λ (x : List ℕ). Recorded vram (ws ++ (w ∷ [])) x (extend_length b used w)) (sym same.leaves)
      (subst (λ (k : ℕ). Recorded vram (ws ++ (w ∷ [])) (appended b used w) k) (sym same.lengths) (and_then r w d (sym same.number ∙ e)))
