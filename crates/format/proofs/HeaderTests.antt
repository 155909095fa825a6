-- The tests of a header and of a trace, one law for each answer of the code. A test that fails decides, whatever the others say.
-- Assumes nothing.
use mathlib.Core.Path.{◌≡◌, refl, ap, sym, ◌∙◌}
use mathlib.Core.Bool.{Bool, true, false, ◌&&◌}
use mathlib.Core.List.{List}
use Prim.Native.Nat.{ℕ, ◌+◌, ◌*◌, ◌≤◌, ◌<◌}
use native.Mathlib.Omega.{arith}
use lib.Dec.{eqb}
use lib.ListN.{length, drop}
use borrow.Author.Tests.{eq-eqb, ne_eqb, le-leb, lt-leb}
use Rattle.rules.specs.Refusal.{bad_length}
use Rattle.format.specs.Bytes.{word}
use Rattle.format.specs.Traces.{largest, good_header, good_header_up_to, fits_header, fits_header_up_to, is_trace, is_trace_up_to, well_formed}

pub and_true : (b : Bool) → b && true ≡ b
and_true true = refl
and_true false = refl

pub and_false : (b : Bool) → b && false ≡ false
and_false true = refl
and_false false = refl

module _ (v : List ℕ) where
  pub no_header : length v < 16 → false ≡ good_header v
  unfolding good_header_up_to
  no_header h = simp (lt-leb _ _ h)

  -- too many, whatever the number allowed
  pub many_entries : (most : ℕ) {count : ℕ} → count ≡ word v 0 → most < count → false ≡ good_header_up_to most v
  unfolding good_header_up_to
  many_entries most e h = simp (lt-leb (word v 0) most (omega (arith, e, h)), and_false)

  pub bad_offset : {offset : ℕ} → offset ≡ word v 4 → (offset ≡ 16 → ⊥) → false ≡ good_header v
  unfolding good_header_up_to
  bad_offset e h = simp (ne_eqb (word v 4) 16 (λ f. h (e ∙ f)), and_false)

  pub bad_vram : {vram : ℕ} → vram ≡ word v 8 → bad_length vram ≡ true → false ≡ good_header v
  unfolding good_header_up_to
  bad_vram e h = simp (ap bad_length (sym e) ∙ h, and_false)

  -- one where these fit leaves it to the total
  pub by_total : {count offset vram total : ℕ}
      → 16 ≤ length v
      → count ≡ word v 0 → count ≤ largest
      → offset ≡ word v 4 → offset ≡ 16
      → vram ≡ word v 8 → bad_length vram ≡ false
      → total ≡ word v 12
      → eqb total (16 + 12 * count) ≡ good_header v
  unfolding good_header_up_to
  by_total a n f b c d e t =
      simp (
        n,
        t,
        le-leb 16 (length v) a,
        le-leb (word v 0) largest (omega (arith, n, f)),
        eq-eqb (word v 4) 16 (sym b ∙ c),
        ap bad_length (sym d) ∙ e,
      )

  pub bad_header : (most : ℕ) → good_header_up_to most v ≡ false → false ≡ fits_header_up_to most v
  unfolding fits_header_up_to
  bad_header most h = rw h

  -- a header that fits leaves it to the length
  pub by_length : {total : ℕ} → good_header v ≡ true → total ≡ word v 12 → eqb (length v) total ≡ fits_header v
  unfolding fits_header_up_to
  by_length h e = rw (h, e)

  pub not_fitting : (most : ℕ) → fits_header_up_to most v ≡ false → false ≡ is_trace_up_to most v
  unfolding is_trace_up_to
  not_fitting most h = rw h

  -- and that to the entries
  pub by_entries : fits_header v ≡ true → well_formed (drop 16 v) ≡ is_trace v
  unfolding is_trace_up_to
  by_entries h = rw h
