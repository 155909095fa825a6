-- `pixels::make` meets its contract: a made word's lowest byte is the made pixel. Assumes nothing.
use mathlib.Core.Path.{◌≡◌, ap, ap₂, sym, ◌∙◌}
use mathlib.Core.Bool.{not}
use Prim.Native.Nat.{ℕ, ◌%◌, ◌<◌}
use native.Mathlib.Omega.{arith}
use lib.Bits.{bit_and, bit_xor}
use lib.Dec.{eqb}
use Rattle.raster.specs.Pixel.{made}
use Rattle.raster.proofs.Reducing.{reduced_made}
use Rattle.span.specs.Fragments.{byte}
use Rattle.span.proofs.Bytes.{byte-zero, byte-made}
use Rattle.pixels.proofs.make.Goals as goal

lowest : (n : ℕ) → n < 256 → byte n 0 ≡ n
lowest n h = byte-zero n ∙ omega arith

pub returns : goal.returns
returns c =
    let a = c.args in
    let e = c.reduce-r.ensures in
    let new : bit_xor (bit_and a.old c.reduce-r.result.and) c.reduce-r.result.xor % 256 ≡ made 8 a.op a.mask a.source a.old
    = ap₂ (λ (x n : ℕ). bit_xor (bit_and a.old n) x % 256) e.0 e.1
    ∙ (ap (λ (n : ℕ). n % 256) (reduced_made 64 a.op a.mask a.source a.old (omega arith))
    ∙ (sym (byte-zero (made 64 a.op a.mask a.source a.old))
    ∙ (byte-made 8 a.op a.mask a.source a.old 0 (omega arith)
    ∙ simp (lowest a.mask (omega arith), lowest a.source (omega arith), lowest a.old (omega arith)))))
    in (new, ap (λ (n : ℕ). not (eqb n a.old)) new)
