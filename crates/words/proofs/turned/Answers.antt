-- `words::turned` meets its contract: a turn by whole bytes. Assumes nothing.
use mathlib.Core.Path.{◌≡◌, ap, ap₂, ◌∙◌}
use Prim.Native.Nat.{ℕ, ◌+◌, ◌-◌, ◌*◌, ◌/◌, ◌%◌, ◌^◌}
use native.Mathlib.Omega.{arith}
use lib.Bits.{bit_or}
use Rattle.span.specs.Fragments.{byte}
use Rattle.words.proofs.Turning.{turned}
use Rattle.words.proofs.turned.Goals as goal

pub returns : goal.returns
returns c =
    let a = c.args in
    λ k h.
    let down : a.n % 8 * 8 % 64 ≡ 8 * (a.n % 8) = omega arith in
    let up : (64 - a.n % 8 * 8 % 64) % 64 ≡ 8 * ((8 - a.n % 8) % 8) = omega arith in
    let e : (a.n % 8 + k) % 8 ≡ (a.n + k) % 8 = omega arith in
    ap (λ (m : ℕ). byte m k) c.rotate_right.ensures
    ∙ (ap₂ (λ (s t : ℕ). byte (bit_or (a.w / 2 ^ s) (a.w * 2 ^ t % 2 ^ 64)) k) down up
    ∙ (turned a.w (a.n % 8) k (omega arith) (omega arith) h ∙ ap (λ (j : ℕ). byte a.w j) e))
