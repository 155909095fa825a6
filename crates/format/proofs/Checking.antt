-- What a check answers, accepted and refused. Assumes nothing.
use mathlib.Core.Path.{◌≡◌, refl}
use mathlib.Core.Bool.{true, false}
use mathlib.Core.List.{List, []}
use Prim.Native.Nat.{ℕ}
use lib.ListN.{drop}
use Rattle.format.specs.Bytes.{word}
use Rattle.format.specs.Traces.{is_trace, check_part, check_part_up_to, check_number, check_number_up_to, check_length, check_length_up_to}

pub good : (v : List ℕ) → is_trace v ≡ true → (drop 16 v ≡ check_part v) × (0 ≡ check_number v) × (word v 8 ≡ check_length v)
unfolding check_part_up_to check_number_up_to check_length_up_to
good v e = rw e (refl, refl, refl)

pub bad : (v : List ℕ) → is_trace v ≡ false → ([] ≡ check_part v) × (10 ≡ check_number v) × (0 ≡ check_length v)
unfolding check_part_up_to check_number_up_to check_length_up_to
bad v e = rw e (refl, refl, refl)
