-- What is left of the text, after the value so far, reads as the whole does.
use Rattle.std.proofs.Common.{◌≡◌, ◌<◌, drop}
use Rattle.typed.specs.Typed.{digits_after, decimal_of}
use Rattle.typed.proofs.decimal.Given as goal

abbrev pub invariant-loop-c : goal.invariant-loop-c
invariant-loop-c l =
    (l.value < 10000000) × (digits_after l.value (drop l.c-index l.text) ≡ decimal_of l.text)
