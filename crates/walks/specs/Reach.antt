-- How far a walk's numbers reach, so that no sum of the code wraps: a word to start with, and 16 steps of less than 65,536 each.
use Rattle.std.specs.Prelude.{ℕ, ◌^◌, ◌≤◌}
use Rattle.rules.specs.declared.Visit.{Visit}
use Rattle.rules.specs.declared.Whole.{Whole}

-- neither part of a whole number is above m
abbrev pub Parts : ℕ → Whole → Type 0
Parts m x = (x.more ≤ m) × (x.less ≤ m)

-- another can be added
abbrev pub Fit : Whole → Type 0
Fit x = Parts (2 ^ 40) x

-- and so of a visit
abbrev pub Near : ℕ → Visit → Type 0
Near m s = Parts m s.place × Parts m s.error
