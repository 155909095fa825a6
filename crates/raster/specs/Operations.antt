-- The sixteen raster operations as the X Window System names, numbers and defines them; manual (000) Table 4-21.
use Rattle.std.specs.Prelude.{Bool, true, false, not, ◌&&◌, ◌||◌, List, [], ◌∷◌, ℕ, eqb}
use Rattle.std.specs.Bool.{xor}

-- entry op gives the new bit for source bit s and old bit d
abbrev pub gx : List (Bool → Bool → Bool)
gx =
    (λ s d. false)  -- 0 GXclear
    ∷ (λ s d. s && d)  -- 1 GXand
    ∷ (λ s d. s && not d)  -- 2 GXandReverse
    ∷ (λ s d. s)  -- 3 GXcopy
    ∷ (λ s d. not s && d)  -- 4 GXandInverted
    ∷ (λ s d. d)  -- 5 GXnoop
    ∷ (λ s d. xor s d)  -- 6 GXxor
    ∷ (λ s d. s || d)  -- 7 GXor
    ∷ (λ s d. not s && not d)  -- 8 GXnor
    ∷ (λ s d. xor (not s) d)  -- 9 GXequiv
    ∷ (λ s d. not d)  -- 10 GXinvert
    ∷ (λ s d. s || not d)  -- 11 GXorReverse
    ∷ (λ s d. not s)  -- 12 GXcopyInverted
    ∷ (λ s d. not s || d)  -- 13 GXorInverted
    ∷ (λ s d. not s || not d)  -- 14 GXnand
    ∷ (λ s d. true)  -- 15 GXset
    ∷ []

-- the four operations that restore the picture when the same draw is made twice
abbrev pub restoring : ℕ → Bool
restoring op = eqb op 5 || eqb op 6 || eqb op 9 || eqb op 10
