-- Numbers as a person types them.
use Rattle.std.specs.Prelude.{cond, ◌||◌, List, [], ◌∷◌, ℕ, ◌+◌, ◌-◌, ◌*◌, eqb, leb, ltb, length, get_or, Option, None, Some}
use Rattle.std.specs.Option.{option_and_then}

-- the value of a hexadecimal digit
unfoldable pub digit_of : ℕ → Option ℕ
digit_of c =
    cond (ltb c 48) None  -- below 0
    (cond (leb c 57) (Some (c - 48))  -- 0 to 9
    (cond (ltb c 65) None
    (cond (leb c 70) (Some (c - 55))  -- A to F
    (cond (ltb c 97) None (cond (leb c 102) (Some (c - 87)) None)))))  -- a to f

-- the digits of a text after the value v, each below 10, the value below 10,000,000 all along
unfoldable pub digits_after : ℕ → List ℕ → Option ℕ
digits_after v [] = Some v
digits_after v (c ∷ cs) =
    option_and_then (λ d. cond (ltb 9 d || ltb 999999 v) None (digits_after (v * 10 + d) cs)) (digit_of c)

-- one decimal digit or more
unfoldable pub decimal_of : List ℕ → Option ℕ
decimal_of t = cond (eqb (length t) 0) None (digits_after 0 t)

-- exactly two hexadecimal digits
unfoldable pub hex_of : List ℕ → Option ℕ
hex_of t =
    cond (eqb (length t) 2)
    (option_and_then (λ h. option_and_then (λ l. Some (h * 16 + l)) (digit_of (get_or t 1 0))) (digit_of (get_or t 0 0)))
    None
