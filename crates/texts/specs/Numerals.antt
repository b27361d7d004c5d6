-- What digits are worth.
use Rattle.std.specs.Prelude.{ℕ, ◌+◌, ◌-◌, ◌*◌, if◌then◌else◌, List, [], ◌∷◌, length, Some, None, Option, ◌==◌, nat_le, nat_lt}

-- a digit is one of 0 to 9, of A to F or of a to f
abbrev pub digit_of : ℕ → Option ℕ
digit_of b =
    if nat_lt b 48 then None else if nat_lt b 58 then Some (b - 48)
    else if nat_lt b 65 then None else if nat_lt b 71 then Some (b - 55)
    else if nat_lt b 97 then None else if nat_lt b 103 then Some (b - 87) else None

-- f of the number, where there is one
abbrev pub and_then : Option ℕ → (ℕ → Option ℕ) → Option ℕ
and_then None f = None
and_then (Some d) f = f d

-- the same where the digit is one of the base
abbrev pub digit_below : ℕ → ℕ → Option ℕ
digit_below base b = and_then (digit_of b) (λ d. if nat_lt d base then Some d else None)

-- the number of the digits after those that say v, where each is one
abbrev pub onward : ℕ → ℕ → List ℕ → Option ℕ
onward base v [] = Some v
onward base v (b ∷ bs) = and_then (digit_below base b) (λ d. onward base (v * base + d) bs)

-- the number that 1 to most digits of the base say
abbrev pub numeral : ℕ → ℕ → List ℕ → Option ℕ
numeral base most bs = if length bs == 0 then None else if nat_le (length bs) most then onward base 0 bs else None
