-- The number fields of a line, for every byte string.
use Rattle.std.specs.Prelude.{ℕ, zero, suc, ◌+◌, ◌-◌, ◌*◌, cond, ◌&&◌, List, [], ◌∷◌, ℤ, pos, negsuc, Some, None, Option, ◌==◌, nat_le}
use Rattle.std.specs.Str.{all_ascii_digits}
use Rattle.std.specs.Option.{option_map}

-- the number that digits write after the digits of n
abbrev pub value_after : ℕ → List ℕ → ℕ
value_after n [] = n
value_after n (b ∷ s) = value_after (n * 10 + (b - 48)) s

-- the digits s after those of n, if the whole number is at most `top`
abbrev pub digits_after : ℕ → ℕ → List ℕ → Option ℕ
digits_after top n s = cond (all_ascii_digits s && nat_le (value_after n s) top) (Some (value_after n s)) None

-- a number from 0 to `top` in decimal: digits, at least one, and no leading zero
abbrev pub number_field : ℕ → List ℕ → Option ℕ
number_field top [] = None
number_field top (b ∷ []) = digits_after top 0 (b ∷ [])
number_field top (b ∷ c ∷ s) = cond (b == 48) None (digits_after top 0 (b ∷ c ∷ s))

-- the negative of a number, which isn't 0
abbrev pub negative : Option ℕ → Option ℤ
negative None = None
negative (Some zero) = None
negative (Some (suc n)) = Some (negsuc n)

-- tasks and variables run from 0 to this
abbrev pub highest_index : ℕ
highest_index = 255

abbrev pub highest_value : ℕ
highest_value = 2147483647

-- the lowest value is the negative of this
abbrev pub lowest_value : ℕ
lowest_value = 2147483648

-- a signed 32-bit number: a minus only before a number that isn't 0
abbrev pub value_field : List ℕ → Option ℤ
value_field [] = None
value_field (b ∷ s) =
    cond (b == 45) (negative (number_field lowest_value s)) (option_map pos (number_field highest_value (b ∷ s)))
