-- Digits read from the left, one at a time.
use Rattle.std.proofs.Common.{◌≡◌, ℕ, ◌+◌, ◌-◌, ◌*◌, ◌<◌, ◌≤◌, false, List, [], ◌∷◌, nat_le, arith}
use Rattle.std.proofs.lemmas.Bool.Decides.{nat_tests}
use Rattle.schedule.specs.Numbers.{value_after}

value_grows : (n : ℕ) (s : List ℕ) → n ≤ value_after n s
value_grows n [] = omega arith
value_grows n (b ∷ s) = omega (arith, value_grows (n * 10 + (b - 48)) s)

-- more digits never make a number smaller
pub stays_large : (top n : ℕ) (s : List ℕ) → top < n → nat_le (value_after n s) top ≡ false
stays_large top n s h = let g = value_grows n s in grind (arith, nat_tests)
