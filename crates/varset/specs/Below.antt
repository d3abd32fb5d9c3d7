-- How many members below a bound a set has, as its membership test.
use Rattle.std.specs.Prelude.{ℕ, zero, suc, ◌+◌, Bool, cond}

-- how many numbers below n are in the set
unfoldable pub how_many_below : ℕ → (ℕ → Bool) → ℕ
how_many_below zero s = 0
how_many_below (suc n) s = cond (s n) 1 0 + how_many_below n s
