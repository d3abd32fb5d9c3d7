-- How many different numbers a list has, in all and below a bound.
use Rattle.std.specs.Prelude.{ℕ, ◌+◌, Bool, false, cond, not, ◌&&◌, ◌||◌, List, [], ◌∷◌, ◌==◌, nat_lt}

-- x is in the list
unfoldable pub among : List ℕ → ℕ → Bool
among [] x = false
among (y ∷ ys) x = y == x || among ys x

-- how many different numbers the list has
unfoldable pub different : List ℕ → ℕ
different [] = 0
different (y ∷ ys) = cond (among ys y) 0 1 + different ys

-- how many different numbers below x the list has
unfoldable pub different_below : List ℕ → ℕ → ℕ
different_below [] x = 0
different_below (y ∷ ys) x = cond (nat_lt y x && not (among ys y)) 1 0 + different_below ys x
