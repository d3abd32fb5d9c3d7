-- How many reads of the policy a collect may make.
use Rattle.std.specs.Prelude.{ℕ, suc, ◌≤◌, Bool, false, cond, ◌||◌, List, [], ◌∷◌, length, ◌==◌}
use Rattle.history.specs.Steps.{ReadsFor}

-- v stands in the list
abbrev pub stands_in : ℕ → List ℕ → Bool
stands_in v [] = false
stands_in v (w ∷ ws) = v == w || stands_in v ws

-- the number of different variables in a list
abbrev pub different : List ℕ → ℕ
different [] = 0
different (v ∷ vs) = cond (stands_in v vs) (different vs) (suc (different vs))

-- the reads made for a list are no fewer than its different variables, and no more than it is long
abbrev pub CountBounds : Type 0
CountBounds = (vs rs : List ℕ) → ReadsFor vs rs → (different vs ≤ length rs) × (length rs ≤ length vs)
