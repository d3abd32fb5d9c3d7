-- A function changed at one number.
use Rattle.std.specs.Prelude.{ℕ, cond, ◌==◌}

-- the function f, but y at k
abbrev pub at {ℓ} : {A : Type ℓ} → (ℕ → A) → ℕ → A → ℕ → A
at f k y i = cond (i == k) y (f i)
