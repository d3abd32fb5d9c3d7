-- The first line of a schedule.
use Rattle.std.specs.Prelude.{◌≡◌, ℕ, List, [], ◌∷◌, ◌++◌, Some, None, codes, Option, ◌≢◌}
use Rattle.std.specs.List.{find}
use Rattle.std.specs.Str.{bytes_eq}
use Rattle.schedule.specs.declared.choice.Kind.{Kind}
use Rattle.schedule.specs.declared.choice.Kind.TheVariants.{Lock, Own, Clock}
use Rattle.schedule.specs.declared.choice.Choice.{Choice}
use Rattle.schedule.specs.declared.choice.Choice.TheVariants.{Plain, Eager}

abbrev pub name : Kind → List ℕ
name Lock = codes "lock"
name Own = codes "own"
name Clock = codes "clock"

-- what is written of a choice
abbrev pub first_line : Choice → List ℕ
first_line (Plain k) = name k
first_line (Eager k) = codes "eager " ++ name k

abbrev pub choices : List Choice
choices = Plain Lock ∷ Plain Own ∷ Plain Clock ∷ Eager Lock ∷ Eager Own ∷ Eager Clock ∷ []

-- the choice that a first line names: the first whose line it is
abbrev pub chosen : List ℕ → Option Choice
chosen s = find (λ c. bytes_eq s (first_line c)) choices

-- a first line names a choice exactly if it is what is written of it
abbrev pub Chosen : List ℕ → Option Choice → Type 0
Chosen s None = (c : Choice) → s ≢ first_line c
Chosen s (Some c) = s ≡ first_line c
