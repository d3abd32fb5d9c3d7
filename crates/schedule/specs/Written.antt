-- The written form of a command, and the law that ties it to parsing.
use Rattle.std.specs.Prelude.{◌≡◌, ℕ, zero, suc, ◌-◌, ◌≤◌, List, [], ◌∷◌, ◌++◌, ℤ, pos, negsuc, Ok, Err, decimal, Result}
use Rattle.std.specs.Fmt.{signed_decimal}
use Rattle.schedule.specs.Pieces.{space, fields}
use Rattle.schedule.specs.Numbers.{highest_index, highest_value, lowest_value}
use Rattle.schedule.specs.declared.command.Command.{Command}
use Rattle.schedule.specs.declared.command.Command.TheVariants.{Begin, Read, Write, Commit, Abort}
use Rattle.schedule.specs.declared.command.Misfit.{Misfit}

-- a letter and a task, in decimal, with a space between
abbrev pub with_task : ℕ → ℕ → List ℕ
with_task letter t = letter ∷ space ∷ decimal t

-- what is written of a command: B, R, W, C or A, and its numbers
abbrev pub written : Command → List ℕ
written (Begin t) = with_task 66 t
written (Read t v) = with_task 82 t ++ (space ∷ decimal v)
written (Write t v n) = with_task 87 t ++ (space ∷ (decimal v ++ (space ∷ signed_decimal n)))
written (Commit t) = with_task 67 t
written (Abort t) = with_task 65 t

-- the value is a signed 32-bit number
abbrev pub InValue : ℤ → Type 0
InValue (pos n) = n ≤ highest_value
InValue (negsuc n) = suc n ≤ lowest_value

-- the numbers of a command are those that the types of its fields hold
abbrev pub InRange : Command → Type 0
InRange (Begin t) = t ≤ highest_index
InRange (Read t v) = (t ≤ highest_index) × (v ≤ highest_index)
InRange (Write t v n) = (t ≤ highest_index) × (v ≤ highest_index) × InValue n
InRange (Commit t) = t ≤ highest_index
InRange (Abort t) = t ≤ highest_index

-- the first n fields of two lines are the same, where a line that has ended has no further field
abbrev pub Agree : ℕ → List (List ℕ) → List (List ℕ) → Type 0
Agree zero fs gs = Unit {0}
Agree (suc n) [] [] = Unit {0}
Agree (suc n) [] (g ∷ gs) = ⊥
Agree (suc n) (f ∷ fs) [] = ⊥
Agree (suc n) (f ∷ fs) (g ∷ gs) = (f ≡ g) × Agree n fs gs

-- the field of a misfit is the first in which a line departs from every command
pub record Departs (s : List ℕ) (w : Misfit) : Type 0 where
  pub so_far : (c : Command) × InRange c × Agree (w.field - 1) (fields s) (fields (written c))
  pub no_further : (c : Command) → InRange c → Agree w.field (fields s) (fields (written c)) → ⊥

-- a line is taken as a command exactly if it is what is written of that command, and else refused where it departs
pub record Taken (s : List ℕ) (r : Result Command Misfit) : Type 0 where
  pub is_written : (c : Command) → r ≡ Ok c → InRange c × (s ≡ written c)
  pub reads_back : (c : Command) → InRange c → s ≡ written c → r ≡ Ok c
  pub departs : (w : Misfit) → r ≡ Err w → Departs s w
