-- The command lines of a schedule, for every byte string: which command a line is, or where it first lacks the form.
use Rattle.std.specs.Prelude.{ℕ, cond, List, [], ◌∷◌, ℤ, Some, None, Ok, Err, Option, Result, ◌==◌}
use Rattle.schedule.specs.Pieces.{fields}
use Rattle.schedule.specs.Numbers.{number_field, value_field, highest_index}
use Rattle.schedule.specs.declared.command.Command.{Command}
use Rattle.schedule.specs.declared.command.Command.TheVariants.{Begin, Read, Write, Commit, Abort}
use Rattle.schedule.specs.declared.command.Expected.TheVariants.{Letter, Task, Variable, Value, End}
use Rattle.schedule.specs.declared.command.Misfit.{Misfit}

-- the fields that are missing or wrong, by what should stand there
abbrev pub no_letter : Misfit
no_letter = record { field = 1; expected = Letter }

abbrev pub no_task : Misfit
no_task = record { field = 2; expected = Task }

abbrev pub no_variable : Misfit
no_variable = record { field = 3; expected = Variable }

abbrev pub no_value : Misfit
no_value = record { field = 4; expected = Value }

-- field n is too many
abbrev pub no_end : ℕ → Misfit
no_end n = record { field = n; expected = End }

module _ {A : Type 0} where
  abbrev pub given : {X : Type 0} → Option X → Misfit → (X → Result A Misfit) → Result A Misfit
  given None wrong more = Err wrong
  given (Some x) wrong more = more x

  -- the next field as `reads` has it, and then what `more` says of the fields after it
  abbrev pub next : {X : Type 0} → (List ℕ → Option X) → Misfit → List (List ℕ) → (X → List (List ℕ) → Result A Misfit) → Result A Misfit
  next reads wrong [] more = Err wrong
  next reads wrong (f ∷ fs) more = given (reads f) wrong (λ x. more x fs)

  abbrev pub task_then : List (List ℕ) → (ℕ → List (List ℕ) → Result A Misfit) → Result A Misfit
  task_then fs more = next (number_field highest_index) no_task fs more

  abbrev pub variable_then : List (List ℕ) → (ℕ → List (List ℕ) → Result A Misfit) → Result A Misfit
  variable_then fs more = next (number_field highest_index) no_variable fs more

  -- x, if there is no field n
  abbrev pub ends : ℕ → List (List ℕ) → A → Result A Misfit
  ends n [] x = Ok x
  ends n (f ∷ fs) x = Err (no_end n)

-- the last field of a line; field n would be too many
abbrev pub last : {A : Type 0} → (List ℕ → Option A) → Misfit → ℕ → List (List ℕ) → Result A Misfit
last reads wrong n fs = next reads wrong fs (λ x rest. ends n rest x)

abbrev pub last_task : List (List ℕ) → Result ℕ Misfit
last_task fs = last (number_field highest_index) no_task 3 fs

abbrev pub last_variable : List (List ℕ) → Result ℕ Misfit
last_variable fs = last (number_field highest_index) no_variable 4 fs

abbrev pub last_value : List (List ℕ) → Result ℤ Misfit
last_value fs = last value_field no_value 5 fs

-- the command that a line's last field completes
abbrev pub made : {A : Type 0} → (A → Command) → Result A Misfit → Result Command Misfit
made make (Ok x) = Ok (make x)
made make (Err wrong) = Err wrong

-- `R` with a task and a variable
abbrev pub read_of : List (List ℕ) → Result Command Misfit
read_of fs = task_then fs (λ t more. made (Read t) (last_variable more))

-- `W` with a task, a variable and a value
abbrev pub write_of : List (List ℕ) → Result Command Misfit
write_of fs = task_then fs (λ t more. variable_then more (λ v most. made (Write t v) (last_value most)))

-- a letter, B, R, W, C or A, and the fields after it
abbrev pub lettered : ℕ → List (List ℕ) → Result Command Misfit
lettered l fs =
    cond (l == 66) (made Begin (last_task fs))
    (cond (l == 82) (read_of fs)
    (cond (l == 87) (write_of fs)
    (cond (l == 67) (made Commit (last_task fs))
    (cond (l == 65) (made Abort (last_task fs))
    (Err no_letter)))))

abbrev pub command_of : List (List ℕ) → Result Command Misfit
command_of [] = Err no_letter
command_of ([] ∷ fs) = Err no_letter
command_of ((l ∷ []) ∷ fs) = lettered l fs
command_of ((l ∷ b ∷ s) ∷ fs) = Err no_letter

-- what a line is
abbrev pub parsed : List ℕ → Result Command Misfit
parsed s = command_of (fields s)
