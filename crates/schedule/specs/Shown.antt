-- What is printed of a fault: its line, ` no ` and its number, and what was expected there.
use Rattle.std.specs.Prelude.{ℕ, List, ◌++◌, codes, decimal}
use Rattle.schedule.specs.declared.command.Expected.{Expected}
use Rattle.schedule.specs.declared.command.Expected.TheVariants.{Letter, Task, Variable, Value, End}
use Rattle.schedule.specs.declared.fault.TextFault.{TextFault}
use Rattle.schedule.specs.declared.fault.TextFault.TheVariants.{Misshapen, NoPolicy, TooLong, Refused}
use Rattle.schedule.specs.Faults.{fault_line, fault_number}

abbrev pub expected_text : Expected → List ℕ
expected_text Letter = codes "B, R, W, C or A"
expected_text Task = codes "a task from 0 to 255"
expected_text Variable = codes "a variable from 0 to 255"
expected_text Value = codes "a value from -2147483648 to 2147483647"
expected_text End = codes "the end of the line"

abbrev pub policies_text : List ℕ
policies_text = codes "lock, own or clock, or eager, a space and one of these"

abbrev pub limit_text : List ℕ
limit_text = codes "at most 60000 bytes"

-- what was expected
abbrev pub detail : {F : Type 0} → TextFault F → List ℕ
detail (Misshapen line misfit) = codes ", field " ++ (decimal misfit.field ++ (codes ": expected " ++ expected_text misfit.expected))
detail NoPolicy = codes ": expected " ++ policies_text
detail TooLong = codes ": expected " ++ limit_text
detail (Refused line fault) = codes ""

abbrev pub fault_text : {F : Type 0} → (F → ℕ) → TextFault F → List ℕ
fault_text inner t = decimal (fault_line t) ++ (codes " no " ++ (decimal (fault_number inner t) ++ detail t))
