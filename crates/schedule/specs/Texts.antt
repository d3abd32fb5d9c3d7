-- A whole text: its first line, its commands, and all that is wrong with it.
use Rattle.std.specs.Prelude.{ℕ, ◌+◌, cond, List, [], ◌∷◌, ◌++◌, length, Ok, Err, Result, nat_lt}
use Rattle.std.specs.Option.{ok_or}
use Rattle.schedule.specs.declared.choice.Choice.{Choice}
use Rattle.schedule.specs.declared.command.Command.{Command}
use Rattle.schedule.specs.declared.command.Misfit.{Misfit}
use Rattle.schedule.specs.declared.fault.BadLine.{BadLine}
use Rattle.schedule.specs.declared.fault.OverLong.{OverLong}
use Rattle.schedule.specs.declared.fault.TextFault.{TextFault}
use Rattle.schedule.specs.declared.fault.TextFault.TheVariants.{Misshapen, NoPolicy, TooLong}
use Rattle.schedule.specs.Pieces.{lines}
use Rattle.schedule.specs.Choices.{chosen}
use Rattle.schedule.specs.Grammar.{parsed}

-- how many bytes a text may have
abbrev pub longest_text : ℕ
longest_text = 60000

abbrev pub short_enough : List ℕ → Result (Unit {0}) OverLong
short_enough s = cond (nat_lt longest_text (length s)) (Err (record {})) (Ok tt)

-- the policy that the first line names
abbrev pub named_by : {F : Type 0} → List (List ℕ) → Result Choice (TextFault F)
named_by [] = Err NoPolicy
named_by (l ∷ ls) = ok_or (chosen l) NoPolicy

-- the policy of a text, which is refused first for its length
abbrev pub header_of : {F : Type 0} → List ℕ → Result Choice (TextFault F)
header_of s = cond (nat_lt longest_text (length s)) (Err TooLong) (named_by (lines s))

-- what line n is
abbrev pub command_at : ℕ → Result Command Misfit → Result Command BadLine
command_at n (Ok c) = Ok c
command_at n (Err w) = Err (record { line = n; misfit = w })

-- the same, with the fault as the text's
abbrev pub judged : {F : Type 0} → ℕ → Result Command Misfit → Result Command (TextFault F)
judged n (Ok c) = Ok c
judged n (Err w) = Err (Misshapen n w)

-- the fault that an answer holds, if it holds one
abbrev pub fault_in : {A F : Type 0} → Result A (TextFault F) → List (TextFault F)
fault_in (Ok x) = []
fault_in (Err f) = f ∷ []

-- the faults of the lines from line n on
abbrev pub faults_from : {F : Type 0} → ℕ → List (List ℕ) → List (TextFault F)
faults_from n [] = []
faults_from n (l ∷ ls) = fault_in (judged n (parsed l)) ++ faults_from (n + 1) ls

-- the faults of all lines but the first
abbrev pub command_faults : {F : Type 0} → List (List ℕ) → List (TextFault F)
command_faults [] = []
command_faults (l ∷ ls) = faults_from 2 ls

-- all faults of a text, in the order of its lines; of a text that is too long only that
abbrev pub faults : {F : Type 0} → List ℕ → List (TextFault F)
faults s = fault_in (header_of s) ++ cond (nat_lt longest_text (length s)) [] (command_faults (lines s))

-- how many lines of a text are looked at
abbrev pub looked_at : List ℕ → ℕ
looked_at s = cond (nat_lt longest_text (length s)) 0 (length (lines s))
