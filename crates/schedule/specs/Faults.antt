-- The numbers of a text's faults, and the lines that they are printed under.
use Rattle.std.specs.Prelude.{ℕ}
use Rattle.schedule.specs.declared.fault.TextFault.{TextFault}
use Rattle.schedule.specs.declared.fault.TextFault.TheVariants.{Misshapen, NoPolicy, TooLong, Refused}

-- 5, 6 and 7, or the number of the table's fault
abbrev pub fault_number : {F : Type 0} → (F → ℕ) → TextFault F → ℕ
fault_number inner (Misshapen line misfit) = 5
fault_number inner NoPolicy = 6
fault_number inner TooLong = 7
fault_number inner (Refused line fault) = inner fault

-- the line that a fault is printed under: a missing first line is line 1, and a text that is too long is line 0
abbrev pub fault_line : {F : Type 0} → TextFault F → ℕ
fault_line (Misshapen line misfit) = line
fault_line NoPolicy = 1
fault_line TooLong = 0
fault_line (Refused line fault) = line
