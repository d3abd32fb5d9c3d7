-- What the table's faults mean among the refusals of a history, and their numbers.
use Rattle.std.specs.Prelude.{ℕ}
use Rattle.std.proofs.Math.Option.{Option, none, some}
use Rattle.policy.specs.declared.PolicyFault.{PolicyFault}
use Rattle.policy.specs.declared.PolicyFault.TheVariants.{Unfit, ReadBarred, WriteBarred, CommitRefused}
use Rattle.history.specs.Calls.{single, listed, Wrong, no_task, no_variable, list_length, short_buffer, Untimely, not_idle, is_idle, is_broken, read_barred, write_barred, commit_barred}
use Rattle.history.specs.Calls.{Place as HistoryPlace, Refusal, sent_wrongly, at_wrong_time, by_policy, number}
use Rattle.table.specs.declared.fault.Place.{Place}
use Rattle.table.specs.declared.fault.Place.TheVariants.{Single, Listed}
use Rattle.table.specs.declared.fault.TableFault.{TableFault}
use Rattle.table.specs.declared.fault.TableFault.TheVariants.{NoTask, NoVariable, ListLength, ShortBuffer, NotIdle, IsIdle, IsBroken, Refused}

abbrev pub place_of : Place → HistoryPlace
place_of Single = single
place_of (Listed i) = listed i

-- the refusal by a policy's fault; that a call is unfit for the policy is none that a table answers
abbrev pub policy_refusal : Place → PolicyFault → Option Refusal
policy_refusal place Unfit = none
policy_refusal place (ReadBarred v) = some (by_policy (read_barred (place_of place) v))
policy_refusal place (WriteBarred v) = some (by_policy (write_barred v))
policy_refusal place CommitRefused = some (by_policy commit_barred)

abbrev pub refusal_of : TableFault → Option Refusal
refusal_of NoTask = some (sent_wrongly no_task)
refusal_of (NoVariable place) = some (sent_wrongly (no_variable (place_of place)))
refusal_of ListLength = some (sent_wrongly list_length)
refusal_of ShortBuffer = some (sent_wrongly short_buffer)
refusal_of NotIdle = some (at_wrong_time not_idle)
refusal_of IsIdle = some (at_wrong_time is_idle)
refusal_of IsBroken = some (at_wrong_time is_broken)
refusal_of (Refused place why) = policy_refusal place why

-- the number of a refusal, and of what is none
abbrev pub number_or_unfit : Option Refusal → ℕ
number_or_unfit none = 13
number_or_unfit (some x) = number x

-- the number of a fault
abbrev pub numbered : TableFault → ℕ
numbered f = number_or_unfit (refusal_of f)

-- the fault of a policy in a call that names one variable or none
abbrev pub refused_single : PolicyFault → TableFault
refused_single why = Refused Single why

-- the fault of a call that was sent wrongly
abbrev pub wrong_fault : Wrong → TableFault
wrong_fault no_task = NoTask
wrong_fault (no_variable single) = NoVariable Single
wrong_fault (no_variable (listed i)) = NoVariable (Listed i)
wrong_fault list_length = ListLength
wrong_fault short_buffer = ShortBuffer

-- the fault of a call that came at the wrong time
abbrev pub untimely_fault : Untimely → TableFault
untimely_fault not_idle = NotIdle
untimely_fault is_idle = IsIdle
untimely_fault is_broken = IsBroken
