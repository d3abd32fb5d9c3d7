-- The checks that a call passes before the policy is asked, and the table's result by the first that fails.
use Rattle.std.specs.Prelude.{◌≡◌, ℕ, List, length, ℤ, Ok, Err, Result, nat_lt, slice_index_or, slice_set}
use Rattle.std.proofs.Math.Option.{Option, none, some}
use Rattle.policy.specs.Limits.{tasks, variables}
use Rattle.history.specs.Calls.{Wrong, no_task, Untimely}
use Rattle.history.specs.Answers.{unless, must_be_idle, must_be_active, must_not_be_idle}
use Rattle.table.specs.Faults.{wrong_fault, untimely_fault}
use Rattle.table.specs.Views.{stage_of}
use Rattle.table.specs.declared.fault.TableFault.{TableFault}
use Rattle.table.specs.declared.stage.Stage.{Stage}
use Rattle.table.specs.declared.stage.Stage.TheVariants.{Idle, Open, Broken}
use Rattle.table.specs.declared.stage.Call.{Call}
use Rattle.table.specs.declared.stage.Call.TheVariants.{Begin, Access, Commit, Abort}

-- the result of the checks: how the call was sent first, then its time; x is what passed them
abbrev pub passed : {A : Type 0} → A → Option Wrong → Option Untimely → Result A TableFault
passed x (some why) late = Err (wrong_fault why)
passed x none (some why) = Err (untimely_fault why)
passed x none none = Ok x

-- there is such a task
abbrev pub task_wrong : ℕ → Option Wrong
task_wrong t = unless (nat_lt t tasks) no_task

-- what is wrong with the time of a call, by the stage of its task
abbrev pub call_untimely : Call → Stage → Option Untimely
call_untimely Begin s = must_be_idle (stage_of s)
call_untimely Access s = must_be_active (stage_of s)
call_untimely Commit s = must_be_active (stage_of s)
call_untimely Abort s = must_not_be_idle (stage_of s)

-- the stage once the call has come: a commit makes a broken task idle
abbrev pub once_called : Call → Stage → Stage
once_called Begin s = s
once_called Access s = s
once_called Commit Idle = Idle
once_called Commit (Open pending) = Open pending
once_called Commit Broken = Idle
once_called Abort s = s

-- the stages once the call of task t has come
abbrev pub all_once_called : Call → ℕ → List Stage → List Stage
all_once_called call t stages = slice_set stages t (once_called call (slice_index_or stages t Idle))

-- the stages once an access of task t was answered: a refusal breaks the task
abbrev pub once_answered : {A F : Type 0} → Result A F → ℕ → List Stage → List Stage
once_answered (Ok x) t stages = stages
once_answered (Err f) t stages = slice_set stages t Broken

-- the stage with one pending value changed, if the task is in a transaction
abbrev pub with_pending : Stage → ℕ → ℤ → Stage
with_pending Idle v x = Idle
with_pending (Open pending) v x = Open (slice_set pending v x)
with_pending Broken v x = Broken

-- a transaction has a place for a pending value of each variable
abbrev pub Whole : Stage → Type 0
Whole Idle = Unit {0}
Whole (Open pending) = length pending ≡ variables
Whole Broken = Unit {0}
