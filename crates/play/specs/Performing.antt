-- A command as a call on a table.
use Rattle.std.proofs.Math.Option.{Option, some}
use Rattle.std.specs.Prelude.{Ok, Err, Result}
use Rattle.schedule.specs.declared.command.Command.{Command}
use Rattle.schedule.specs.declared.command.Command.TheVariants.{Begin, Read, Write, Commit, Abort}
use Rattle.history.specs.Calls.{Call, begin, read, write, commit, abort, Answer, done, value}
use Rattle.table.specs.Faults.{refusal_of}
use Rattle.table.specs.Views.{refusing}
use Rattle.table.specs.declared.fault.TableFault.{TableFault}
use Rattle.play.specs.declared.outcome.Outcome.{Outcome}
use Rattle.play.specs.declared.outcome.Outcome.TheVariants.{Done, Value}

-- the call that a command is
abbrev pub call_of : Command → Call
call_of (Begin t) = begin t
call_of (Read t v) = read t v
call_of (Write t v x) = write t v x
call_of (Commit t) = commit t
call_of (Abort t) = abort t

-- the table's answer to a command
abbrev pub outcome_or : Result Outcome TableFault → Option Answer
outcome_or (Ok Done) = some done
outcome_or (Ok (Value x)) = some (value x)
outcome_or (Err fault) = refusing (refusal_of fault)
