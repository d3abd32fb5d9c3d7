-- What a begin that hands out a ticket answers.
use Rattle.std.specs.Prelude.{◌≡◌, ℕ, Ok, Err, Result}
use Rattle.std.proofs.Math.Option.{Option, some}
use Rattle.history.specs.Calls.{Answer, done}
use Rattle.table.specs.Faults.{refusal_of}
use Rattle.table.specs.Views.{refusing}
use Rattle.table.specs.declared.fault.TableFault.{TableFault}
use Rattle.table.specs.declared.ticket.Ticket.{Ticket}

abbrev pub ticket_or : Result Ticket TableFault → Option Answer
ticket_or (Ok ticket) = some done
ticket_or (Err f) = refusing (refusal_of f)

-- a ticket, where there is one, is for task t
abbrev pub HandsOut : ℕ → Result Ticket TableFault → Type 0
HandsOut t (Ok ticket) = ticket.task ≡ t
HandsOut t (Err f) = Unit {0}
