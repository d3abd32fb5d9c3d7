-- The law of parsing.
use Rattle.std.proofs.Common.{◌≡◌, ℕ, List, Result, sym, refl, ap, ◌∙◌}
use Rattle.schedule.specs.declared.command.Command.{Command}
use Rattle.schedule.specs.declared.command.Misfit.{Misfit}
use Rattle.schedule.specs.Pieces.{fields}
use Rattle.schedule.specs.Grammar.{parsed}
use Rattle.schedule.specs.Written.{Taken}
use Rattle.schedule.proofs.Writing.{command_is, reads_back}
use Rattle.schedule.proofs.Departing.{departs}

pub taken : (s : List ℕ) (r : Result Command Misfit) → r ≡ parsed s → Taken s r
taken s r e = record {
  is_written = λ c q. command_is s (fields s) c refl (sym e ∙ q);
  reads_back = λ c h q. e ∙ ap parsed q ∙ reads_back c h;
  departs = λ w q. departs s w (sym e ∙ q);
}
