use Rattle.std.proofs.Common.{rules}
use Rattle.schedule.proofs.Numerals.{limit_written}
use Rattle.schedule.proofs.display.TextFaultDisplay.fmt.Goals as goal

pub returns-in-TooLong-clause-writes : goal.returns-in-TooLong-clause-writes
returns-in-TooLong-clause-writes g c = search (rules, limit_written)
