-- Each answer is that of the grammar, and so the law of parsing holds of it.
use Rattle.std.proofs.Common.{arith}
use Rattle.std.proofs.lemmas.Grind.{common_steps}
use Rattle.schedule.proofs.Parsed.{taken}
use Rattle.schedule.proofs.parsing.parse.Goals as goal

pub returns-in-len1-clause-taken : goal.returns-in-len1-clause-taken
returns-in-len1-clause-taken c = taken c.args.line.now _ (grind (arith, common_steps))

pub returns-in-32-clause-taken : goal.returns-in-32-clause-taken
returns-in-32-clause-taken c = taken c.args.line.now _ (grind (arith, common_steps))

pub returns-in_default-clause-taken : goal.returns-in_default-clause-taken
returns-in_default-clause-taken c = taken c.args.line.now _ (grind (arith, common_steps))

pub returns-in_default-2-clause-taken : goal.returns-in_default-2-clause-taken
returns-in_default-2-clause-taken c = taken c.args.line.now _ (grind (arith, common_steps))
