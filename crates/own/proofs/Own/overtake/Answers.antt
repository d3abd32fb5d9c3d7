use Rattle.std.proofs.Common.{arith}
use Rattle.std.proofs.lemmas.Bool.Decides.{nat_tests}
use Rattle.transactions.specs.Rows.{row}
use Rattle.own.proofs.Own.overtake.Goals as goal

pub returns : goal.returns
unfolding row
returns c u = let i = c.loop-row.invariant u in grind (arith, nat_tests)
