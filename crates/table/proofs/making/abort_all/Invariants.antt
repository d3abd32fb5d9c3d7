use Rattle.table.proofs.Clearing.{Cleared}
use Rattle.table.proofs.making.abort_all.Given as goal

abbrev pub invariant-loop-task : goal.invariant-loop-task
invariant-loop-task g l = Cleared g.P.Policy l.initial.policy l.task l.policy
