use Rattle.policy.specs.Limits.{tasks}
use Rattle.transactions.specs.Rows.{sets, notes}
use Rattle.transactions.proofs.Puts.{none_sets, none_noted}
use Rattle.transactions.proofs.Transactions.new.Goals as goal

pub returns-clause-sets : goal.returns-clause-sets
unfolding sets
returns-clause-sets g c = none_sets _ tasks

pub returns-clause-notes : goal.returns-clause-notes
unfolding notes
returns-clause-notes g c = none_noted _ tasks
