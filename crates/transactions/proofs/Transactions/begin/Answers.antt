use Rattle.std.proofs.Common.{Some, refl, ap}
use Rattle.transactions.specs.Rows.{sets, notes}
use Rattle.transactions.proofs.Puts.{put_begun, put_noted}
use Rattle.transactions.proofs.Transactions.begin.Goals as goal

pub returns-clause-sets : goal.returns-clause-sets
unfolding sets
returns-clause-sets g c = put_begun _ _ _ _ c.put.ensures refl c.begin.ensures.reads c.begin.ensures.writes

pub returns-clause-notes : goal.returns-clause-notes
unfolding notes
returns-clause-notes g c = put_noted _ _ _ _ c.put.ensures (Some c.args.note) (ap (λ n. Some n) c.begin.ensures.note)
