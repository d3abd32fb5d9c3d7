use Rattle.std.proofs.Common.{None, refl}
use Rattle.transactions.specs.Rows.{sets, notes}
use Rattle.transactions.proofs.Puts.{put_ended, put_noted}
use Rattle.transactions.proofs.Transactions.end.Goals as goal

pub returns-clause-sets : goal.returns-clause-sets
unfolding sets
returns-clause-sets g c = put_ended _ _ _ _ c.put.ensures refl (λ w. refl) (λ w. refl)

pub returns-clause-notes : goal.returns-clause-notes
unfolding notes
returns-clause-notes g c = put_noted _ _ _ _ c.put.ensures None refl
