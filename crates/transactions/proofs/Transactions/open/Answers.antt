use Rattle.std.proofs.Common.{is_some, ap, ◌∙◌}
use Rattle.transactions.specs.Rows.{sets}
use Rattle.transactions.proofs.Puts.{there_fit, told_open}
use Rattle.transactions.proofs.Transactions.open.Goals as goal

pub returns-clause-fit : goal.returns-clause-fit
unfolding sets
returns-clause-fit g c = c.ok_or.ensures.variant ∙ ap is_some c.row.ensures ∙ there_fit c.args.self.now.rows c.args.task

pub returns-clause-tells : goal.returns-clause-tells
returns-clause-tells g c = told_open c.args.self.now c.args.task c.row.result c.ok_or.result c.row.ensures c.ok_or.ensures.value
