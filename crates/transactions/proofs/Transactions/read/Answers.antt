use Rattle.std.proofs.Common.{Some, sym, ap, ◌∙◌}
use Rattle.transactions.specs.Rows.{sets, notes, note_in}
use Rattle.transactions.proofs.Puts.{put_has_read, none_has_read, put_kept}
use Rattle.transactions.proofs.Transactions.read.Goals as goal

pub returns-in-Some-clause-sets : goal.returns-in-Some-clause-sets
unfolding sets
returns-in-Some-clause-sets g c =
    put_has_read _ _ _ _ _ _ (sym c.row.ensures ∙ c.in-Some.is) c.put.ensures c.with_read.ensures.reads c.with_read.ensures.writes

pub returns-in-Some-clause-notes : goal.returns-in-Some-clause-notes
unfolding notes
returns-in-Some-clause-notes g c =
    put_kept _ _ _ _ c.put.ensures (ap (λ n. Some n) c.with_read.ensures.note ∙ ap note_in (sym c.in-Some.is ∙ c.row.ensures))

pub returns-in_default-clause-sets : goal.returns-in_default-clause-sets
unfolding sets
returns-in_default-clause-sets g c = none_has_read _ _ _ (sym c.row.ensures ∙ c.in_default.is)
