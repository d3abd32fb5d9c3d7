use Rattle.table.proofs.stages.Stages.set_pending.Goals as goal

pub returns-in-Open-clause-whole : goal.returns-in-Open-clause-whole
returns-in-Open-clause-whole c = rw (← c.from.ensures.0, c.in-Open.is) c.set_value.ensures.all
