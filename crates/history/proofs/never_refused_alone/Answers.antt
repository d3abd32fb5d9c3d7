use Rattle.history.proofs.never_refused_alone.Goals as goal
use Rattle.history.proofs.Stands.{lawful_alone}

pub returns-clause-alone : goal.returns-clause-alone
returns-clause-alone g c = λ a b h new run. lawful_alone h b.shared (c.law_stands.ensures.law a b h new run)
