use Rattle.history.proofs.law_stands.Goals as goal
use Rattle.history.proofs.Counting.{count_bounds}
use Rattle.history.proofs.Stands.{law, stays_sound}

pub returns-clause-law : goal.returns-clause-law
returns-clause-law g c = law g.P.Policy.facts g.P.Policy.after g.P.Policy.STRICT g.met.P.Policy.keeps g.met.P.Policy.proper

pub returns-clause-sound : goal.returns-clause-sound
returns-clause-sound g c = stays_sound g.P.Policy.facts g.P.Policy.after g.P.Policy.STRICT g.met.P.Policy.keeps g.met.P.Policy.proper

pub returns-clause-counts : goal.returns-clause-counts
returns-clause-counts g c = count_bounds
