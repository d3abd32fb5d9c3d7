use Rattle.history.proofs.refuted_histories.Goals as goal
use Rattle.history.proofs.Refutations.{refuted}

pub returns-clause-refuted : goal.returns-clause-refuted
returns-clause-refuted c = refuted
