use Rattle.own.proofs.States.{state_ended}
use Rattle.own.proofs.Own.end.Goals as goal

pub returns : goal.returns
returns c = state_ended c.args.self.now.transactions c.end.new.self c.args.task c.end.ensures.sets c.end.ensures.notes
