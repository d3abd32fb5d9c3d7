use Rattle.std.proofs.Common.{rules}
use Rattle.schedule.proofs.Cuts.{cut_at}
use Rattle.schedule.proofs.pieces.cut.Goals as goal

pub returns-then-b-at : goal.returns-then-b-at
returns-then-b-at c = cut_at c.args.text.now c.args.at c.loop-i.i (search rules) (search rules) c.loop-i.invariant
