use Rattle.std.proofs.Common.{◌+◌, ◌-◌, ◌*◌, get_or, drop, arith}
use Rattle.std.proofs.lemmas.Grind.{common_steps}
use Rattle.schedule.proofs.Sums.{stays_large}
use Rattle.schedule.proofs.number.total.Goals as goal

pub returns-then-sum-from-clause-value : goal.returns-then-sum-from-clause-value
returns-then-sum-from-clause-value c =
    let s = c.args.digits.now in
    let i = c.loop-d.d-index in
    let large = stays_large c.args.top (c.loop-d.sum * 10 + (get_or s i 0 - 48)) (drop (i + 1) s) (omega arith) in
    grind (arith, common_steps)
