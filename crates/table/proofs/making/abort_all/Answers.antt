use Rattle.std.proofs.Common.{◌≡◌, ◌<◌, arith}
use Rattle.policy.specs.Limits.{tasks}
use Rattle.table.proofs.Clearing.{Cleared, cleared_none, cleared_more, cleared_all}
use Rattle.table.proofs.making.abort_all.Goals as goal

pub loop-task-init : goal.loop-task-init
loop-task-init g c = cleared_none g.P.Policy c.args.policy.now

pub loop-task-preserved : goal.loop-task-preserved
loop-task-preserved g c =
    let below : c.loop-task.task < tasks = omega arith in
    cleared_more g.P.Policy g.met.P.Policy.keeps
    c.args.policy.now c.loop-task.policy c.abort.new.self c.loop-task.task c.abort.result below
    c.loop-task.invariant c.abort.ensures.answer c.abort.ensures.moved

pub returns : goal.returns
returns g c =
    let end : c.loop-task.task ≡ tasks = omega arith in
    let all : Cleared g.P.Policy c.args.policy.now tasks c.loop-task.policy = rw end at c.loop-task.invariant in
    record { aborted = all.aborted; fresh = cleared_all g.P.Policy g.met.P.Policy.proper c.args.policy.now c.loop-task.policy all }
