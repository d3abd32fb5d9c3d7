use Rattle.std.proofs.lemmas.Result.{err_from_is_err_and}
use Rattle.table.proofs.Ending.{commit_turned_down, commit_granted, commit_refused_by}
use Rattle.table.proofs.table.Table.commit.Goals as goal

pub returns-in_err-task : goal.returns-in_err-task
returns-in_err-task g c sound =
    let p = err_from_is_err_and c.from_residual.result c.from_residual.ensures.1 in
    rw (p.1, p.2) (commit_turned_down g.P.Policy g.met.P.Policy.keeps g.met.P.Policy.proper c.args.task c.in_err-task.field-0.0 c.args.self.now sound
    c.in_err-task.ensures.answer c.check.ensures.moved)

pub returns : goal.returns
returns g c sound =
    commit_granted g.P.Policy g.met.P.Policy.keeps g.met.P.Policy.proper c.args.task c.args.self.now c.commit-answer.new.self sound c.from.ensures.0
    c.check.new.self c.in_ok-task.ensures.answer c.check.ensures.moved c.look_all-seen.result
    c.look_all-seen.ensures
    c.in_ok-granted.ensures.answer c.in_ok-granted.ensures.moved c.set.ensures

pub returns-in_err-granted : goal.returns-in_err-granted
returns-in_err-granted g c sound =
    let p = err_from_is_err_and c.from_residual-in_err-granted.result c.from_residual-in_err-granted.ensures.1 in
    rw (p.1, p.2) (commit_refused_by g.P.Policy g.met.P.Policy.keeps g.met.P.Policy.proper c.args.task c.args.self.now c.commit-answer.new.self sound c.from.ensures.0
    c.check.new.self c.in_ok-task.ensures.answer c.check.ensures.moved c.in_err-granted.ensures.answer c.in_err-granted.ensures.moved c.set.ensures)
