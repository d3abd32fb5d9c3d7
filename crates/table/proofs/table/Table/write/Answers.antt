use Rattle.std.proofs.Common.{refl, to_z-of_z}
use Rattle.std.proofs.lemmas.Result.{err_from_is_err_and}
use Rattle.history.specs.Calls.{write}
use Rattle.table.proofs.Accessing.{write_granted, write_refused_by}
use Rattle.table.proofs.StepMaking.{turned_down}
use Rattle.table.proofs.table.Table.write.Goals as goal

pub returns-in_err-task : goal.returns-in_err-task
returns-in_err-task g c sound =
    let p = err_from_is_err_and c.from_residual.result c.from_residual.ensures.1 in
    rw (p.1, p.2) (turned_down g.P.Policy g.met.P.Policy.keeps g.met.P.Policy.proper (c.args.task, c.args.variable) (write c.args.task c.args.variable c.args.value)
    c.in_err-task.field-0.0 c.args.self.now sound c.in_err-task.ensures.answer c.check_access.ensures.same (λ x s. refl))

pub returns-in_err-granted : goal.returns-in_err-granted
returns-in_err-granted g c sound =
    let p = err_from_is_err_and c.from_residual-in_err-granted.result c.from_residual-in_err-granted.ensures.1 in
    rw (p.1, p.2) (write_refused_by g.P.Policy g.met.P.Policy.keeps g.met.P.Policy.proper c.args.task c.args.variable c.args.self.now c.write-answer.new.self
    c.check_access.new.self.all sound c.in_ok-task.ensures.answer c.check_access.ensures.same c.from.ensures.0 c.from-2.ensures.0 c.args.value
    c.in_err-granted.ensures.same c.write-answer.ensures.answer c.write-answer.ensures.moved c.in_err-granted.ensures.moved)

pub returns : goal.returns
returns g c sound =
    write_granted g.P.Policy g.met.P.Policy.keeps g.met.P.Policy.proper c.args.task c.args.variable c.args.self.now c.write-answer.new.self
    c.check_access.new.self.all sound c.in_ok-task.ensures.answer c.check_access.ensures.same c.from.ensures.0 c.from-2.ensures.0 c.args.value
    c.in_ok-granted.ensures.same c.write-answer.ensures.answer c.write-answer.ensures.moved c.in_ok-granted.ensures.moved
    c.set_pending.ensures.whole (rw (to_z-of_z c.ranges.value) at c.set_pending.ensures.changed)
