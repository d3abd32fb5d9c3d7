use Rattle.std.proofs.Common.{refl, to_z-of_z, w32, SFits, rules}
use Rattle.std.proofs.lemmas.Result.{err_from_is_err_and}
use Rattle.history.specs.Calls.{read}
use Rattle.table.proofs.Accessing.{read_granted, read_refused_by}
use Rattle.table.proofs.StepMaking.{turned_down}
use Rattle.table.proofs.table.Table.read.Goals as goal

pub returns-in_err-task : goal.returns-in_err-task
returns-in_err-task g c sound =
    let p = err_from_is_err_and c.from_residual.result c.from_residual.ensures.1 in
    rw (p.1, p.2) (turned_down g.P.Policy g.met.P.Policy.keeps g.met.P.Policy.proper (c.args.task, c.args.variable) (read c.args.task c.args.variable) c.in_err-task.field-0.0
    c.args.self.now sound c.in_err-task.ensures.answer c.check_access.ensures.same (λ x s. refl))

pub returns-in_err-break_if_refused : goal.returns-in_err-break_if_refused
returns-in_err-break_if_refused g c sound =
    let p = err_from_is_err_and c.from_residual-in_err-break_if_refused.result c.from_residual-in_err-break_if_refused.ensures.1 in
    rw (p.1, p.2) (read_refused_by g.P.Policy g.met.P.Policy.keeps g.met.P.Policy.proper c.args.task c.args.variable c.args.self.now c.ask_read-answer.new.policy
    c.check_access.new.self.all sound c.in_ok-task.ensures.answer c.check_access.ensures.same c.from.ensures.0 c.from-2.ensures.0
    c.in_err-break_if_refused.ensures.same c.ask_read-answer.ensures.answer c.ask_read-answer.ensures.moved c.in_err-break_if_refused.ensures.moved)

pub returns : goal.returns
returns g c sound =
    let fits : SFits w32 c.look-value.result = search rules in
    rw (to_z-of_z fits) (read_granted g.P.Policy g.met.P.Policy.keeps g.met.P.Policy.proper c.args.task c.args.variable c.args.self.now c.ask_read-answer.new.policy
    c.check_access.new.self.all sound c.in_ok-task.ensures.answer c.check_access.ensures.same c.from.ensures.0 c.from-2.ensures.0
    c.look-value.result c.look-value.ensures c.in_ok-break_if_refused.ensures.same c.ask_read-answer.ensures.answer c.ask_read-answer.ensures.moved
    c.in_ok-break_if_refused.ensures.moved)
