use Rattle.std.proofs.Common.{refl, ◌∙◌}
use Rattle.std.proofs.lemmas.List.{set-get_or}
use Rattle.std.proofs.lemmas.Result.{err_from_is_err_and}
use Rattle.history.specs.Calls.{abort}
use Rattle.table.specs.declared.stage.Stage.TheVariants.{Idle}
use Rattle.table.proofs.Ending.{abort_granted}
use Rattle.table.proofs.StepMaking.{turned_down}
use Rattle.table.proofs.table.Table.abort.Goals as goal

pub returns-in_err-task : goal.returns-in_err-task
returns-in_err-task g c sound =
    let p = err_from_is_err_and c.from_residual.result c.from_residual.ensures.1 in
    rw (p.1, p.2) (turned_down g.P.Policy g.met.P.Policy.keeps g.met.P.Policy.proper c.args.task (abort c.args.task) c.in_err-task.field-0.0
    c.args.self.now sound c.in_err-task.ensures.answer (c.check.ensures.moved ∙ set-get_or c.args.self.now.stages.all c.args.task Idle) (λ x s. refl))

pub returns : goal.returns
returns g c sound =
    abort_granted g.P.Policy g.met.P.Policy.keeps g.met.P.Policy.proper c.args.task c.args.self.now c.abort.new.self sound c.from.ensures.0
    c.in_ok-task.ensures.answer c.check.ensures.moved c.abort.ensures.answer c.abort.ensures.moved c.set.ensures
