use Rattle.std.proofs.Common.{◌≡◌, ap, ◌∙◌, rules}
use Rattle.schedule.specs.declared.fault.RefusedLine.{RefusedLine}
use Rattle.schedule.specs.declared.fault.TextFault.TheVariants.{Refused}
use Rattle.table.specs.declared.fault.TableFault.{TableFault}
use Rattle.std.proofs.lemmas.Result.{err_from_is_err_and}
use Rattle.play.proofs.Obeying.{kept, turned, granted_line, refused_line, bad_line}
use Rattle.play.proofs.running.obey.Goals as goal

pub returns-in_err-command : goal.returns-in_err-command
returns-in_err-command g c sound =
    let p = err_from_is_err_and c.from_residual.result c.from_residual.ensures.1 in
    bad_line g.P.Policy c.args.line.number c.in_err-command.field-0.0 p.1 p.2 c.in_err-command.ensures sound

pub returns-in_err-outcome : goal.returns-in_err-outcome
returns-in_err-outcome g c sound =
    let t = turned c.perform.result c.map_err.result _ c.in_err-outcome.field-0.0 c.in_err-outcome.was c.map_err.ensures.cases in
    let p = err_from_is_err_and c.from_residual-in_err-outcome.result c.from_residual-in_err-outcome.ensures.1 in
    let q : c.in_err-outcome.field-0.0 ≡ record { line = c.args.line.number; fault = t.0 } = search rules in
    let f : p.0 ≡ Refused c.args.line.number t.0 = p.2 ∙ ap (λ (b : RefusedLine TableFault). Refused b.line b.fault) q in
    rw p.1 (refused_line g.P.Policy f c.in_ok-command.ensures (rw t.1 at (c.perform.ensures sound)))

pub returns : goal.returns
returns g c sound =
    let e = kept c.perform.result c.map_err.result _ c.in_ok-outcome.outcome c.in_ok-outcome.was c.map_err.ensures.cases in
    granted_line g.P.Policy c.args.line.number c.in_ok-outcome.outcome c.in_ok-command.ensures (rw e at (c.perform.ensures sound))
