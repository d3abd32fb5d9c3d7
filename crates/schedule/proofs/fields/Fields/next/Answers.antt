use Rattle.std.proofs.Common.{sym, ap, ◌∙◌}
use Rattle.schedule.specs.Pieces.{fields_left}
use Rattle.schedule.proofs.Cuts.{fields_cut}
use Rattle.schedule.proofs.fields.Fields.next.Goals as goal

pub returns : goal.returns
returns c =
    sym c.self.view_is
    ∙ ap fields_left c.in_ok-self.was
    ∙ fields_cut c.in_ok-self.field-0.now c.cut.result.0.now c.cut.result.1 c.cut.ensures
