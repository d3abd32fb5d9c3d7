use Rattle.std.proofs.Common.{rules, arith}
use Rattle.clock.specs.declared.state.Clock.{Clock}
use Rattle.clock.specs.Told.{rows_active}
use Rattle.clock.proofs.Moving.{begun_held}
use Rattle.clock.proofs.calls.ClockPolicy.begin.Goals as goal

pub returns-clause-moved : goal.returns-clause-moved
returns-clause-moved c =
    let p : Clock = c.args.self.now in
    record {
      call = grind (arith, rows_active);
      step = begun_held p.clock p.versions p.transactions _ c.args.task (search rules) (search rules) (search rules);
    }
