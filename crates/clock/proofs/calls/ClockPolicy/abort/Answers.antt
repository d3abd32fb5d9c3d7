use Rattle.std.proofs.Common.{rules}
use Rattle.clock.specs.declared.state.Clock.{Clock}
use Rattle.clock.proofs.Moving.{ended_held}
use Rattle.clock.proofs.calls.ClockPolicy.abort.Goals as goal

pub returns-clause-moved : goal.returns-clause-moved
returns-clause-moved c =
    let p : Clock = c.args.self.now in
    record {
      call = search rules;
      step = ended_held p.clock p.versions p.transactions _ c.args.task (search rules) (search rules) (search rules);
    }
