use Rattle.std.proofs.Common.{rules, ℕ, Bool, None, ap, ◌∙◌}
use Rattle.clock.specs.declared.state.Clock.{Clock}
use Rattle.clock.specs.Steps.{with_transaction, published}
use Rattle.clock.specs.Clocks.{held}
use Rattle.clock.proofs.Moving.{ended_held, writes_held}
use Rattle.clock.proofs.calls.ClockPolicy.commit.Goals as goal

pub returns-then-is_stale-clause-moved : goal.returns-then-is_stale-clause-moved
returns-then-is_stale-clause-moved c =
    let p : Clock = c.args.self.now in
    record {
      call = search rules;
      step = ended_held p.clock p.versions p.transactions _ c.args.task (search rules) (search rules) (search rules);
    }

pub returns-clause-moved : goal.returns-clause-moved
returns-clause-moved c =
    let p : Clock = c.args.self.now in
    let q : Clock = c.publish.new.self in
    record {
      call = search rules;
      step =
          ended_held q.clock q.versions q.transactions _ c.args.task (search rules) (search rules) (search rules)
          ∙ ap (with_transaction c.args.task None) c.publish.ensures
          ∙ ap (λ (set : ℕ → Bool). with_transaction c.args.task None (published set (held p)))
          (writes_held p.clock p.versions p.transactions q.transactions c.args.task c.in_ok-transaction.transaction c.in_ok-transaction.ensures.tells);
    }
