use Rattle.std.proofs.Common.{rules, ◌∙◌}
use Rattle.varset.specs.Members.{member}
use Rattle.own.proofs.States.{state_committed}
use Rattle.own.proofs.OwnPolicy.commit.Goals as goal

pub returns-clause-moved : goal.returns-clause-moved
returns-clause-moved c = record {
  call = search rules;
  holds =
      c.end-2.ensures
      ∙ state_committed c.args.self.now.transactions c.overtake.new.self.transactions c.args.task (member c.in_ok-transaction.transaction.writes)
      c.in_ok-transaction.ensures.tells.writes c.overtake.ensures;
}
