use Rattle.std.proofs.Common.{◌≡◌, Some, ap, ◌∙◌, rules}
use Rattle.transactions.specs.Rows.{row, sets, notes}
use Rattle.transactions.proofs.Puts.{put_has_read, put_kept}
use Rattle.clock.specs.declared.state.Clock.{Clock}
use Rattle.clock.specs.Rows.{begun_after}
use Rattle.clock.proofs.Moving.{ended_held, read_held, row_found}
use Rattle.clock.proofs.calls.ClockPolicy.read.Goals as goal

pub returns-then-self-from-clause-moved : goal.returns-then-self-from-clause-moved
returns-then-self-from-clause-moved c =
    let p : Clock = c.args.self.now in
    record {
      call = search rules;
      step = ended_held p.clock p.versions p.transactions _ c.args.task (search rules) (search rules) (search rules);
    }

pub returns-clause-moved : goal.returns-clause-moved
unfolding sets notes
returns-clause-moved c =
    let p : Clock = c.args.self.now in
    let fit = c.in_ok-transaction.ensures.fit in
    let was : row p.transactions.rows c.args.task ≡ Some c.in_ok-transaction.transaction =
    row_found _ _ _ _ c.in_ok-transaction.ensures.row in
    record {
      call = search rules;
      step =
          read_held p.clock p.versions p.transactions _ c.args.task c.args.variable fit
          (put_has_read _ _ _ _ _ _ was c.put.ensures (search rules) (search rules))
          (put_kept _ _ _ _ c.put.ensures (search rules));
    }

-- no read version changes
pub invariant_of-self-2-clause-begun : goal.invariant_of-self-2-clause-begun
unfolding sets notes
invariant_of-self-2-clause-begun c t =
    let p : Clock = c.args.self.now in
    let was : row p.transactions.rows c.args.task ≡ Some c.in_ok-transaction.transaction =
    row_found _ _ _ _ c.in_ok-transaction.ensures.row in
    ap (λ n. begun_after p.clock (n t)) (put_kept _ _ _ _ c.put.ensures (search rules)) ∙ p.begun t
