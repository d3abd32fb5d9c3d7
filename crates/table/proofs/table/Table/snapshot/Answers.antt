use Rattle.std.proofs.Common.{◌≡◌, length, ℕ, get_or, replicate, pos, Ok, Err, refl, sym, ap, ◌∙◌, arith}
use Rattle.std.proofs.lemmas.List.{set-get_or}
use Rattle.std.proofs.lemmas.Result.{err_from_is_err_and}
use Rattle.history.specs.Calls.{snapshot}
use Rattle.history.specs.Answers.{wrong_list, must_be_idle}
use Rattle.table.specs.Faults.{refusal_of}
use Rattle.table.specs.Views.{stage_of}
use Rattle.table.specs.declared.stage.Call.TheVariants.{Begin}
use Rattle.table.specs.declared.stage.Stage.TheVariants.{Idle}
use Rattle.table.proofs.Checking.{passed_anyway}
use Rattle.table.proofs.ListChecks.{list_right, passed_late, admitted}
use Rattle.table.proofs.StepMaking.{turned_down}
use Rattle.table.proofs.CollectSteps.{replied_refusing, left_over}
use Rattle.table.proofs.SnapshotSteps.{snapshot_granted, snapshot_refused, commit_never_refused}
use Rattle.table.proofs.table.Table.snapshot.Goals as goal

pub returns-in_err-task : goal.returns-in_err-task
returns-in_err-task g c =
    let t = c.args.task in
    let vs = c.args.list.now in
    let s = c.args.self.now in
    let room = length c.args.reply.now in
    let len : length c.clear.new.reply ≡ room = omega arith in
    let p = err_from_is_err_and c.from_residual.result c.from_residual.ensures.1 in
    record {
      step = λ sound. rw (p.1, p.2) (turned_down g.P.Policy g.met.P.Policy.keeps g.met.P.Policy.proper t (snapshot t vs room) c.in_err-task.field-0.0 s sound
          (passed_anyway t (wrong_list t vs room) (must_be_idle (stage_of (get_or s.stages.all t Idle))) (rw len at c.in_err-task.ensures)) refl (λ x k. refl));
      buffer = rw p.1 (c.clear.ensures ∙ sym (replied_refusing (refusal_of p.0) room));
    }

pub returns-in_err-admit : goal.returns-in_err-admit
returns-in_err-admit g c =
    let t = c.args.task in
    let vs = c.args.list.now in
    let s = c.args.self.now in
    let room = length c.args.reply.now in
    let len : length c.clear.new.reply ≡ room = omega arith in
    let p = err_from_is_err_and c.from_residual-in_err-admit.result c.from_residual-in_err-admit.ensures.1 in
    record {
      step = λ sound. rw (p.1, p.2) (turned_down g.P.Policy g.met.P.Policy.keeps g.met.P.Policy.proper tt (snapshot t vs room) c.in_err-admit.field-0.0 s sound
          (passed_late Begin t vs room s.stages.all (rw len at c.in_ok-task.ensures) c.in_err-admit.ensures.answer)
          (c.admit.ensures.moved ∙ set-get_or s.stages.all c.in_ok-task.task Idle) (λ x k. refl));
      buffer = rw p.1 (c.clear.ensures ∙ sym (replied_refusing (refusal_of p.0) room));
    }

pub returns-in_err-collected : goal.returns-in_err-collected
returns-in_err-collected g c =
    let t = c.args.task in
    let vs = c.args.list.now in
    let s = c.args.self.now in
    let room = length c.args.reply.now in
    let len : length c.clear.new.reply ≡ room = omega arith in
    let a = admitted Begin t vs room (λ z. refl) (rw len at c.in_ok-task.ensures) c.in_ok-admit.ensures.answer c.admit.ensures.moved in
    let right = list_right t vs room a.fine in
    let p = err_from_is_err_and c.from_residual-in_err-collected.result c.from_residual-in_err-collected.ensures.1 in
    record {
      step = λ sound. rw (p.1, p.2) (snapshot_refused g.P.Policy g.met.P.Policy.keeps g.met.P.Policy.proper t vs room s c.read_list.new.self c.admit.new.self
          c.begin.new.self a c.read_list.ensures.stages c.read_list.ensures.shared sound c.from.ensures.0 c.in_ok-begin.ensures.moved
          c.in_err-collected.field-0.0 c.read_list.new.reply c.in_err-collected.ensures.reads);
      buffer = rw (p.1, p.2) (left_over (Err c.in_err-collected.field-0.0) vs room c.read_list.new.reply (omega arith) (omega arith)
          (rw c.clear.ensures at c.in_err-collected.ensures.leaves));
    }

pub returns : goal.returns
returns g c =
    let t = c.args.task in
    let vs = c.args.list.now in
    let s = c.args.self.now in
    let room = length c.args.reply.now in
    let len : length c.clear.new.reply ≡ room = omega arith in
    let a = admitted Begin t vs room (λ z. refl) (rw len at c.in_ok-task.ensures) c.in_ok-admit.ensures.answer c.admit.ensures.moved in
    let right = list_right t vs room a.fine in
    record {
      step = λ sound. snapshot_granted g.P.Policy g.met.P.Policy.keeps g.met.P.Policy.proper t vs room s c.read_list.new.self c.admit.new.self
          c.begin.new.self a c.read_list.ensures.stages c.read_list.ensures.shared sound c.from.ensures.0 c.in_ok-begin.ensures.moved
          c.in_ok-collected.collected c.read_list.new.reply c.commit.new.self c.in_ok-collected.ensures.reads c.from-2.ensures.0 c.in_default.ensures.moved;
      buffer = left_over (Ok c.in_ok-collected.collected) vs room c.read_list.new.reply (omega arith) (omega arith)
          (rw c.clear.ensures at c.in_ok-collected.ensures.leaves);
    }

pub returns-in-Err : goal.returns-in-Err
returns-in-Err g c =
    let t = c.args.task in
    let vs = c.args.list.now in
    let s = c.args.self.now in
    let room = length c.args.reply.now in
    let len : length c.clear.new.reply ≡ room = omega arith in
    let all : length c.read_list.new.reply ≡ room = omega arith in
    let a = admitted Begin t vs room (λ z. refl) (rw len at c.in_ok-task.ensures) c.in_ok-admit.ensures.answer c.admit.ensures.moved in
    record {
      step = λ sound. absurd (commit_never_refused g.P.Policy g.met.P.Policy.keeps g.met.P.Policy.proper t vs room s c.read_list.new.self c.admit.new.self
          c.begin.new.self a c.read_list.ensures.stages c.read_list.ensures.shared sound c.from.ensures.0 c.in_ok-begin.ensures.moved
          c.in_ok-collected.collected c.read_list.new.reply c.in_ok-collected.ensures.reads c.from-2.ensures.0 c.in-Err.ensures.answer);
      buffer = c.clear-in-Err.ensures ∙ ap (λ (n : ℕ). replicate n (pos 0)) all ∙ sym (replied_refusing (refusal_of c.from-in-Err.result) room);
    }
