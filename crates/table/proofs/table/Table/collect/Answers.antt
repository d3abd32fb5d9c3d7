use Rattle.std.proofs.Common.{◌≡◌, length, get_or, refl, sym, ◌∙◌, arith}
use Rattle.std.proofs.lemmas.List.{set-get_or}
use Rattle.std.proofs.lemmas.Result.{err_from_is_err_and}
use Rattle.history.specs.Calls.{collect}
use Rattle.history.specs.Answers.{wrong_list, must_be_active}
use Rattle.table.specs.Faults.{refusal_of}
use Rattle.table.specs.Views.{stage_of}
use Rattle.table.specs.declared.stage.Call.TheVariants.{Access}
use Rattle.table.specs.declared.stage.Stage.TheVariants.{Idle}
use Rattle.table.proofs.Checking.{passed_anyway}
use Rattle.table.proofs.ListChecks.{list_right, passed_late, admitted}
use Rattle.table.proofs.StepMaking.{turned_down}
use Rattle.table.proofs.CollectSteps.{replied_refusing, left_over, collect_answered}
use Rattle.table.proofs.table.Table.collect.Goals as goal

pub returns-in_err-task : goal.returns-in_err-task
returns-in_err-task g c =
    let t = c.args.task in
    let vs = c.args.list.now in
    let s = c.args.self.now in
    let room = length c.args.reply.now in
    let len : length c.clear.new.reply ≡ room = omega arith in
    let p = err_from_is_err_and c.from_residual.result c.from_residual.ensures.1 in
    record {
      step = λ sound. rw (p.1, p.2) (turned_down g.P.Policy g.met.P.Policy.keeps g.met.P.Policy.proper t (collect t vs room) c.in_err-task.field-0.0 s sound
          (passed_anyway t (wrong_list t vs room) (must_be_active (stage_of (get_or s.stages.all t Idle))) (rw len at c.in_err-task.ensures)) refl (λ x k. refl));
      buffer = rw p.1 (c.clear.ensures ∙ sym (replied_refusing (refusal_of p.0) room));
    }

pub returns-in_err-admit : goal.returns-in_err-admit
returns-in_err-admit g c =
    let t = c.args.task in
    let vs = c.args.list.now in
    let s = c.args.self.now in
    let room = length c.args.reply.now in
    let len : length c.clear.new.reply ≡ room = omega arith in
    let p = err_from_is_err_and c.from_residual-in_err-admit.result c.from_residual-in_err-admit.ensures.1 in
    record {
      step = λ sound. rw (p.1, p.2) (turned_down g.P.Policy g.met.P.Policy.keeps g.met.P.Policy.proper tt (collect t vs room) c.in_err-admit.field-0.0 s sound
          (passed_late Access t vs room s.stages.all (rw len at c.in_ok-task.ensures) c.in_err-admit.ensures.answer)
          (c.admit.ensures.moved ∙ set-get_or s.stages.all c.in_ok-task.task Idle) (λ x k. refl));
      buffer = rw p.1 (c.clear.ensures ∙ sym (replied_refusing (refusal_of p.0) room));
    }

pub returns : goal.returns
returns g c =
    let t = c.args.task in
    let vs = c.args.list.now in
    let s = c.args.self.now in
    let room = length c.args.reply.now in
    let len : length c.clear.new.reply ≡ room = omega arith in
    let a = admitted Access t vs room (λ z. refl) (rw len at c.in_ok-task.ensures) c.in_ok-admit.ensures.answer c.admit.ensures.moved in
    let right = list_right t vs room a.fine in
    let same = c.break_if_refused.ensures.same in
    record {
      step = λ sound. collect_answered g.P.Policy g.met.P.Policy.keeps g.met.P.Policy.proper t vs room s c.read_list-answer.new.self c.admit.new.self a
          c.read_list-answer.ensures.stages c.read_list-answer.ensures.shared sound c.break_if_refused.result c.read_list-answer.new.reply
          c.break_if_refused.new.self.all c.break_if_refused.ensures.moved (rw (← same) at c.read_list-answer.ensures.reads);
      buffer = left_over c.break_if_refused.result vs room c.read_list-answer.new.reply (omega arith) (omega arith)
          (rw (← same, c.clear.ensures) at c.read_list-answer.ensures.leaves);
    }
