-- Commits and aborts that the policy was asked for.
use Rattle.std.proofs.Common.{◌≡◌, ℕ, ◌<◌, true, false, ltb, List, length, get_or, set, ℤ, pos, Ok, Err, Result, sym, refl, ap, ◌∙◌, subst, arith}
use mathlib.Core.Option.{none, some}
use Rattle.std.proofs.lemmas.List.{set-get_or, get_or_past}
use Rattle.policy.specs.Limits.{tasks}
use Rattle.policy.specs.Facts.{may_commit}
use Rattle.policy.specs.Moves.{commit_refused}
use Rattle.policy.specs.Moves.{commit as commits, abort as aborts}
use Rattle.policy.specs.Answers.{Moved, granted, commit_answer, abort_answer, fit_task}
use Rattle.policy.specs.declared.PolicyFault.{PolicyFault}
use Rattle.policy.specs.declared.PolicyFault.TheVariants.{Unfit, CommitRefused}
use Rattle.policy.specs.declared.Granted.{Granted}
use Rattle.history.specs.Calls.{commit, abort, Untimely, commit_barred, by_policy, done, refused}
use Rattle.history.specs.Answers.{Stage as HistoryStage, idle, active, broken, must_be_active, must_not_be_idle, look}
use Rattle.history.specs.Steps.{Chain, abort_moves}
use Rattle.history.specs.Runs.{Sound, in_transaction}
use Rattle.table.specs.Faults.{refusal_of, refused_single}
use Rattle.table.specs.Views.{stage_of, pending_in, state, view, sight, refusing, Makes, Stepped}
use Rattle.table.specs.Checks.{passed, task_wrong, once_called, all_once_called}
use Rattle.table.specs.declared.fault.TableFault.{TableFault}
use Rattle.table.specs.declared.stage.Stage.{Stage}
use Rattle.table.specs.declared.stage.Stage.TheVariants.{Idle, Open, Broken}
use Rattle.table.specs.declared.stage.Call.TheVariants.{Commit, Abort}
use Rattle.table.specs.declared.stages.Stages.{Stages}
use Rattle.table.specs.declared.table.Table.{Table}
use Rattle.table.proofs.Policies.{Keeping, AlwaysProper}
use Rattle.table.proofs.Checking.{passed_ok, task_right, task_beyond}
use Rattle.table.proofs.Granting.{answer_ok, answer_err, fit_at}
use Rattle.table.proofs.Puts.{put_set, put_called}
use Rattle.table.proofs.StepMaking.{plain_step, refused_step, stepped}
use Rattle.policy.specs.declared.Policy.{Ghosts}

-- a commit at the wrong time leaves its task idle
late_commit : (s : Stage) (x : Untimely) → must_be_active (stage_of s) ≡ some x → stage_of (once_called Commit s) ≡ idle
late_commit Idle x e = refl
late_commit (Open pending) x e = absurd (cc)
late_commit Broken x e = refl

called_pending : (s : Stage) (v : ℕ) → pending_in (once_called Commit s) v ≡ pending_in s v
called_pending Idle v = refl
called_pending (Open pending) v = refl
called_pending Broken v = refl

timely_commit : (s : Stage) → must_be_active (stage_of s) ≡ none → once_called Commit s ≡ s
timely_commit Idle e = refl
timely_commit (Open pending) e = refl
timely_commit Broken e = absurd (cc)

module _ {P : Type 0} (stated : Ghosts P) (keeps : Keeping stated) (proper : AlwaysProper stated) where
  -- a commit that the checks turned down: a broken task is idle after it
  pub commit_turned_down : {xs : List Stage} (t : ℕ) (f : TableFault) (s : Table P) → Sound stated.facts (view s)
      → Err f ≡ passed t (task_wrong t) (must_be_active (stage_of (get_or s.stages.all t Idle)))
      → xs ≡ all_once_called Commit t s.stages.all
      → Stepped stated (commit t) (view s) (refusing (refusal_of f)) (state s.policy xs s.shared)
  commit_turned_down {xs} t f s sound e moved =
      stepped stated keeps proper (commit t) (view s) (refusing (refusal_of f)) (state s.policy xs s.shared) sound
      (subst (λ (zs : List Stage). Makes stated (commit t) (view s) (refusing (refusal_of f)) (state s.policy zs s.shared)) (sym moved)
      (refused_step stated t (commit t) f s.policy s.stages.all (all_once_called Commit t s.stages.all) (once_called Commit (get_or s.stages.all t Idle)) s.shared e
      (put_called Commit s.stages.all t)
      (λ x w. rw (get_or_past s.stages.all t Idle (let h = task_beyond t w in let k = s.stages.complete in omega arith)))
      (λ x y. late_commit (get_or s.stages.all t Idle) x y) (λ v. called_pending (get_or s.stages.all t Idle) v)))

  -- x is the task that the checks handed on, for which the policy was asked by the number n and left at q
  module _ {x n : ℕ} (t : ℕ) (s : Table P) (q : P) (sound : Sound stated.facts (view s)) (asked : n ≡ x) where
    abbrev before : Stage
    before = get_or s.stages.all t Idle

    module _ (called : Stages) (checks : Ok x ≡ passed t (task_wrong t) (must_be_active (stage_of before)))
        (moved : called.all ≡ all_once_called Commit t s.stages.all) where
      ok : (task_wrong t ≡ none) × (must_be_active (stage_of before) ≡ none) × (x ≡ t)
      ok = passed_ok (task_wrong t) (must_be_active (stage_of before)) checks

      below : t < length s.stages.all
      below = let h = task_right t ok.0 in let k = s.stages.complete in omega arith

      fit : fit_task (stated.facts s.policy) t ≡ true
      fit = fit_at (stated.facts s.policy) t (stage_of before) (task_right t ok.0) (sound.agree t) ok.1

      -- a commit at the right time finds its task as it was
      same : called.all ≡ s.stages.all
      same = moved ∙ ap (set s.stages.all t) (timely_commit before ok.1) ∙ set-get_or s.stages.all t Idle

      ended : set called.all x Idle ≡ set s.stages.all t Idle
      ended = λ j. set (same j) (ok.2 j) Idle

      pub commit_granted : {g : Granted} {ys : List Stage} (zs : List ℤ)
          → ((v : ℕ) → get_or zs v (pos 0) ≡ sight stated.facts (record { policy = s.policy; stages = called; shared = s.shared }) x v)
          → Ok g ≡ commit_answer stated.STRICT (stated.facts s.policy) n → stated.after s.policy (commits n) q
          → ys ≡ set called.all x Idle
          → Stepped stated (commit t) (view s) (some done) (state q ys zs)
      commit_granted {g} {ys} zs seen e move put =
          stepped stated keeps proper (commit t) (view s) (some done) (state q ys zs) sound
          (subst (λ (l : List Stage). Makes stated (commit t) (view s) (some done) (state q l zs)) (sym (put ∙ ended))
          (plain_step stated (commit t) done s.policy q s.stages.all (set s.stages.all t Idle) Idle s.shared zs refl refl
          (rw (ok.0, ok.1, may)) (q, subst (λ (k : ℕ). stated.after s.policy (commits k) q) (asked ∙ ok.2) move, refl) (put_set s.stages.all t Idle below) refl (λ v. refl) sees))
        where
          may : may_commit stated.STRICT (stated.facts s.policy) t ≡ true
          may =
              answer_ok (fit_task (stated.facts s.policy) t) (may_commit stated.STRICT (stated.facts s.policy) t) CommitRefused
              (subst (λ (k : ℕ). Ok g ≡ commit_answer stated.STRICT (stated.facts s.policy) k) (asked ∙ ok.2) e)

          sees : (v : ℕ) → get_or zs v (pos 0) ≡ look (stated.facts s.policy) (view s).pending (view s).shared t v
          sees v =
              seen v ∙ (λ j. look (stated.facts s.policy) (state s.policy (same j) s.shared).pending (view s).shared (ok.2 j) v)

      pub commit_refused_by : {f : PolicyFault} {ys : List Stage} → Err f ≡ commit_answer stated.STRICT (stated.facts s.policy) n
          → Moved stated.after (commits n) (commit_refused n) s.policy q (Err f) → ys ≡ set called.all x Idle
          → Stepped stated (commit t) (view s) (refusing (refusal_of (refused_single f))) (state q ys s.shared)
      commit_refused_by {f} {ys} e moved put =
          stepped stated keeps proper (commit t) (view s) (refusing (refusal_of (refused_single f))) (state q ys s.shared) sound
          (subst (λ (z : PolicyFault × List Stage). Makes stated (commit t) (view s) (refusing (refusal_of (refused_single z.0))) (state q z.1 s.shared))
          (sym (λ j. (why.1 j, (put ∙ ended) j)))
          (plain_step stated (commit t) (refused (by_policy commit_barred)) s.policy q s.stages.all (set s.stages.all t Idle) Idle s.shared s.shared refl refl
          (rw (ok.0, ok.1, why.0)) (q, move, refl) (put_set s.stages.all t Idle below) refl (λ v. refl) (λ v. refl)))
        where
          why : (may_commit stated.STRICT (stated.facts s.policy) t ≡ false) × (f ≡ CommitRefused)
          why =
              answer_err (fit_task (stated.facts s.policy) t) (may_commit stated.STRICT (stated.facts s.policy) t) CommitRefused fit
              (subst (λ (k : ℕ). Err f ≡ commit_answer stated.STRICT (stated.facts s.policy) k) (asked ∙ ok.2) e)

          move : stated.after s.policy (commit_refused t) q
          move =
              subst (λ (k : ℕ). stated.after s.policy (commit_refused k) q) (asked ∙ ok.2)
              (subst (λ (y : PolicyFault). Moved stated.after (commits n) (commit_refused n) s.policy q (Err y)) why.1 moved)

    -- an abort ends what the policy still has
    aborted : (z : HistoryStage) (r : Result Granted PolicyFault) → ltb t tasks ≡ true → (stated.facts s.policy).active t ≡ in_transaction z → must_not_be_idle z ≡ none
        → r ≡ abort_answer (stated.facts s.policy) t → Moved stated.after (aborts t) (aborts t) s.policy q r → Chain stated.after (abort_moves t z) s.policy q
    aborted idle r b a i e m = absurd (cc)
    aborted active r b a i e m =
        let k : abort_answer (stated.facts s.policy) t ≡ Ok granted = rw (b, a) in
        (q, subst (Moved stated.after (aborts t) (aborts t) s.policy q) (e ∙ k) m, refl)
    aborted broken r b a i e m =
        let k : abort_answer (stated.facts s.policy) t ≡ Err Unfit = rw (b, a) in
        subst (Moved stated.after (aborts t) (aborts t) s.policy q) (e ∙ k) m

    pub abort_granted : {r : Result Granted PolicyFault} {xs ys : List Stage} → Ok x ≡ passed t (task_wrong t) (must_not_be_idle (stage_of before))
        → xs ≡ all_once_called Abort t s.stages.all
        → r ≡ abort_answer (stated.facts s.policy) n → Moved stated.after (aborts n) (aborts n) s.policy q r
        → ys ≡ set xs x Idle
        → Stepped stated (abort t) (view s) (some done) (state q ys s.shared)
    abort_granted {r} {xs} {ys} checks called e m put =
        stepped stated keeps proper (abort t) (view s) (some done) (state q ys s.shared) sound
        (subst (λ (l : List Stage). Makes stated (abort t) (view s) (some done) (state q l s.shared)) (sym (put ∙ there))
        (plain_step stated (abort t) done s.policy q s.stages.all (set s.stages.all t Idle) Idle s.shared s.shared refl refl
        (rw (passes.0, passes.1))
        (aborted (stage_of before) r (let h = right in grind arith) (sound.agree t) passes.1
        (subst (λ (k : ℕ). r ≡ abort_answer (stated.facts s.policy) k) (asked ∙ passes.2) e)
        (subst (λ (k : ℕ). Moved stated.after (aborts k) (aborts k) s.policy q r) (asked ∙ passes.2) m))
        (put_set s.stages.all t Idle (let h = right in let k = s.stages.complete in omega arith)) refl (λ v. refl) (λ v. refl)))
      where
        passes : (task_wrong t ≡ none) × (must_not_be_idle (stage_of before) ≡ none) × (x ≡ t)
        passes = passed_ok (task_wrong t) (must_not_be_idle (stage_of before)) checks

        right : t < tasks
        right = task_right t passes.0

        there : set xs x Idle ≡ set s.stages.all t Idle
        there = λ j. set ((called ∙ set-get_or s.stages.all t Idle) j) (passes.2 j) Idle
