-- A granted begin.
use Rattle.std.proofs.Common.{◌≡◌, ℕ, zero, suc, ◌<◌, List, length, get_or, set, replicate, ℤ, pos, Ok, sym, refl, ◌∙◌, subst, arith}
use mathlib.Core.Option.{none, some}
use Rattle.std.proofs.lemmas.List.{set-get_or}
use Rattle.policy.specs.Limits.{variables}
use Rattle.policy.specs.Moves.{begin as begins}
use Rattle.history.specs.Calls.{begin, done}
use Rattle.history.specs.Answers.{must_be_idle}
use Rattle.history.specs.Runs.{Sound}
use Rattle.table.specs.Views.{stage_of, state, view, Makes, Stepped}
use Rattle.table.specs.Checks.{passed, task_wrong, all_once_called}
use Rattle.table.specs.declared.stage.Stage.{Stage}
use Rattle.table.specs.declared.stage.Stage.TheVariants.{Idle, Open}
use Rattle.table.proofs.Checking.{passed_ok, task_right}
use Rattle.table.proofs.Puts.{put_set}
use Rattle.table.proofs.StepMaking.{plain_step, stepped}
use Rattle.table.proofs.Policies.{Keeping, AlwaysProper}
use Rattle.table.specs.declared.stage.Call.TheVariants.{Begin}
use Rattle.table.specs.declared.table.Table.{Table}
use Rattle.policy.specs.declared.Policy.{Ghosts}

-- an array of one value has it everywhere
pub value_at : {X : Type 0} (x : X) (n i : ℕ) → get_or (replicate n x) i x ≡ x
value_at x zero i = refl
value_at x (suc n) zero = refl
value_at x (suc n) (suc i) = value_at x n i

module _ {P : Type 0} (stated : Ghosts P) (keeps : Keeping stated) (proper : AlwaysProper stated) where
  -- x is the task that the checks handed on, for which the policy was asked by the number n
  pub begin_granted : {x n : ℕ} {xs ys : List Stage} (t : ℕ) (s : Table P) (q : P) → Sound stated.facts (view s)
      → Ok x ≡ passed t (task_wrong t) (must_be_idle (stage_of (get_or s.stages.all t Idle)))
      → xs ≡ all_once_called Begin t s.stages.all → n ≡ x → stated.after s.policy (begins n) q
      → ys ≡ set xs x (Open (replicate variables (pos 0)))
      → Stepped stated (begin t) (view s) (some done) (state q ys s.shared)
  begin_granted {x} {n} {xs} {ys} t s q sound checks called asked move put =
      stepped stated keeps proper (begin t) (view s) (some done) (state q ys s.shared) sound
      (subst (λ (zs : List Stage). Makes stated (begin t) (view s) (some done) (state q zs s.shared)) (sym (put ∙ there))
      (plain_step stated (begin t) done s.policy q s.stages.all (set s.stages.all t (Open zeros)) (Open zeros) s.shared s.shared refl refl (rw (ok.0, ok.1))
      (q, subst (λ (k : ℕ). stated.after s.policy (begins k) q) (asked ∙ ok.2) move, refl)
      (put_set s.stages.all t (Open zeros) below) refl (value_at (pos 0) variables) (λ v. refl)))
    where
      zeros : List ℤ
      zeros = replicate variables (pos 0)

      ok : (task_wrong t ≡ none) × (must_be_idle (stage_of (get_or s.stages.all t Idle)) ≡ none) × (x ≡ t)
      ok = passed_ok (task_wrong t) (must_be_idle (stage_of (get_or s.stages.all t Idle))) checks

      below : t < length s.stages.all
      below = let h = task_right t ok.0 in let k = s.stages.complete in omega arith

      there : set xs x (Open zeros) ≡ set s.stages.all t (Open zeros)
      there = λ j. set ((called ∙ set-get_or s.stages.all t Idle) j) (ok.2 j) (Open zeros)
