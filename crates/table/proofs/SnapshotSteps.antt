-- A snapshot as a step of the histories' runs.
use Rattle.std.proofs.Common.{◌≡◌, ℕ, ◌+◌, true, List, map, length, get_or, take, drop, ℤ, Ok, Err, Result, sym, refl, ◌∙◌, subst}
use mathlib.Core.Option.{none, some}
use Rattle.policy.specs.Facts.{may_commit}
use Rattle.policy.specs.Moves.{begin as begins, commit as commits}
use Rattle.policy.specs.Answers.{fit_task, commit_answer}
use Rattle.policy.specs.declared.PolicyFault.{PolicyFault}
use Rattle.policy.specs.declared.PolicyFault.TheVariants.{CommitRefused}
use Rattle.history.specs.Calls.{snapshot, listed, values, refused, read_barred, by_policy}
use Rattle.history.specs.Answers.{look, wrong_list}
use Rattle.history.specs.Steps.{State, sees}
use Rattle.history.specs.Runs.{Sound}
use Rattle.std.proofs.lemmas.Bool.{both_ways}
use Rattle.history.proofs.GrantedReads.{ReadAll}
use Rattle.history.proofs.Building.{snapshot_may_commit}
use Rattle.history.proofs.Asking.{task_fit}
use Rattle.history.proofs.Collecting.{so_far, snapshot_step, snapshot_barred}
use Rattle.table.specs.Faults.{refusal_of}
use Rattle.table.specs.Views.{state, view, sight, refusing, Makes, Stepped}
use Rattle.table.specs.Collect.{values_or, GrantedReads, RefusedRead, Gathers, ReadsList}
use Rattle.table.specs.declared.answer.Collected.{Collected}
use Rattle.table.specs.declared.stage.Call.TheVariants.{Begin}
use Rattle.table.specs.declared.stages.Stages.{Stages}
use Rattle.table.specs.declared.table.Table.{Table}
use Rattle.table.proofs.ListChecks.{Admitted}
use Rattle.table.specs.declared.fault.TableFault.{TableFault}
use Rattle.table.proofs.Granting.{answer_err}
use Rattle.table.proofs.StepMaking.{stepped}
use Rattle.table.proofs.ListReads.{collecting}
use Rattle.table.proofs.CollectSteps.{cut_at, at_refusal}
use Rattle.policy.specs.declared.Policy.{Ghosts}
use Rattle.table.proofs.Policies.{Keeping, AlwaysProper}

-- `called` are the stages once the call was admitted, `begun` is the policy once the snapshot has begun, and u is the table after the reads
module _ {P : Type 0} (stated : Ghosts P) (keeps : Keeping stated) (proper : AlwaysProper stated)
    {x n : ℕ} (t : ℕ) (vs : List ℕ) (room : ℕ) (s u : Table P) (called : Stages) (begun : P) (a : Admitted Begin x t vs room s.stages.all called.all)
    (stages : u.stages ≡ called) (values-kept : u.shared ≡ s.shared) (sound : Sound stated.facts (view s))
    (asked : n ≡ x) (began : stated.after s.policy (begins n) begun) where
  abbrev here : Table P
  here = record { policy = begun; stages = called; shared = s.shared }

  move : stated.after s.policy (begins t) begun
  move = subst (λ (k : ℕ). stated.after s.policy (begins k) begun) (asked ∙ a.here) began

  -- the policy has the task in a transaction
  in_one : (stated.facts begun).active t ≡ true
  in_one = (keeps s.policy begun (begins t) move).active

  -- a table that differs in its policy alone
  left : (r : P) → state r u.stages.all u.shared ≡ state r s.stages.all s.shared
  left r = λ j. state r (((λ i. (stages i).all) ∙ a.once) j) (values-kept j)

  -- what the reads came to
  gathered : (r : Result Collected TableFault) (buffer : List ℤ) → ReadsList stated x vs here u.policy buffer r → Gathers stated t vs here u.policy buffer r
  gathered r buffer reads = subst (λ (k : ℕ). ReadsList stated k vs here u.policy buffer r) a.here reads in_one

  pub snapshot_granted : {m : ℕ} (c : Collected) (buffer : List ℤ) (r : P) → ReadsList stated x vs here u.policy buffer (Ok c)
      → m ≡ x → stated.after u.policy (commits m) r
      → Stepped stated (snapshot t vs room) (view s) (values_or vs buffer (Ok c)) (state r u.stages.all u.shared)
  snapshot_granted {m} c buffer r made same end =
      stepped stated keeps proper (snapshot t vs room) (view s) (values_or vs buffer (Ok c)) (state r u.stages.all u.shared) sound
      (subst (λ (b : State P). Makes stated (snapshot t vs room) (view s) (values_or vs buffer (Ok c)) b) (sym (left r))
      (subst (λ (l : List ℤ). Makes stated (snapshot t vs room) (view s) (some (values l c.reads)) (state r s.stages.all s.shared)) (sym seen)
      (snapshot_step stated.facts stated.after stated.STRICT keeps t room (view s) (state r s.stages.all s.shared) (λ v. refl) (λ u ne. refl) (λ u ne v. refl) vs begun u.policy
      c.reads a.fine a.timely move (collecting stated keeps t reads.0) (subst (λ (k : ℕ). stated.after u.policy (commits k) r) (same ∙ a.here) end) refl (λ v. refl))))
    where
      reads : GrantedReads stated t vs begun u.policy c.reads × (take (length vs) buffer ≡ map (sight stated.facts here t) vs)
      reads = gathered (Ok c) buffer made

      seen : take (length vs) buffer ≡ map (sees stated.facts (snapshot t vs room) (view s) begun) vs
      seen = reads.1 ∙ (λ j. map (look (stated.facts begun) (state begun (a.once j) s.shared).pending (view s).shared t) vs)

  pub snapshot_refused : (f : TableFault) (buffer : List ℤ) → ReadsList stated x vs here u.policy buffer (Err f)
      → Stepped stated (snapshot t vs room) (view s) (refusing (refusal_of f)) (state u.policy u.stages.all u.shared)
  snapshot_refused f buffer made =
      stepped stated keeps proper (snapshot t vs room) (view s) (refusing (refusal_of f)) (state u.policy u.stages.all u.shared) sound
      (subst (λ (b : State P). Makes stated (snapshot t vs room) (view s) (refusing (refusal_of f)) b) (sym (left u.policy))
      (subst (λ (y : TableFault). Makes stated (snapshot t vs room) (view s) (refusing (refusal_of y)) (state u.policy s.stages.all s.shared)) (sym r.told) step))
    where
      r : RefusedRead stated t vs begun u.policy f
      r = gathered (Err f) buffer made

      v : ℕ
      v = get_or vs r.place 0

      step : Makes stated (snapshot t vs room) (view s) (some (refused (by_policy (read_barred (listed r.place) v)))) (state u.policy s.stages.all s.shared)
      step =
          at_refusal
          (λ l k. Makes stated (snapshot t l room) (view s) (some (refused (by_policy (read_barred (listed k) v)))) (state u.policy s.stages.all s.shared)) vs r.place r.there
          (snapshot_barred stated.facts stated.after stated.STRICT keeps t room (view s) (state u.policy s.stages.all s.shared) (λ w. refl) (λ u ne. refl) (λ u ne w. refl)
          (take r.place vs) v (drop (r.place + 1) vs) begun r.before r.count (subst (λ (l : List ℕ). wrong_list t l room ≡ none) (sym (cut_at vs r.place r.there)) a.fine) a.timely move
          (collecting stated keeps t r.earlier) r.barred r.move refl (λ w. refl))

  -- the policy never refuses a snapshot's commit
  pub commit_never_refused : {m : ℕ} {f : PolicyFault} (c : Collected) (buffer : List ℤ) → ReadsList stated x vs here u.policy buffer (Ok c)
      → m ≡ x → Err f ≡ commit_answer stated.STRICT (stated.facts u.policy) m → ⊥
  commit_never_refused {m} {f} c buffer made same e =
      both_ways _
      (answer_err (fit_task (stated.facts u.policy) t) (may_commit stated.STRICT (stated.facts u.policy) t) CommitRefused
      (task_fit (stated.facts u.policy) t ((proper u.policy).task t all.active) all.active)
      (subst (λ (k : ℕ). Err f ≡ commit_answer stated.STRICT (stated.facts u.policy) k) (same ∙ a.here) e)).0
      (snapshot_may_commit stated.STRICT (keeps s.policy begun (begins t) move) all)
    where
      all : ReadAll t vs (stated.facts begun) (stated.facts u.policy)
      all = so_far stated.facts stated.after stated.STRICT keeps t in_one (collecting stated keeps t (gathered (Ok c) buffer made).0)
