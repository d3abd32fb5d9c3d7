-- A collect as a step of the histories' runs.
use Rattle.std.proofs.Common.{◌≡◌, ℕ, ◌+◌, ◌-◌, ◌<◌, ◌≤◌, true, List, ◌∷◌, ◌++◌, map, length, get_or, take, drop, set, replicate, ℤ, pos, Ok, Err, Result, sym, refl, ap, ◌∙◌, subst, arith}
use mathlib.Core.Option.{Option, none, some}
use Rattle.std.proofs.lemmas.List.{take-append-drop, drop_more, length-take-le, drop-replicate, length-replicate}
use Rattle.history.specs.Calls.{collect, listed, Refusal, values, refused, read_barred, by_policy}
use Rattle.history.specs.Answers.{look, wrong_list}
use Rattle.history.specs.Steps.{State, sees}
use Rattle.history.specs.Runs.{Sound, in_transaction}
use Rattle.history.proofs.Outcomes.{is_active}
use Rattle.history.proofs.Collecting.{collect_step, collect_barred}
use Rattle.table.specs.Faults.{refusal_of}
use Rattle.table.specs.Views.{stage_of, pending_in, state, view, sight, refusing, Makes, Stepped}
use Rattle.table.specs.Checks.{once_answered}
use Rattle.table.specs.Collect.{replied, values_or, Leaves, GrantedReads, RefusedRead, Gathers, ReadsList}
use Rattle.table.specs.declared.fault.TableFault.{TableFault}
use Rattle.table.specs.declared.answer.Collected.{Collected}
use Rattle.table.specs.declared.stage.Call.TheVariants.{Access}
use Rattle.table.specs.declared.stage.Stage.{Stage}
use Rattle.table.specs.declared.stages.Stages.{Stages}
use Rattle.table.specs.declared.table.Table.{Table}
use Rattle.table.specs.declared.stage.Stage.TheVariants.{Idle, Broken}
use Rattle.table.proofs.ListChecks.{Admitted, list_right}
use Rattle.table.proofs.Puts.{Put, put_set}
use Rattle.table.proofs.StepMaking.{stepped}
use Rattle.table.proofs.ListReads.{collecting}
use Rattle.policy.specs.declared.Policy.{Ghosts}
use Rattle.table.proofs.Policies.{Keeping, AlwaysProper}

-- the place of a list at which it is cut in two
pub cut_at : (vs : List ℕ) (i : ℕ) → i < length vs → take i vs ++ (get_or vs i 0 ∷ drop (i + 1) vs) ≡ vs
cut_at vs i h = ap (λ (ws : List ℕ). take i vs ++ ws) (sym (drop_more vs i 0 h)) ∙ take-append-drop i vs

-- what holds of a list so cut, and of the length of its front, holds of the list and the place
pub at_refusal : (F : List ℕ → ℕ → Type 0) (vs : List ℕ) (i : ℕ) → i < length vs → F (take i vs ++ (get_or vs i 0 ∷ drop (i + 1) vs)) (length (take i vs)) → F vs i
at_refusal F vs i h = subst (λ (z : List ℕ × ℕ). F z.0 z.1) (λ j. (cut_at vs i h j, length-take-le i vs (omega arith) j))

-- zeros alone after a refusal
pub replied_refusing : (o : Option Refusal) (room : ℕ) → replied (refusing o) room ≡ replicate room (pos 0)
replied_refusing none room = refl
replied_refusing (some why) room = refl

-- the values, and then the zeros that were there before
pub values_then_zeros : (n room : ℕ) (new : List ℤ) → n ≤ length new → drop n new ≡ drop n (replicate room (pos 0))
    → new ≡ take n new ++ replicate (room - length (take n new)) (pos 0)
values_then_zeros n room new h e =
    sym (take-append-drop n new) ∙ ap (λ (zs : List ℤ). take n new ++ zs) (e ∙ drop-replicate n room (pos 0) ∙ ap (λ (k : ℕ). replicate (room - k) (pos 0)) (sym (length-take-le n new h)))

-- what the reads of a list leave, where the buffer held zeros alone
pub left_over : (r : Result Collected TableFault) (vs : List ℕ) (room : ℕ) (new : List ℤ) → length vs ≤ length new → length new ≡ room
    → Leaves vs (replicate room (pos 0)) new r → new ≡ replied (values_or vs new r) room
left_over (Ok c) vs room new h all leaves = values_then_zeros (length vs) room new h leaves
left_over (Err f) vs room new h all leaves =
    leaves ∙ ap (λ (n : ℕ). replicate n (pos 0)) (length-replicate room (pos 0)) ∙ sym (replied_refusing (refusal_of f) room)

-- `called` are the stages once the call was admitted, and u is the table after the reads
module _ {P : Type 0} (stated : Ghosts P) (keeps : Keeping stated) (proper : AlwaysProper stated)
    {x : ℕ} (t : ℕ) (vs : List ℕ) (room : ℕ) (s u : Table P) (called : Stages) (a : Admitted Access x t vs room s.stages.all called.all)
    (stages : u.stages ≡ called) (values-kept : u.shared ≡ s.shared) (sound : Sound stated.facts (view s)) where
  abbrev here : Table P
  here = record { policy = s.policy; stages = called; shared = s.shared }

  -- the policy has the task in a transaction
  in_one : (stated.facts s.policy).active t ≡ true
  in_one = sound.agree t ∙ ap in_transaction (is_active (stage_of (get_or s.stages.all t Idle)) a.timely)

  same_stages : u.stages.all ≡ s.stages.all
  same_stages = (λ j. (stages j).all) ∙ a.once

  collect_granted : (count : ℕ) (buffer : List ℤ) (bs : List Stage) → bs ≡ u.stages.all
      → GrantedReads stated t vs s.policy u.policy count × (take (length vs) buffer ≡ map (sight stated.facts here t) vs)
      → Makes stated (collect t vs room) (view s) (some (values (take (length vs) buffer) count)) (state u.policy bs u.shared)
  collect_granted count buffer bs kept reads =
      subst (λ (b : State P). Makes stated (collect t vs room) (view s) (some (values (take (length vs) buffer) count)) b)
      (sym (λ j. state u.policy ((kept ∙ same_stages) j) (values-kept j)))
      (subst (λ (l : List ℤ). Makes stated (collect t vs room) (view s) (some (values l count)) (state u.policy s.stages.all s.shared)) (sym seen)
      (collect_step stated.facts stated.after stated.STRICT keeps t room (view s) (state u.policy s.stages.all s.shared) (λ v. refl) (λ u ne. refl) (λ u ne v. refl) vs count
      a.fine a.timely (collecting stated keeps t reads.0) refl (λ v. refl)))
    where
      seen : take (length vs) buffer ≡ map (sees stated.facts (collect t vs room) (view s) s.policy) vs
      seen = reads.1 ∙ (λ j. map (look (stated.facts s.policy) (state s.policy (a.once j) s.shared).pending (view s).shared t) vs)

  collect_refused : (f : TableFault) (bs : List Stage) → bs ≡ set u.stages.all x Broken → RefusedRead stated t vs s.policy u.policy f
      → Makes stated (collect t vs room) (view s) (refusing (refusal_of f)) (state u.policy bs u.shared)
  collect_refused f bs broken r =
      subst (λ (b : State P). Makes stated (collect t vs room) (view s) (refusing (refusal_of f)) b) (sym left)
      (subst (λ (y : TableFault). Makes stated (collect t vs room) (view s) (refusing (refusal_of y)) (state u.policy (set s.stages.all t Broken) s.shared)) (sym r.told) step)
    where
      v : ℕ
      v = get_or vs r.place 0

      left : state u.policy bs u.shared ≡ state u.policy (set s.stages.all t Broken) s.shared
      left = λ j. state u.policy ((broken ∙ (λ i. set (same_stages i) (a.here i) Broken)) j) (values-kept j)

      put : Put s.stages.all t Broken (set s.stages.all t Broken)
      put = put_set s.stages.all t Broken (let k = s.stages.complete in let h = (list_right t vs room a.fine).0 in omega arith)

      step : Makes stated (collect t vs room) (view s) (some (refused (by_policy (read_barred (listed r.place) v)))) (state u.policy (set s.stages.all t Broken) s.shared)
      step =
          at_refusal
          (λ l k. Makes stated (collect t l room) (view s) (some (refused (by_policy (read_barred (listed k) v)))) (state u.policy (set s.stages.all t Broken) s.shared)) vs r.place r.there
          (collect_barred stated.facts stated.after stated.STRICT keeps t room (view s) (state u.policy (set s.stages.all t Broken) s.shared) (λ w. refl) (λ u ne. ap stage_of (put.others u ne))
          (λ u ne w. ap (λ (s : Stage). pending_in s w) (put.others u ne)) (take r.place vs) v (drop (r.place + 1) vs) r.before r.count
          (subst (λ (l : List ℕ). wrong_list t l room ≡ none) (sym (cut_at vs r.place r.there)) a.fine) a.timely in_one (collecting stated keeps t r.earlier) r.barred r.move
          (ap stage_of put.own) (λ w. ap (λ (s : Stage). pending_in s w) put.own))

  -- what the reads of the list answered is what the collect answers
  pub collect_answered : (r : Result Collected TableFault) (buffer : List ℤ) (bs : List Stage) → bs ≡ once_answered r x u.stages.all
      → ReadsList stated x vs here u.policy buffer r
      → Stepped stated (collect t vs room) (view s) (values_or vs buffer r) (state u.policy bs u.shared)
  collect_answered r buffer bs put reads =
      stepped stated keeps proper (collect t vs room) (view s) (values_or vs buffer r) (state u.policy bs u.shared) sound
      (go r put (subst (λ (k : ℕ). ReadsList stated k vs here u.policy buffer r) a.here reads in_one))
    where
      go : (r : Result Collected TableFault) → bs ≡ once_answered r x u.stages.all → Gathers stated t vs here u.policy buffer r
          → Makes stated (collect t vs room) (view s) (values_or vs buffer r) (state u.policy bs u.shared)
      go (Ok c) kept made = collect_granted c.reads buffer bs kept made
      go (Err f) broken made = collect_refused f bs broken made
