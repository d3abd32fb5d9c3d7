-- Reads and writes that the policy was asked for.
use Rattle.std.proofs.Common.{◌≡◌, ℕ, ◌<◌, Bool, true, false, List, [], ◌∷◌, length, get_or, set, ℤ, Ok, Err, Result, sym, refl, ap, ◌∙◌, subst, arith}
use mathlib.Core.Option.{none, some}
use Rattle.policy.specs.Facts.{may_read, may_write}
use Rattle.policy.specs.Moves.{Move, read_refused, write_refused}
use Rattle.policy.specs.Moves.{read as reads_variable, write as writes_variable}
use Rattle.policy.specs.Answers.{Moved, answer, read_answer, write_answer, fit_access}
use Rattle.policy.specs.declared.PolicyFault.{PolicyFault}
use Rattle.policy.specs.declared.PolicyFault.TheVariants.{ReadBarred, WriteBarred}
use Rattle.policy.specs.declared.Granted.{Granted}
use Rattle.policy.specs.declared.Policy.{Ghosts}
use Rattle.history.specs.Calls.{Call, read, write, single, read_barred, write_barred, by_policy, done, value, refused}
use Rattle.history.specs.Answers.{must_be_active, wrong, look}
use Rattle.history.specs.Steps.{none_made, made}
use Rattle.history.specs.Runs.{Sound}
use Rattle.history.proofs.Outcomes.{is_active}
use Rattle.table.specs.Faults.{refusal_of, refused_single}
use Rattle.table.specs.Views.{stage_of, state, view, refusing, Makes, Stepped}
use Rattle.table.specs.Checks.{passed, with_pending, Whole}
use Rattle.table.specs.declared.stage.Stage.{Stage}
use Rattle.table.specs.declared.stage.Stage.TheVariants.{Idle, Broken}
use Rattle.table.specs.declared.table.Table.{Table}
use Rattle.table.proofs.Policies.{Keeping, AlwaysProper}
use Rattle.table.proofs.Checking.{passed_ok, access_right}
use Rattle.table.proofs.Granting.{answer_ok, answer_err, fit_access_at}
use Rattle.table.proofs.Puts.{put_set, pending_stage, pending_set}
use Rattle.table.proofs.StepMaking.{plain_step, stepped}

-- an access of v by task t of the table s, for which the policy was asked by the numbers n and m and left at q; ys are the stages after it
module _ {P : Type 0} (stated : Ghosts P) (keeps : Keeping stated) (proper : AlwaysProper stated)
    {x : ℕ × ℕ} {n m : ℕ} (t v : ℕ) (s : Table P) (q : P) (xs : List Stage) (sound : Sound stated.facts (view s))
    (checks : Ok x ≡ passed (t, v) (wrong (read t v)) (must_be_active (stage_of (get_or s.stages.all t Idle))))
    (same : xs ≡ s.stages.all) (task_asked : n ≡ x.0) (variable_asked : m ≡ x.1) where
  abbrev before : Stage
  before = get_or s.stages.all t Idle

  ok : (wrong (read t v) ≡ none) × (must_be_active (stage_of before) ≡ none) × (x ≡ (t, v))
  ok = passed_ok (wrong (read t v)) (must_be_active (stage_of before)) checks

  below : t < length s.stages.all
  below = let h = (access_right t v ok.0).0 in let k = s.stages.complete in omega arith

  fit : fit_access (stated.facts s.policy) t v ≡ true
  fit =
      let h = access_right t v ok.0 in
      fit_access_at (stated.facts s.policy) t v (stage_of before) h.0 h.1 (sound.agree t) ok.1

  -- a fact of the numbers that the policy was asked for
  asked : (F : ℕ → ℕ → Type 0) → F n m → F t v
  asked F = subst (λ (k : ℕ × ℕ). F k.0 k.1) ((λ j. (task_asked j, variable_asked j)) ∙ ok.2)

  -- the policy granted the access
  granted : {g : Granted} {r : Result Granted PolicyFault} (did barred : ℕ → ℕ → Move) (may : ℕ → ℕ → Bool) (why : ℕ → PolicyFault)
      → Ok g ≡ r → r ≡ answer (fit_access (stated.facts s.policy) n m) (may n m) (why m) → Moved stated.after (did n m) (barred n m) s.policy q r
      → (may t v ≡ true) × stated.after s.policy (did t v) q
  granted {g} {r} did barred may why told e moved = (
    answer_ok (fit_access (stated.facts s.policy) t v) (may t v) (why v)
        (told ∙ asked (λ k w. r ≡ answer (fit_access (stated.facts s.policy) k w) (may k w) (why w)) e),
    asked (λ k w. stated.after s.policy (did k w) q) (subst (Moved stated.after (did n m) (barred n m) s.policy q) (sym told) moved),
  )

  -- the policy refused the access, which breaks the task
  refused_by : {f : PolicyFault} {r : Result Granted PolicyFault} {ys : List Stage} (c : Call) (did barred : ℕ → ℕ → Move) (may : ℕ → ℕ → Bool) (why : ℕ → PolicyFault)
      → Err f ≡ r → r ≡ answer (fit_access (stated.facts s.policy) n m) (may n m) (why m) → Moved stated.after (did n m) (barred n m) s.policy q r
      → ys ≡ set xs x.0 Broken
      → (may t v ≡ false → Moved stated.after (did t v) (barred t v) s.policy q (Err (why v))
      → Makes stated c (view s) (refusing (refusal_of (refused_single (why v)))) (state q (set s.stages.all t Broken) s.shared))
      → Stepped stated c (view s) (refusing (refusal_of (refused_single f))) (state q ys s.shared)
  refused_by {f} {r} {ys} c did barred may why told e moved put makes =
      stepped stated keeps proper c (view s) (refusing (refusal_of (refused_single f))) (state q ys s.shared) sound
      (subst (λ (z : PolicyFault × List Stage). Makes stated c (view s) (refusing (refusal_of (refused_single z.0))) (state q z.1 s.shared))
      (sym (λ j. (no.1 j, (put ∙ (λ i. set (same i) (ok.2 i).0 Broken)) j)))
      (makes no.0 (asked (λ k w. Moved stated.after (did k w) (barred k w) s.policy q (Err (why v))) (subst (Moved stated.after (did n m) (barred n m) s.policy q) (sym told ∙ ap Err no.1) moved))))
    where
      no : (may t v ≡ false) × (f ≡ why v)
      no =
          answer_err (fit_access (stated.facts s.policy) t v) (may t v) (why v) fit
          (told ∙ asked (λ k w. r ≡ answer (fit_access (stated.facts s.policy) k w) (may k w) (why w)) e)

  pub read_granted : {g : Granted} {r : Result Granted PolicyFault} {ys : List Stage} (y : ℤ)
      → y ≡ look (stated.facts s.policy) (state s.policy xs s.shared).pending (state s.policy xs s.shared).shared x.0 x.1
      → Ok g ≡ r → r ≡ read_answer (stated.facts s.policy) n m → Moved stated.after (reads_variable n m) (read_refused n m) s.policy q r → ys ≡ xs
      → Stepped stated (read t v) (view s) (some (value y)) (state q ys s.shared)
  read_granted {g} {r} {ys} y seen told e moved kept =
      stepped stated keeps proper (read t v) (view s) (some (value y)) (state q ys s.shared) sound
      (subst (λ (zs : List Stage). Makes stated (read t v) (view s) (some (value y)) (state q zs s.shared)) (sym (kept ∙ same)) (record {
        opened = s.policy;
        between = q;
        reads = v ∷ [];
        answered = rw (ok.0, ok.1, yes.0) (ap value sees);
        opening = refl;
        reads_made = made v none_made;
        reading = (q, yes.1, refl);
        closing = refl;
        stage = refl;
        pending = λ w. refl;
        shared = λ w. refl;
        other_stages = λ u ne. refl;
        other_pending = λ u ne w. refl;
      }))
    where
      yes : (may_read (stated.facts s.policy) t v ≡ true) × stated.after s.policy (reads_variable t v) q
      yes = granted reads_variable read_refused (may_read (stated.facts s.policy)) ReadBarred told e moved

      sees : y ≡ look (stated.facts s.policy) (view s).pending (view s).shared t v
      sees = seen ∙ (λ j. look (stated.facts s.policy) (state s.policy (same j) s.shared).pending (view s).shared (ok.2 j).0 (ok.2 j).1)

  pub read_refused_by : {f : PolicyFault} {r : Result Granted PolicyFault} {ys : List Stage}
      → Err f ≡ r → r ≡ read_answer (stated.facts s.policy) n m → Moved stated.after (reads_variable n m) (read_refused n m) s.policy q r → ys ≡ set xs x.0 Broken
      → Stepped stated (read t v) (view s) (refusing (refusal_of (refused_single f))) (state q ys s.shared)
  read_refused_by told e moved put =
      refused_by (read t v) reads_variable read_refused (may_read (stated.facts s.policy)) ReadBarred told e moved put
      (λ no move. plain_step stated (read t v) (refused (by_policy (read_barred single v))) s.policy q s.stages.all (set s.stages.all t Broken) Broken s.shared s.shared refl refl
      (rw (ok.0, ok.1, no)) (q, move, refl) (put_set s.stages.all t Broken below) refl (λ w. refl) (λ w. refl))

  pub write_granted : {g : Granted} {r : Result Granted PolicyFault} {zs ys : List Stage} (y : ℤ)
      → Ok g ≡ r → r ≡ write_answer (stated.facts s.policy) n m → Moved stated.after (writes_variable n m) (write_refused n m) s.policy q r
      → zs ≡ xs → Whole (get_or zs x.0 Idle) → ys ≡ set zs x.0 (with_pending (get_or zs x.0 Idle) x.1 y)
      → Stepped stated (write t v y) (view s) (some done) (state q ys s.shared)
  write_granted {g} {r} {zs} {ys} y told e moved kept whole put =
      stepped stated keeps proper (write t v y) (view s) (some done) (state q ys s.shared) sound
      (subst (λ (l : List Stage). Makes stated (write t v y) (view s) (some done) (state q l s.shared)) (sym (put ∙ there))
      (plain_step stated (write t v y) done s.policy q s.stages.all (set s.stages.all t next) next s.shared s.shared refl refl
      (rw (ok.0, ok.1, yes.0)) (q, yes.1, refl) (put_set s.stages.all t next below) (pending_stage before v y)
      (pending_set before v y (access_right t v ok.0).1 (subst Whole here whole) (is_active (stage_of before) ok.1)) (λ w. refl)))
    where
      next : Stage
      next = with_pending before v y

      here : get_or zs x.0 Idle ≡ before
      here = λ j. get_or ((kept ∙ same) j) (ok.2 j).0 Idle

      there : set zs x.0 (with_pending (get_or zs x.0 Idle) x.1 y) ≡ set s.stages.all t next
      there = λ j. set ((kept ∙ same) j) (ok.2 j).0 (with_pending (here j) (ok.2 j).1 y)

      yes : (may_write (stated.facts s.policy) t v ≡ true) × stated.after s.policy (writes_variable t v) q
      yes = granted writes_variable write_refused (may_write (stated.facts s.policy)) WriteBarred told e moved

  pub write_refused_by : {f : PolicyFault} {r : Result Granted PolicyFault} {ys : List Stage} (y : ℤ)
      → Err f ≡ r → r ≡ write_answer (stated.facts s.policy) n m → Moved stated.after (writes_variable n m) (write_refused n m) s.policy q r → ys ≡ set xs x.0 Broken
      → Stepped stated (write t v y) (view s) (refusing (refusal_of (refused_single f))) (state q ys s.shared)
  write_refused_by y told e moved put =
      refused_by (write t v y) writes_variable write_refused (may_write (stated.facts s.policy)) WriteBarred told e moved put
      (λ no move. plain_step stated (write t v y) (refused (by_policy (write_barred v))) s.policy q s.stages.all (set s.stages.all t Broken) Broken s.shared s.shared refl refl
      (rw (ok.0, ok.1, no)) (q, move, refl) (put_set s.stages.all t Broken below) refl (λ w. refl) (λ w. refl))
