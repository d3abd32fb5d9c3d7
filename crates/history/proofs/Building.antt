-- Steps built from what a table knows of its call.
use Rattle.std.proofs.Common.{◌≡◌, ℕ, suc, ◌+◌, Bool, true, false, ltb, ◌≢◌, List, [], ◌∷◌, ◌++◌, map, length, ℤ, sym, refl, ap, subst, add-zero, arith}
use mathlib.Core.Option.{Option, none, some}
use Rattle.policy.specs.Limits.{variables}
use Rattle.policy.specs.Facts.{Facts, may_read, may_commit}
use Rattle.policy.specs.Moves.{Move, Begun}
use Rattle.policy.specs.Moves.{read as reads_variable}
use Rattle.history.specs.Calls.{Call, begin, read, write, collect, snapshot, commit, abort, task, listed, Wrong, no_variable, Untimely, Barred, read_barred, sent_wrongly, at_wrong_time, by_policy, Answer, refused}
use Rattle.history.specs.Answers.{Stage, first_wrong, first_barred, wrong, untimely, barred, granted, checked}
use Rattle.history.specs.Steps.{State, Chain, ReadsFor, none_made, Step, answer, sees, first_moves, granted_reads, last_moves, stage_after, pending_after, shared_after}
use Rattle.history.proofs.GrantedReads.{ReadAll}
use Rattle.history.proofs.Outcomes.{Unasked, wrong_unasked, untimely_unasked}

-- a chain of moves, and one more
pub chain_more : {P : Type 0} (after : P → Move → P → Type 0) (ms : List Move) (m : Move) (p q r : P) → Chain after ms p q → after q m r
    → Chain after (ms ++ (m ∷ [])) p r
chain_more after [] m p q r c h = (r, subst (λ x. after x m r) c h, refl)
chain_more after (k ∷ ms) m p q r c h = (c.0, c.1, chain_more after ms m c.0 q r c.2 h)

-- granted reads, and one more
pub reads_more : {P : Type 0} (after : P → Move → P → Type 0) (t : ℕ) (vs : List ℕ) (v : ℕ) (p q r : P) → Chain after (map (reads_variable t) vs) p q
    → after q (reads_variable t v) r → Chain after (map (reads_variable t) (vs ++ (v ∷ []))) p r
reads_more after t [] v p q r c h = (r, subst (λ x. after x (reads_variable t v) r) c h, refl)
reads_more after t (w ∷ vs) v p q r c h = (c.0, c.1, reads_more after t vs v c.0 q r c.2 h)

-- a list whose reads are granted, and one more variable
module _ (f : Facts) (t : ℕ) where
  pub granted_more : (i : ℕ) (vs : List ℕ) (v : ℕ) → first_barred f t i vs ≡ none → may_read f t v ≡ true → first_barred f t i (vs ++ (v ∷ [])) ≡ none
  granted_more i [] v h e = rw e
  granted_more i (w ∷ vs) v h e = let more = granted_more (suc i) vs v in grind arith

  pub barred_here : (i : ℕ) (vs : List ℕ) (v : ℕ) (ws : List ℕ) → first_barred f t i vs ≡ none → may_read f t v ≡ false
      → first_barred f t i (vs ++ (v ∷ ws)) ≡ some (read_barred (listed (i + length vs)) v)
  barred_here i [] v ws h e = rw (e, add-zero) refl
  barred_here i (w ∷ vs) v ws h e = let more = barred_here (suc i) vs v ws in grind arith

-- a list that names variables only, and one more
pub named_more : (i : ℕ) (vs : List ℕ) (v : ℕ) → first_wrong i vs ≡ none → ltb v variables ≡ true → first_wrong i (vs ++ (v ∷ [])) ≡ none
named_more i [] v h e = rw e
named_more i (w ∷ vs) v h e = let more = named_more (suc i) vs v in grind arith

pub unnamed_here : (i : ℕ) (vs : List ℕ) (v : ℕ) (ws : List ℕ) → first_wrong i vs ≡ none → ltb v variables ≡ false
    → first_wrong i (vs ++ (v ∷ ws)) ≡ some (no_variable (listed (i + length vs)))
unnamed_here i [] v ws h e = rw (e, add-zero) refl
unnamed_here i (w ∷ vs) v ws h e = let more = unnamed_here (suc i) vs v ws in grind arith

-- granted reads don't change what the task may read
pub reads_may : {t : ℕ} {vs : List ℕ} {f g : Facts} → ReadAll t vs f g → (v : ℕ) → may_read g t v ≡ may_read f t v
reads_may h v = rw (h.writes v, h.no_read v)

-- a snapshot's commit is never refused
pub snapshot_may_commit : (strict : Bool) {t : ℕ} {vs : List ℕ} {f g h : Facts} → Begun t f g → ReadAll t vs g h → may_commit strict h t ≡ true
snapshot_may_commit strict b r = rw (r.behind, b.behind)

module _ {P : Type 0} (facts : P → Facts) (after : P → Move → P → Type 0) (strict : Bool) (c : Call) (a : State P) (r : Answer) where
  -- a call that the policy isn't asked about, and that changes nothing
  pub unasked_step : Unasked c (a.stage (task c)) r → r ≡ answer facts strict c a a.policy 0
      → a.stage (task c) ≡ stage_after c r (a.stage (task c)) → Step facts after strict c a r a
  unasked_step u answered stage = record {
    opened = a.policy;
    between = a.policy;
    reads = [];
    answered = answered;
    opening = subst (λ (ms : List Move). Chain after ms a.policy a.policy) (sym u.first) refl;
    reads_made = subst (λ (vs : List ℕ). ReadsFor vs []) (sym u.reads) none_made;
    reading = refl;
    closing = subst (λ (ms : List Move). Chain after ms a.policy a.policy) (sym u.last) refl;
    stage = stage;
    pending = λ v. ap (λ (p : ℕ → ℤ). p v) (sym (u.pending (a.pending (task c))));
    shared = λ v. ap (λ (s : ℕ → ℤ). s v) (sym (u.shared (sees facts c a a.policy) a.shared));
    other_stages = λ w ne. refl;
    other_pending = λ w ne v. refl;
  }

  -- a call that makes some last moves, and no begin or granted read before them
  pub moved_step : (b : State P) → r ≡ answer facts strict c a a.policy 0 → first_moves c r ≡ [] → granted_reads c r ≡ []
      → Chain after (last_moves c (a.stage (task c)) r) a.policy b.policy
      → b.stage (task c) ≡ stage_after c r (a.stage (task c))
      → ((v : ℕ) → b.pending (task c) v ≡ pending_after c r (a.pending (task c)) v)
      → ((v : ℕ) → b.shared v ≡ shared_after c r (sees facts c a a.policy) a.shared v)
      → ((u : ℕ) → u ≢ task c → b.stage u ≡ a.stage u) → ((u : ℕ) → u ≢ task c → (v : ℕ) → b.pending u v ≡ a.pending u v)
      → Step facts after strict c a r b
  moved_step b answered first unread moves stage pending shared stages pendings = record {
    opened = a.policy;
    between = a.policy;
    reads = [];
    answered = answered;
    opening = subst (λ (ms : List Move). Chain after ms a.policy a.policy) (sym first) refl;
    reads_made = subst (λ (vs : List ℕ). ReadsFor vs []) (sym unread) none_made;
    reading = refl;
    closing = moves;
    stage = stage;
    pending = pending;
    shared = shared;
    other_stages = stages;
    other_pending = pendings;
  }

-- the answer by the check that decides it
module _ {P : Type 0} (facts : P → Facts) (strict : Bool) (c : Call) (a : State P) (p : P) (count : ℕ) where
  pub answers_wrong : (x : Wrong) → wrong c ≡ some x → refused (sent_wrongly x) ≡ answer facts strict c a p count
  answers_wrong x w = sym (ap (λ (o : Option Wrong). checked o (untimely c (a.stage (task c))) (barred strict (facts p) c) (granted (sees facts c a p) count c)) w)

  pub answers_untimely : (x : Untimely) → wrong c ≡ none → untimely c (a.stage (task c)) ≡ some x → refused (at_wrong_time x) ≡ answer facts strict c a p count
  answers_untimely x w y = sym (λ i. checked (w i) (y i) (barred strict (facts p) c) (granted (sees facts c a p) count c))

  pub answers_barred : (x : Barred) → wrong c ≡ none → untimely c (a.stage (task c)) ≡ none → barred strict (facts p) c ≡ some x
      → refused (by_policy x) ≡ answer facts strict c a p count
  answers_barred x w y z = sym (λ i. checked (w i) (y i) (z i) (granted (sees facts c a p) count c))

  pub answers_granted : wrong c ≡ none → untimely c (a.stage (task c)) ≡ none → barred strict (facts p) c ≡ none
      → granted (sees facts c a p) count c ≡ answer facts strict c a p count
  answers_granted w y z = sym (λ i. checked (w i) (y i) (z i) (granted (sees facts c a p) count c))

-- a call that was sent wrongly changes nothing
pub wrong_step : {P : Type 0} (facts : P → Facts) (after : P → Move → P → Type 0) (strict : Bool) (c : Call) (a : State P) (x : Wrong) → wrong c ≡ some x
    → Step facts after strict c a (refused (sent_wrongly x)) a
wrong_step facts after strict c a x w =
    unasked_step facts after strict c a (refused (sent_wrongly x)) (wrong_unasked c (a.stage (task c)) x) (answers_wrong facts strict c a a.policy 0 x w)
    (sym (wrong_stays c x (a.stage (task c))))
  where
    wrong_stays : (c : Call) (x : Wrong) (s : Stage) → stage_after c (refused (sent_wrongly x)) s ≡ s
    wrong_stays (begin t) x s = refl
    wrong_stays (read t v) x s = refl
    wrong_stays (write t v y) x s = refl
    wrong_stays (collect t vs room) x s = refl
    wrong_stays (snapshot t vs room) x s = refl
    wrong_stays (commit t) x s = refl
    wrong_stays (abort t) x s = refl

-- a call at the wrong time changes nothing, unless it is the commit of a broken task
pub untimely_step : {P : Type 0} (facts : P → Facts) (after : P → Move → P → Type 0) (strict : Bool) (c : Call) (a : State P) (x : Untimely)
    → wrong c ≡ none → untimely c (a.stage (task c)) ≡ some x → a.stage (task c) ≡ stage_after c (refused (at_wrong_time x)) (a.stage (task c))
    → Step facts after strict c a (refused (at_wrong_time x)) a
untimely_step facts after strict c a x w y stays =
    unasked_step facts after strict c a (refused (at_wrong_time x)) (untimely_unasked c (a.stage (task c)) x y) (answers_untimely facts strict c a a.policy 0 x w y) stays
