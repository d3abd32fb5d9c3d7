-- A run of calls that make no list of reads, where the policy's moves are functions of what it holds: replayed, it can end in one way only.
use Rattle.std.proofs.Common.{◌≡◌, ℕ, ◌≤◌, Bool, true, false, ◌≢◌, List, [], ◌∷◌, ◌++◌, map, length, ℤ, sym, refl, ap, ◌∙◌, subst, arith, length-append, rules}
use mathlib.Core.Path.{fun_ext}
use mathlib.Core.List.{Memᴰ}
use Rattle.policy.specs.Facts.{Facts}
use Rattle.policy.specs.Moves.{Move}
use Rattle.policy.specs.Moves.{read as reads_variable}
use Rattle.history.specs.Update.{at}
use Rattle.history.specs.Calls.{Call, begin, read, write, collect, snapshot, commit, abort, task}
use Rattle.history.specs.Calls.{Answer}
use Rattle.history.specs.Answers.{Stage, granted, checked, wrong, untimely, barred}
use Rattle.history.specs.Steps.{State, Chain, ReadsFor, none_made, made, left_out, Step, answer, sees}
use Rattle.history.specs.Steps.{first_moves, granted_reads, last_moves, stage_after, pending_after, shared_after}

-- the table with what its policy holds in place of the policy
abbrev pub picture : {P H : Type 0} → (P → H) → State P → State H
picture held a = record { policy = held a.policy; stage = a.stage; pending = a.pending; shared = a.shared }

-- what is held after some moves
abbrev pub after_moves : {H : Type 0} → (Move → H → H) → List Move → H → H
after_moves next [] x = x
after_moves next (m ∷ ms) x = after_moves next ms (next m x)

-- the moves of a call that begins no snapshot and reads no list
abbrev pub moves : Call → Stage → Answer → List Move
moves c s r = map (reads_variable (task c)) (granted_reads c r) ++ last_moves c s r

-- a call that reads no list
abbrev pub plain : Call → Bool
plain (begin t) = true
plain (read t v) = true
plain (write t v x) = true
plain (collect t vs room) = false
plain (snapshot t vs room) = false
plain (commit t) = true
plain (abort t) = true

module _ {H : Type 0} (meaning : H → Facts) where
  -- the answer to a plain call
  abbrev pub replied : Bool → Call → State H → Answer
  replied strict c x = answer meaning strict c x x.policy 0

  -- the table after a plain call that is answered r
  abbrev pub replayed : (Move → H → H) → Call → Answer → State H → State H
  replayed next c r x = record {
    policy = after_moves next (moves c (x.stage (task c)) r) x.policy;
    stage = at x.stage (task c) (stage_after c r (x.stage (task c)));
    pending = at x.pending (task c) (pending_after c r (x.pending (task c)));
    shared = shared_after c r (sees meaning c x x.policy) x.shared;
  }

pub no_first_moves : (c : Call) (r : Answer) → plain c ≡ true → first_moves c r ≡ []
no_first_moves = search rules

-- a plain call's answer has no count of reads in it
pub no_count : (c : Call) (see : ℕ → ℤ) (k : ℕ) → plain c ≡ true → granted see k c ≡ granted see 0 c
no_count = search rules

pub few_reads : (c : Call) (r : Answer) → plain c ≡ true → length (granted_reads c r) ≤ 1
few_reads = search rules

none_in : {x : ℕ} {xs : List ℕ} → Memᴰ x xs → length xs ≤ 0 → ⊥
none_in (Memᴰ.head e) h = omega arith
none_in (Memᴰ.tail i) h = omega arith

-- of one read at most, none is left out
all_made : {vs rs : List ℕ} → ReadsFor vs rs → length vs ≤ 1 → rs ≡ vs
all_made none_made h = refl
all_made (made {vs = vs} {rs = rs} v m) h = let k = length-append vs (v ∷ []) in ap (λ (l : List ℕ). l ++ (v ∷ [])) (all_made m (omega arith))
all_made (left_out {vs = vs} {rs = rs} v i m) h = let k = length-append vs (v ∷ []) in absurd (none_in (subst (λ (l : List ℕ). Memᴰ v l) (all_made m (omega arith)) i) (omega arith))

moves_append : {H : Type 0} (next : Move → H → H) (ms ns : List Move) (x : H) → after_moves next (ms ++ ns) x ≡ after_moves next ns (after_moves next ms x)
moves_append next [] ns x = refl
moves_append next (m ∷ ms) ns x = moves_append next ms ns (next m x)

-- a function that is y at k and elsewhere as another
is_at : {A : Type 0} (f g : ℕ → A) (k : ℕ) (y : A) → g k ≡ y → ((u : ℕ) → u ≢ k → g u ≡ f u) → g ≡ at f k y
is_at f g k y here there = search rules

-- a policy whose moves are functions of what it holds, and the facts too
module _ {P H : Type 0} (held : P → H) (meaning : H → Facts) (next : Move → H → H) (after : P → Move → P → Type 0) (strict : Bool)
    (follows : (p q : P) (m : Move) → after p m q → held q ≡ next m (held p)) where
  chain_held : (ms : List Move) (p q : P) → Chain after ms p q → held q ≡ after_moves next ms (held p)
  chain_held [] p q c = ap held c
  chain_held (m ∷ ms) p q c = chain_held ms c.0 q c.2 ∙ ap (after_moves next ms) (follows p c.0 m c.1)

  module _ (c : Call) (r : Answer) (a b : State P) (step : Step (λ p. meaning (held p)) after strict c a r b) (e : plain c ≡ true) where
    opened_is : step.opened ≡ a.policy
    opened_is = subst (λ (ms : List Move). Chain after ms a.policy step.opened) (no_first_moves c r e) step.opening

    reads_are : step.reads ≡ granted_reads c r
    reads_are = all_made step.reads_made (few_reads c r e)

    pub step_replied : r ≡ replied meaning strict c (picture held a)
    step_replied =
        step.answered ∙ ap (λ (p : P). answer (λ p. meaning (held p)) strict c a p (length step.reads)) opened_is
        ∙ ap (checked (wrong c) (untimely c (a.stage (task c))) (barred strict (meaning (held a.policy)) c))
        (no_count c (sees meaning c (picture held a) (held a.policy)) (length step.reads) e)

    between_is : held step.between ≡ after_moves next (map (reads_variable (task c)) (granted_reads c r)) (held a.policy)
    between_is =
        chain_held (map (reads_variable (task c)) step.reads) step.opened step.between step.reading
        ∙ (λ i. after_moves next (map (reads_variable (task c)) (reads_are i)) (held (opened_is i)))

    held_is : held b.policy ≡ after_moves next (moves c (a.stage (task c)) r) (held a.policy)
    held_is =
        chain_held (last_moves c (a.stage (task c)) r) step.between b.policy step.closing
        ∙ ap (after_moves next (last_moves c (a.stage (task c)) r)) between_is
        ∙ sym (moves_append next (map (reads_variable (task c)) (granted_reads c r)) (last_moves c (a.stage (task c)) r) (held a.policy))

    stage_is : b.stage ≡ at a.stage (task c) (stage_after c r (a.stage (task c)))
    stage_is = is_at a.stage b.stage (task c) (stage_after c r (a.stage (task c))) step.stage step.other_stages

    pending_is : b.pending ≡ at a.pending (task c) (pending_after c r (a.pending (task c)))
    pending_is =
        is_at a.pending b.pending (task c) (pending_after c r (a.pending (task c))) (fun_ext step.pending)
        (λ u ne. fun_ext (step.other_pending u ne))

    shared_is : b.shared ≡ shared_after c r (sees meaning c (picture held a) (held a.policy)) a.shared
    shared_is =
        fun_ext step.shared
        ∙ ap (λ (p : P). shared_after c r (sees (λ p. meaning (held p)) c a p) a.shared) opened_is

    pub step_replayed : picture held b ≡ replayed meaning next c r (picture held a)
    step_replayed = λ i. record { policy = held_is i; stage = stage_is i; pending = pending_is i; shared = shared_is i }
