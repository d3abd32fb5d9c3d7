-- A step taken apart: which check decided its answer, and what its moves come to.
use Rattle.std.proofs.Common.{◌≡◌, ℕ, suc, Bool, true, false, List, [], ◌∷◌, ◌++◌, map, length, ℤ, sym, refl, ap, ◌∙◌, subst, rules}
use native.Mathlib.Decide.{ℕ_discrete}
use mathlib.Core.Option.{Option, none, some}
use Rattle.policy.specs.Facts.{Facts, may_read}
use Rattle.policy.specs.Moves.{Move}
use Rattle.policy.specs.Moves.{read as reads_variable}
use Rattle.history.specs.Calls.{Call, task, listed, Wrong, Untimely, Barred, read_barred, sent_wrongly, at_wrong_time, by_policy, Answer, refused}
use Rattle.history.specs.Answers.{Stage, idle, active, checked, must_be_active, must_be_idle, unless_allowed, first_barred, wrong, untimely, barred, granted}
use Rattle.history.specs.Steps.{State, Chain, ReadsFor, none_made, made, left_out, Step, sees, first_moves, granted_reads, last_moves, stage_after, pending_after, shared_after}
use Rattle.history.specs.Transactions.{nothing, addition}
use Rattle.history.specs.Runs.{in_transaction}
use Rattle.history.proofs.Logic.{no_some}

-- an answer is decided by the first check that fails
pub by_check : (Q : Answer → Type 0) (w : Option Wrong) (y : Option Untimely) (z : Option Barred) (ok : Answer)
    → ((x : Wrong) → w ≡ some x → Q (refused (sent_wrongly x)))
    → ((x : Untimely) → y ≡ some x → Q (refused (at_wrong_time x)))
    → ((x : Barred) → y ≡ none → z ≡ some x → Q (refused (by_policy x)))
    → (y ≡ none → z ≡ none → Q ok)
    → Q (checked w y z ok)
by_check = search rules

pub is_active : (s : Stage) → must_be_active s ≡ none → s ≡ active
is_active = search rules

pub is_idle : (s : Stage) → must_be_idle s ≡ none → s ≡ idle
is_idle = search rules

-- what the policy bars is what was asked for
pub the_bar : (may : Bool) (why x : Barred) → unless_allowed may why ≡ some x → why ≡ x
the_bar true why x h = absurd (no_some refl h)
the_bar false why x h = cc

-- a list is barred at a place, for a variable
pub the_place : (f : Facts) (t i : ℕ) (vs : List ℕ) (x : Barred) → first_barred f t i vs ≡ some x → (j : ℕ) × (v : ℕ) × (read_barred (listed j) v ≡ x)
the_place f t i [] x h = absurd (no_some refl h)
the_place f t i (v ∷ vs) x h = go (the_place f t (suc i) vs x) (may_read f t v) refl
  where
    go : (first_barred f t (suc i) vs ≡ some x → (j : ℕ) × (w : ℕ) × (read_barred (listed j) w ≡ x)) → (may : Bool) → may_read f t v ≡ may
        → (j : ℕ) × (w : ℕ) × (read_barred (listed j) w ≡ x)
    go later true e = later (rw e at h)
    go later false e = let k : some (read_barred (listed i) v) ≡ some x = rw e at h in (i, v, cc)

-- a call that never came to the policy, from stage s: it makes no move, and adds nothing
pub record Unasked (c : Call) (s : Stage) (r : Answer) : Type 0 where
  pub first : first_moves c r ≡ []
  pub reads : granted_reads c r ≡ []
  pub last : last_moves c s r ≡ []
  pub stage : in_transaction (stage_after c r s) ≡ in_transaction s
  pub pending : (p : ℕ → ℤ) → pending_after c r p ≡ p
  pub shared : (see old : ℕ → ℤ) → shared_after c r see old ≡ old
  pub adds : (n : ℕ) → addition n c r ≡ nothing

pub wrong_unasked : (c : Call) (s : Stage) (x : Wrong) → Unasked c s (refused (sent_wrongly x))
wrong_unasked = search rules

-- a commit at the wrong time finds no transaction
out : (s : Stage) (x : Untimely) → must_be_active s ≡ some x → in_transaction s ≡ false
out = search rules

pub untimely_unasked : (c : Call) (s : Stage) (x : Untimely) → untimely c s ≡ some x → Unasked c s (refused (at_wrong_time x))
untimely_unasked = search rules

-- no reads are made for no variables
pub made_none : {vs rs : List ℕ} → ReadsFor vs rs → vs ≡ [] → rs ≡ []
made_none none_made e = refl
made_none (made {vs = vs} {rs = rs} v m) e = absurd (go vs e)
  where
    go : (vs : List ℕ) → vs ++ (v ∷ []) ≡ [] → ⊥
    go [] h = cc
    go (w ∷ ws) h = cc
made_none (left_out {vs = vs} {rs = rs} v i m) e = absurd (go vs e)
  where
    go : (vs : List ℕ) → vs ++ (v ∷ []) ≡ [] → ⊥
    go [] h = cc
    go (w ∷ ws) h = cc

module _ {P : Type 0} (facts : P → Facts) (after : P → Move → P → Type 0) (strict : Bool) where
  pub no_move : (ms : List Move) (p q : P) → ms ≡ [] → Chain after ms p q → q ≡ p
  no_move ms p q e c = subst (λ (l : List Move). Chain after l p q) e c

  pub one_move : (m : Move) (p q : P) → Chain after (m ∷ []) p q → after p m q
  one_move m p q c = subst (λ (x : P). after p m x) (sym c.2) c.1

  module _ {c : Call} {a b : State P} {r : Answer} (s : Step facts after strict c a r b) where
    -- without reads, the policy stays as it was opened
    pub between_is : granted_reads c r ≡ [] → s.between ≡ s.opened
    between_is e =
        no_move (map (reads_variable (task c)) s.reads) s.opened s.between
        (ap (map (reads_variable (task c))) (made_none s.reads_made e)) s.reading

    -- a step without a begin and without reads makes its last moves alone
    pub last_alone : first_moves c r ≡ [] → granted_reads c r ≡ [] → Chain after (last_moves c (a.stage (task c)) r) a.policy b.policy
    last_alone f e =
        subst (λ (p : P). Chain after (last_moves c (a.stage (task c)) r) p b.policy)
        (between_is e ∙ no_move (first_moves c r) a.policy s.opened f s.opening) s.closing

    pub unasked_policy : Unasked c (a.stage (task c)) r → b.policy ≡ a.policy
    unasked_policy u = no_move (last_moves c (a.stage (task c)) r) a.policy b.policy u.last (last_alone u.first u.reads)

    -- the pending values of every task, where those of the call's task stay
    pub all_pending : ((v : ℕ) → b.pending (task c) v ≡ a.pending (task c) v) → (u v : ℕ) → b.pending u v ≡ a.pending u v
    all_pending h u v = go (ℕ_discrete u (task c))
      where
        go : Dec (u ≡ task c) → b.pending u v ≡ a.pending u v
        go (yes e) = subst (λ (k : ℕ). b.pending k v ≡ a.pending k v) (sym e) (h v)
        go (no ne) = s.other_pending u ne v

    pub unasked_pending : Unasked c (a.stage (task c)) r → (v : ℕ) → b.pending (task c) v ≡ a.pending (task c) v
    unasked_pending u v = s.pending v ∙ ap (λ (p : ℕ → ℤ). p v) (u.pending (a.pending (task c)))

    pub unasked_shared : Unasked c (a.stage (task c)) r → (v : ℕ) → b.shared v ≡ a.shared v
    unasked_shared u v = s.shared v ∙ ap (λ (p : ℕ → ℤ). p v) (u.shared (sees facts c a s.opened) a.shared)

    -- the cases of an answer: the policy wasn't asked, or it refused, or it granted
    pub by_answer : (Q : Answer → Type 0)
        → ((q : Answer) → Unasked c (a.stage (task c)) q → Step facts after strict c a q b → Q q)
        → ((x : Barred) → untimely c (a.stage (task c)) ≡ none → (p : P) → barred strict (facts p) c ≡ some x
        → Step facts after strict c a (refused (by_policy x)) b → Q (refused (by_policy x)))
        → ((p : P) (k : ℕ) → untimely c (a.stage (task c)) ≡ none
        → (s' : Step facts after strict c a (granted (sees facts c a p) k c) b) → s'.opened ≡ p → Q (granted (sees facts c a p) k c))
        → Q r
    by_answer Q unasked bars grants =
        subst (λ (q : Answer). (s' : Step facts after strict c a q b) → s'.opened ≡ s.opened → Q q) (sym s.answered)
        (by_check (λ (q : Answer). (s' : Step facts after strict c a q b) → s'.opened ≡ s.opened → Q q)
        (wrong c) (untimely c (a.stage (task c))) (barred strict (facts s.opened) c) (granted (sees facts c a s.opened) (length s.reads) c)
        (λ x w s' e. unasked (refused (sent_wrongly x)) (wrong_unasked c (a.stage (task c)) x) s')
        (λ x y s' e. unasked (refused (at_wrong_time x)) (untimely_unasked c (a.stage (task c)) x y) s')
        (λ x y z s' e. bars x y s.opened z s')
        (λ y z s' e. grants s.opened (length s.reads) y s' e))
        s refl
