-- Stages and policy keep agreeing after every call.
use Rattle.std.proofs.Common.{◌≡◌, ℕ, Bool, true, false, ◌≢◌, ◌⊎◌, List, [], ◌∷◌, map, pos, sym, refl, ap, ◌∙◌, subst, inl, inr, rules}
use Rattle.std.proofs.lemmas.Bool.{cases_Bool}
use native.Mathlib.Decide.{ℕ_discrete}
use Rattle.policy.specs.Facts.{Facts, Proper}
use Rattle.policy.specs.Moves.{Move, Keeps, read_refused, write_refused, commit_refused}
use Rattle.policy.specs.Moves.{begin as begins, read as reads_variable, write as writes_variable, commit as commits, abort as aborts}
use Rattle.history.specs.Calls.{Call, task, Barred, Answer}
use Rattle.history.specs.Answers.{Stage}
use Rattle.history.specs.Steps.{State, Chain, Step, in_case, first_moves, refused_read, abort_moves, last_moves}
use Rattle.history.specs.Runs.{in_transaction, Sound, New}
use Rattle.history.proofs.OwnTask.{Own, own_task}

-- the task whose call a move is
abbrev pub mover : Move → ℕ
mover (begins t) = t
mover (reads_variable t v) = t
mover (writes_variable t v) = t
mover (read_refused t v) = t
mover (write_refused t v) = t
mover (commits t) = t
mover (commit_refused t) = t
mover (aborts t) = t

-- all these moves are calls of task t
abbrev pub AllBy : ℕ → List Move → Type 0
AllBy t [] = Unit {0}
AllBy t (m ∷ ms) = (mover m ≡ t) × AllBy t ms

-- no task other than t begins or ends, and none that is active writes
pub record Beside (t : ℕ) (f g : Facts) : Type 0 where
  pub active : (u : ℕ) → u ≢ t → g.active u ≡ f.active u
  pub writes : (u : ℕ) → u ≢ t → f.active u ≡ true → (v : ℕ) → g.writes u v ≡ f.writes u v

pub move_beside : (strict : Bool) (m : Move) (f g : Facts) → Keeps strict m f g → Beside (mover m) f g
move_beside = search rules

beside_more : {t : ℕ} {f g h : Facts} → Beside t f g → Beside t g h → Beside t f h
beside_more p q = search rules

-- so the write sets of all other tasks stay as they are
pub same_writes : {t : ℕ} {f g : Facts} → Proper f → Proper g → Beside t f g → (u : ℕ) → u ≢ t → (v : ℕ) → g.writes u v ≡ f.writes u v
same_writes {t} {f} {g} pf pg h u ne v = search rules

-- whatever holds of each case holds of the case that an answer picks
in_each_case : {A : Type 0} (Q : A → Type 0) (r : Answer) (ok : A) (bar : Barred → A) (un : A) → Q ok → ((x : Barred) → Q (bar x)) → Q un → Q (in_case r ok bar un)
in_each_case = search rules

first_by : (c : Call) (r : Answer) → AllBy (task c) (first_moves c r)
first_by = search rules

reads_by : (t : ℕ) (vs : List ℕ) → AllBy t (map (reads_variable t) vs)
reads_by t [] = tt
reads_by t (v ∷ vs) = (refl, reads_by t vs)

refused_by : (t : ℕ) (x : Barred) → AllBy t (refused_read t x)
refused_by = search rules

abort_by : (t : ℕ) (s : Stage) → AllBy t (abort_moves t s)
abort_by = search rules

last_by : (c : Call) (s : Stage) (r : Answer) → AllBy (task c) (last_moves c s r)
last_by = search rules

module _ {P : Type 0} (facts : P → Facts) where
  pub new_sound : {a : State P} → New facts a → Sound facts a
  new_sound {a} n = search rules

  module _ (after : P → Move → P → Type 0) (strict : Bool)
      (keeps : (p q : P) (m : Move) → after p m q → Keeps strict m (facts p) (facts q)) (proper : (p : P) → Proper (facts p)) where
    chain_beside : (t : ℕ) (ms : List Move) (p q : P) → AllBy t ms → Chain after ms p q → Beside t (facts p) (facts q)
    chain_beside t [] p q h e = record { active = λ u ne. ap (λ (x : P). (facts x).active u) e; writes = λ u ne l v. ap (λ (x : P). (facts x).writes u v) e }
    chain_beside t (m ∷ ms) p q h c =
        beside_more (subst (λ (k : ℕ). Beside k (facts p) (facts c.0)) h.0 (move_beside strict m (facts p) (facts c.0) (keeps p c.0 m c.1)))
        (chain_beside t ms c.0 q h.1 c.2)

    step_beside : {c : Call} {a b : State P} {r : Answer} → Step facts after strict c a r b → Beside (task c) (facts a.policy) (facts b.policy)
    step_beside {c} {a} {b} {r} s =
        beside_more (chain_beside (task c) (first_moves c r) a.policy s.opened (first_by c r) s.opening)
        (beside_more (chain_beside (task c) (map (reads_variable (task c)) s.reads) s.opened s.between (reads_by (task c) s.reads) s.reading)
        (chain_beside (task c) (last_moves c (a.stage (task c)) r) s.between b.policy (last_by c (a.stage (task c)) r) s.closing))

    -- every call keeps a table sound
    pub step_sound : {c : Call} {a b : State P} {r : Answer} → Step facts after strict c a r b → Sound facts a → Sound facts b
    step_sound {c} {a} {b} {r} s sound = record {
      agree = λ u. agree u (ℕ_discrete u (task c));
      unwritten = λ u v e. unwritten u v e (ℕ_discrete u (task c)) (cases_Bool ((facts a.policy).active u));
    }
      where
        own : Own facts after strict keeps proper a b sound c r
        own = own_task facts after strict keeps proper a b sound c r s

        agree : (u : ℕ) → Dec (u ≡ task c) → (facts b.policy).active u ≡ in_transaction (b.stage u)
        agree u (yes q) = subst (λ (k : ℕ). (facts b.policy).active k ≡ in_transaction (b.stage k)) (sym q) (own.0 ∙ sym (ap in_transaction s.stage))
        agree u (no ne) = (step_beside s).active u ne ∙ sound.agree u ∙ sym (ap in_transaction (s.other_stages u ne))

        unwritten : (u v : ℕ) → (facts b.policy).writes u v ≡ false → Dec (u ≡ task c)
            → ((facts a.policy).active u ≡ true) ⊎ ((facts a.policy).active u ≡ false) → b.pending u v ≡ pos 0
        unwritten u v e (yes q) l =
            subst (λ (k : ℕ). b.pending k v ≡ pos 0) (sym q) (s.pending v ∙ own.1 v (subst (λ (k : ℕ). (facts b.policy).writes k v ≡ false) q e))
        unwritten u v e (no ne) (inl l) = s.other_pending u ne v ∙ sound.unwritten u v (sym ((step_beside s).writes u ne l v) ∙ e)
        unwritten u v e (no ne) (inr l) = s.other_pending u ne v ∙ sound.unwritten u v ((proper a.policy).no_writes u v l)
