-- Stages and policy keep agreeing: what a call does to the task that makes it.
use Rattle.std.proofs.Common.{◌≡◌, ℕ, Bool, false, List, [], ◌∷◌, map, ℤ, pos, sym, refl, ap, ◌∙◌, subst}
use Rattle.std.proofs.lemmas.Bool.{both_ways}
use mathlib.Core.Option.{none}
use Rattle.policy.specs.Facts.{Facts, Proper, may_read, may_write, may_commit}
use Rattle.policy.specs.Moves.{Move, HasWritten, Keeps, read_refused, write_refused, commit_refused}
use Rattle.policy.specs.Moves.{begin as begins, read as reads_variable, write as writes_variable, commit as commits, abort as aborts}
use Rattle.history.specs.Calls.{Call, begin, read, write, collect, snapshot, commit, abort, task, single, Barred, read_barred, write_barred, commit_barred, by_policy, Answer, done, refused}
use Rattle.history.specs.Answers.{Stage, idle, active, broken, untimely, must_be_idle, must_not_be_idle}
use Rattle.history.specs.Steps.{State, Chain, Step, abort_moves, stage_after, pending_after}
use Rattle.history.specs.Runs.{in_transaction, Sound}
use Rattle.history.proofs.Logic.{no_some, at_elim}
use Rattle.history.proofs.GrantedReads.{ReadAll, chain_reads}
use Rattle.history.proofs.Outcomes.{is_active, is_idle, the_bar, the_place, Unasked, one_move, last_alone, unasked_policy, by_answer}

module _ {P : Type 0} (facts : P → Facts) (after : P → Move → P → Type 0) (strict : Bool)
    (keeps : (p q : P) (m : Move) → after p m q → Keeps strict m (facts p) (facts q)) (proper : (p : P) → Proper (facts p))
    (a b : State P) (sound : Sound facts a) where
  -- the task of a call agrees with the policy after it
  abbrev pub Own : Call → Answer → Type 0
  Own c r = ((facts b.policy).active (task c) ≡ in_transaction (stage_after c r (a.stage (task c))))
      × ((v : ℕ) → (facts b.policy).writes (task c) v ≡ false → pending_after c r (a.pending (task c)) v ≡ pos 0)

  unasked : (c : Call) (r : Answer) → Unasked c (a.stage (task c)) r → Step facts after strict c a r b → Own c r
  unasked c r u s = (
    ap (λ (p : P). (facts p).active (task c)) same ∙ sound.agree (task c) ∙ sym u.stage,
    λ v e. ap (λ (p : ℕ → ℤ). p v) (u.pending (a.pending (task c)))
        ∙ sound.unwritten (task c) v (ap (λ (p : P). (facts p).writes (task c) v) (sym same) ∙ e),
  )
    where
      same : b.policy ≡ a.policy
      same = unasked_policy facts after strict s u

  -- the rule of the only move that a call makes
  only_rule : (m : Move) → Chain after (m ∷ []) a.policy b.policy → Keeps strict m (facts a.policy) (facts b.policy)
  only_rule m c = keeps a.policy b.policy m (one_move facts after strict m a.policy b.policy c)

  -- after granted reads
  reads_own : (t : ℕ) (rs : List ℕ) (opened between : P) → opened ≡ a.policy → a.stage t ≡ active
      → Chain after (map (reads_variable t) rs) opened between → b.policy ≡ between
      → ((facts b.policy).active t ≡ in_transaction (a.stage t)) × ((v : ℕ) → (facts b.policy).writes t v ≡ false → a.pending t v ≡ pos 0)
  reads_own t rs opened between start stage chain end = (
    ap (λ (p : P). (facts p).active t) end ∙ rule.active ∙ sym (ap in_transaction stage),
    λ v e. sound.unwritten t v (ap (λ (p : P). (facts p).writes t v) (sym start) ∙ sym (rule.writes v) ∙ ap (λ (p : P). (facts p).writes t v) (sym end) ∙ e),
  )
    where
      rule : ReadAll t rs (facts opened) (facts between)
      rule = chain_reads facts after strict keeps t rs opened between
          (ap (λ (p : P). (facts p).active t) start ∙ sound.agree t ∙ ap in_transaction stage) chain

  -- after a refused read
  barred_own : (t v : ℕ) (between : P) → Chain after (read_refused t v ∷ []) between b.policy → (facts b.policy).active t ≡ false
  barred_own t v between c = (keeps between b.policy (read_refused t v) (one_move facts after strict (read_refused t v) between b.policy c)).ended.gone

  read_own : (t v : ℕ) (r : Answer) → Step facts after strict (read t v) a r b → Own (read t v) r
  read_own t v r s = by_answer facts after strict s (Own (read t v)) (unasked (read t v))
      (λ x y p z. subst (λ (why : Barred). Step facts after strict (read t v) a (refused (by_policy why)) b → Own (read t v) (refused (by_policy why)))
      (the_bar (may_read (facts p) t v) (read_barred single v) x z) (λ s'. (barred_own t v s'.between s'.closing, λ w f. refl)))
      (λ p k y s' e. reads_own t s'.reads s'.opened s'.between s'.opening (is_active (a.stage t) y) s'.reading s'.closing)

  collect_own : (t : ℕ) (vs : List ℕ) (room : ℕ) (r : Answer) → Step facts after strict (collect t vs room) a r b → Own (collect t vs room) r
  collect_own t vs room r s = by_answer facts after strict s (Own (collect t vs room)) (unasked (collect t vs room))
      (λ x y p z. let w = the_place (facts p) t 0 vs x z in
      subst (λ (why : Barred). Step facts after strict (collect t vs room) a (refused (by_policy why)) b → Own (collect t vs room) (refused (by_policy why)))
      w.2 (λ s'. (barred_own t w.1 s'.between s'.closing, λ v f. refl)))
      (λ p k y s' e. reads_own t s'.reads s'.opened s'.between s'.opening (is_active (a.stage t) y) s'.reading s'.closing)

  write_own : (t v : ℕ) (x : ℤ) (r : Answer) → Step facts after strict (write t v x) a r b → Own (write t v x) r
  write_own t v x r s = by_answer facts after strict s (Own (write t v x)) (unasked (write t v x))
      (λ w y p z. subst (λ (why : Barred). Step facts after strict (write t v x) a (refused (by_policy why)) b → Own (write t v x) (refused (by_policy why)))
      (the_bar (may_write (facts p) t v) (write_barred v) w z)
      (λ s'. ((only_rule (write_refused t v) (last_alone facts after strict s' refl refl)).ended.gone, λ u f. refl)))
      (λ p k y s' e. written (only_rule (writes_variable t v) (last_alone facts after strict s' refl refl)) y)
    where
      written : HasWritten t v (facts a.policy) (facts b.policy) → untimely (write t v x) (a.stage t) ≡ none → Own (write t v x) done
      written h y = (
        h.active ∙ sym (ap in_transaction (is_active (a.stage t) y)),
        λ w f. at_elim (λ (z : ℤ). z ≡ pos 0) (a.pending t) v x w
            (λ q. absurd (both_ways _ (ap ((facts b.policy).writes t) (sym q) ∙ f) h.written))
            (λ ne. sound.unwritten t w (sym (h.writes w ne) ∙ f)),
      )

  commit_own : (t : ℕ) (r : Answer) → Step facts after strict (commit t) a r b → Own (commit t) r
  commit_own t r s = by_answer facts after strict s (Own (commit t)) (unasked (commit t))
      (λ x y p z. subst (λ (why : Barred). Step facts after strict (commit t) a (refused (by_policy why)) b → Own (commit t) (refused (by_policy why)))
      (the_bar (may_commit strict (facts p) t) commit_barred x z)
      (λ s'. ((only_rule (commit_refused t) (last_alone facts after strict s' refl refl)).ended.gone, λ u f. refl)))
      (λ p k y s' e. ((only_rule (commits t) (last_alone facts after strict s' refl refl)).gone, λ u f. refl))

  abort_own : (t : ℕ) (r : Answer) → Step facts after strict (abort t) a r b → Own (abort t) r
  abort_own t r s = by_answer facts after strict s (Own (abort t)) (unasked (abort t)) (λ x y p z s'. absurd (no_some refl z)) (λ p k y s' e. (at_stage (a.stage t) refl y s', λ v f. refl))
    where
      moved : {g : Stage} → a.stage t ≡ g → Step facts after strict (abort t) a done b → Chain after (abort_moves t g) a.policy b.policy
      moved e s' = subst (λ (x : Stage). Chain after (abort_moves t x) a.policy b.policy) e (last_alone facts after strict s' refl refl)

      at_stage : (g : Stage) → a.stage t ≡ g → must_not_be_idle (a.stage t) ≡ none → Step facts after strict (abort t) a done b
          → (facts b.policy).active t ≡ false
      at_stage idle e y s' = absurd (no_some y (ap must_not_be_idle e))
      at_stage active e y s' = (only_rule (aborts t) (moved e s')).gone
      at_stage broken e y s' = ap (λ (p : P). (facts p).active t) (moved e s') ∙ sound.agree t ∙ ap in_transaction e

  snapshot_own : (t : ℕ) (vs : List ℕ) (room : ℕ) (r : Answer) → Step facts after strict (snapshot t vs room) a r b → Own (snapshot t vs room) r
  snapshot_own t vs room r s = by_answer facts after strict s (Own (snapshot t vs room)) (unasked (snapshot t vs room))
      (λ x y p z. let w = the_place (facts p) t 0 vs x z in
      subst (λ (why : Barred). Step facts after strict (snapshot t vs room) a (refused (by_policy why)) b → Own (snapshot t vs room) (refused (by_policy why)))
      w.2 (λ s'. idle_still (barred_own t w.1 s'.between s'.closing) y))
      (λ p k y s' e. idle_still (keeps s'.between b.policy (commits t) (one_move facts after strict (commits t) s'.between b.policy s'.closing)).gone y)
    where
      idle_still : (facts b.policy).active t ≡ false → must_be_idle (a.stage t) ≡ none
          → ((facts b.policy).active t ≡ in_transaction (a.stage t)) × ((v : ℕ) → (facts b.policy).writes t v ≡ false → a.pending t v ≡ pos 0)
      idle_still gone y =
          let out : in_transaction (a.stage t) ≡ false = ap in_transaction (is_idle (a.stage t) y) in
          (gone ∙ sym out, λ v f. sound.unwritten t v ((proper a.policy).no_writes t v (sound.agree t ∙ out)))

  pub own_task : (c : Call) (r : Answer) → Step facts after strict c a r b → Own c r
  own_task (begin t) r s = by_answer facts after strict s (Own (begin t)) (unasked (begin t)) (λ x y p z s'. absurd (no_some refl z))
      (λ p k y s' e. ((only_rule (begins t) (last_alone facts after strict s' refl refl)).active, λ v f. refl))
  own_task (read t v) r s = read_own t v r s
  own_task (write t v x) r s = write_own t v x r s
  own_task (collect t vs room) r s = collect_own t vs room r s
  own_task (snapshot t vs room) r s = snapshot_own t vs room r s
  own_task (commit t) r s = commit_own t r s
  own_task (abort t) r s = abort_own t r s
