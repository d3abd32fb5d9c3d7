-- Every call keeps the invariant: each kind of call, by the check that decided its answer.
use Rattle.std.proofs.Common.{◌≡◌, ℕ, Bool, true, false, List, [], ◌∷◌, map, take, ℤ, sym, refl, ap, ◌∙◌, subst, rules}
use Rattle.std.proofs.lemmas.Bool.{not-false, both_ways}
use mathlib.Core.Option.{none, some}
use Rattle.policy.specs.Facts.{Facts, may_read, may_write, may_commit, Proper}
use Rattle.policy.specs.Moves.{Move, Begun, HasWritten, Ended, Refused, Committed, Keeps, read_refused, write_refused, commit_refused}
use Rattle.policy.specs.Moves.{begin as begins, read as reads_variable, write as writes_variable, commit as commits, abort as aborts}
use Rattle.history.specs.Calls.{Call, begin, read, write, collect, snapshot, commit, abort, task, single, Barred, read_barred, write_barred, commit_barred, by_policy, Answer, done, refused}
use Rattle.history.specs.Answers.{Stage, idle, active, broken, granted, must_not_be_idle}
use Rattle.history.specs.Steps.{State, Chain, ReadsFor, Step, sees, abort_moves}
use Rattle.history.specs.Transactions.{Addition, adds, ends, Transaction, Ledger, aborted, policy_refused, calls, gots, note, addition}
use Rattle.history.specs.Runs.{in_transaction, Sound}
use Rattle.history.proofs.Logic.{no_some, at_same, at_other}
use Rattle.history.proofs.Rules.{commit_silent, commit_behind}
use Rattle.history.proofs.Views.{view, sight, Quiet}
use Rattle.history.proofs.GrantedReads.{ReadAll, made_reads}
use Rattle.history.proofs.Invariant.{Invariant}
use Rattle.history.proofs.Ledgers.{ends_nothing}
use Rattle.history.proofs.Begin.{begin_keeps, idle_keeps}
use Rattle.history.proofs.Access.{reads_keeps, write_keeps}
use Rattle.history.proofs.Commit.{commit_keeps}
use Rattle.history.proofs.End.{abort_keeps, bar_read_keeps, bar_write_keeps, bar_commit_keeps}
use Rattle.history.proofs.Snapshot.{snap_keeps, bar_snap_keeps}
use Rattle.history.proofs.Outcomes.{is_active, the_bar, the_place, Unasked, one_move, last_alone, unasked_policy, all_pending, unasked_pending, unasked_shared, by_answer}

module _ {P : Type 0} (facts : P → Facts) (after : P → Move → P → Type 0) (strict : Bool)
    (keeps : (p q : P) (m : Move) → after p m q → Keeps strict m (facts p) (facts q)) where
  -- what a refused read comes to
  ended_by_read : (t v : ℕ) (p q : P) → Chain after (read_refused t v ∷ []) p q → ((facts p).no_read t v ≡ true) × Ended t (facts p) (facts q)
  ended_by_read t v p q c = search rules

module _ {P : Type 0} (facts : P → Facts) (after : P → Move → P → Type 0) (strict : Bool)
    (keeps : (p q : P) (m : Move) → after p m q → Keeps strict m (facts p) (facts q)) (proper : (p : P) → Proper (facts p))
    (a b : State P) (L : Ledger) (order : List Transaction) (inv : Invariant (view facts a) L order) (sound : Sound facts a) where
  -- the invariant holds after a call
  abbrev pub Kept : Call → Answer → Type 0
  Kept c r = (next : List Transaction) × Invariant (view facts b) (note (addition (calls L) c r) b.shared L) next

  unasked : (c : Call) (r : Answer) → Unasked c (a.stage (task c)) r → Step facts after strict c a r b → Kept c r
  unasked c r u s = (
    order,
    subst (λ (x : Addition). Invariant (view facts b) (note x b.shared L) order) (sym (u.adds (calls L)))
        (idle_keeps (view facts a) (view facts b) L order inv (record {
          facts = ap facts (unasked_policy facts after strict s u);
          shared = unasked_shared facts after strict s u;
          pending = λ w l. all_pending facts after strict s (unasked_pending facts after strict s u) w;
        })),
  )

  begin_kept : (t : ℕ) (r : Answer) → Step facts after strict (begin t) a r b → Kept (begin t) r
  begin_kept t r s = by_answer facts after strict s (Kept (begin t)) (unasked (begin t))
      (λ x y p z s'. absurd (no_some refl z))
      (λ p k y s' e.
      let h : Begun t (facts a.policy) (facts b.policy) =
      keeps a.policy b.policy (begins t) (one_move facts after strict (begins t) a.policy b.policy (last_alone facts after strict s' refl refl)) in (
        order,
        begin_keeps t (view facts a) (view facts b) L order inv (record {
          rule = h;
          quiet = record { shared = s'.shared; pending = s'.other_pending };
        }),
      ))

  -- the policy has the task of a timely access
  was_active : (t : ℕ) → a.stage t ≡ active → (facts a.policy).active t ≡ true
  was_active t e = sound.agree t ∙ ap in_transaction e

  -- reads of vs, from the policy `opened` to `between`
  module _ (t : ℕ) (vs rs : List ℕ) (opened between : P) (start : opened ≡ a.policy) (stage : a.stage t ≡ active)
      (made : ReadsFor vs rs) (chain : Chain after (map (reads_variable t) rs) opened between) (quiet : Quiet t (view facts a) (view facts b)) where
    rule : ReadAll t vs (facts a.policy) (facts between)
    rule =
        subst (λ (x : P). ReadAll t vs (facts x) (facts between)) start
        (made_reads facts after strict keeps t vs rs opened between (subst (λ (x : P). (facts x).active t ≡ true) (sym start) (was_active t stage)) made chain)

    reads_done : b.policy ≡ between → ((v : ℕ) → b.pending t v ≡ a.pending t v)
        → Invariant (view facts b) (note (adds t (gots (calls L) vs (map (sight (view facts a) t) vs))) b.shared L) order
    reads_done end pending = reads_keeps t vs (view facts a) (view facts b) L order inv (record {
      rule = subst (λ (x : P). ReadAll t vs (facts a.policy) (facts x)) (sym end) rule;
      quiet = quiet;
      pending = pending;
    })

    -- and then the read of v was refused
    reads_barred : (v : ℕ) → Chain after (read_refused t v ∷ []) between b.policy
        → Invariant (view facts b) (note (ends t (policy_refused (some v) vs)) b.shared L) order
    reads_barred v c =
        let h = ended_by_read facts after strict keeps t v between b.policy c in
        bar_read_keeps t (view facts a) (view facts b) L order inv v vs (record {
          between = facts between;
          earlier = rule;
          barred = h.0;
          rule = h.1;
          quiet = quiet;
        })

  read_kept : (t v : ℕ) (r : Answer) → Step facts after strict (read t v) a r b → Kept (read t v) r
  read_kept t v r s = by_answer facts after strict s (Kept (read t v)) (unasked (read t v))
      (λ x y p z. subst (λ (why : Barred). Step facts after strict (read t v) a (refused (by_policy why)) b → Kept (read t v) (refused (by_policy why)))
      (the_bar (may_read (facts p) t v) (read_barred single v) x z) (λ s'. (
        order,
        reads_barred t [] s'.reads s'.opened s'.between s'.opening (is_active (a.stage t) y) s'.reads_made s'.reading
            (record { shared = s'.shared; pending = s'.other_pending }) v s'.closing,
      )))
      (λ p k y s' e. subst (λ (q : P). Kept (read t v) (granted (sees facts (read t v) a q) k (read t v))) (sym s'.opening ∙ e) (
        order,
        reads_done t (v ∷ []) s'.reads s'.opened s'.between s'.opening (is_active (a.stage t) y) s'.reads_made s'.reading
            (record { shared = s'.shared; pending = s'.other_pending }) s'.closing s'.pending,
      ))

  collect_kept : (t : ℕ) (vs : List ℕ) (room : ℕ) (r : Answer) → Step facts after strict (collect t vs room) a r b → Kept (collect t vs room) r
  collect_kept t vs room r s = by_answer facts after strict s (Kept c) (unasked c)
      (λ x y p z. let w = the_place (facts p) t 0 vs x z in
      subst (λ (why : Barred). Step facts after strict c a (refused (by_policy why)) b → Kept c (refused (by_policy why))) w.2 (λ s'. (
        order,
        reads_barred t (take w.0 vs) s'.reads s'.opened s'.between s'.opening (is_active (a.stage t) y) s'.reads_made s'.reading
            (record { shared = s'.shared; pending = s'.other_pending }) w.1 s'.closing,
      )))
      (λ p k y s' e. subst (λ (q : P). Kept c (granted (sees facts c a q) k c)) (sym s'.opening ∙ e) (
        order,
        reads_done t vs s'.reads s'.opened s'.between s'.opening (is_active (a.stage t) y) s'.reads_made s'.reading
            (record { shared = s'.shared; pending = s'.other_pending }) s'.closing s'.pending,
      ))
    where
      c : Call
      c = collect t vs room

  write_kept : (t v : ℕ) (x : ℤ) (r : Answer) → Step facts after strict (write t v x) a r b → Kept (write t v x) r
  write_kept t v x r s = by_answer facts after strict s (Kept (write t v x)) (unasked (write t v x))
      (λ w y p z. subst (λ (why : Barred). Step facts after strict (write t v x) a (refused (by_policy why)) b → Kept (write t v x) (refused (by_policy why)))
      (the_bar (may_write (facts p) t v) (write_barred v) w z) (λ s'.
      let h : Refused (may_write (facts a.policy) t v) t (facts a.policy) (facts b.policy) =
      keeps a.policy b.policy (write_refused t v) (one_move facts after strict (write_refused t v) a.policy b.policy (last_alone facts after strict s' refl refl)) in (
        order,
        bar_write_keeps t (view facts a) (view facts b) L order inv v (record {
          barred = not-false ((facts a.policy).no_write t v) h.barred;
          rule = h.ended;
          quiet = record { shared = s'.shared; pending = s'.other_pending };
        }),
      )))
      (λ p k y s' e.
      let h : HasWritten t v (facts a.policy) (facts b.policy) =
      keeps a.policy b.policy (writes_variable t v) (one_move facts after strict (writes_variable t v) a.policy b.policy (last_alone facts after strict s' refl refl)) in (
        order,
        write_keeps t v x (view facts a) (view facts b) L order inv (record {
          rule = h;
          quiet = record { shared = s'.shared; pending = s'.other_pending };
          put = s'.pending v ∙ at_same (a.pending t) v x;
          kept = λ w ne. s'.pending w ∙ at_other (a.pending t) v x w ne;
        }),
      ))

  commit_kept : (t : ℕ) (r : Answer) → Step facts after strict (commit t) a r b → Kept (commit t) r
  commit_kept t r s = by_answer facts after strict s (Kept (commit t)) (unasked (commit t))
      (λ x y p z. subst (λ (why : Barred). Step facts after strict (commit t) a (refused (by_policy why)) b → Kept (commit t) (refused (by_policy why)))
      (the_bar (may_commit strict (facts p) t) commit_barred x z) (λ s'.
      let h : Refused (may_commit strict (facts a.policy) t) t (facts a.policy) (facts b.policy) =
      keeps a.policy b.policy (commit_refused t) (one_move facts after strict (commit_refused t) a.policy b.policy (last_alone facts after strict s' refl refl)) in (
        order,
        bar_commit_keeps t (view facts a) (view facts b) L order inv (record {
          behind = commit_behind strict (facts a.policy) t h.barred;
          rule = h.ended;
          quiet = record { shared = s'.shared; pending = s'.other_pending };
        }),
      )))
      (λ p k y s' e.
      let h : Committed strict t (facts a.policy) (facts b.policy) =
      keeps a.policy b.policy (commits t) (one_move facts after strict (commits t) a.policy b.policy (last_alone facts after strict s' refl refl)) in
      commit_keeps strict t (view facts a) (view facts b) L order inv (record {
        rule = h;
        silent = commit_silent strict (facts a.policy) t (proper a.policy) h.granted;
        shared = λ v. s'.shared v ∙ ap (λ (q : P). sees facts (commit t) a q v) s'.opening;
        pending = s'.other_pending;
      }))

  abort_kept : (t : ℕ) (r : Answer) → Step facts after strict (abort t) a r b → Kept (abort t) r
  abort_kept t r s = by_answer facts after strict s (Kept (abort t)) (unasked (abort t))
      (λ x y p z s'. absurd (no_some refl z))
      (λ p k y s' e. at_stage (a.stage t) refl y s')
    where
      at_stage : (g : Stage) → a.stage t ≡ g → must_not_be_idle (a.stage t) ≡ none → Step facts after strict (abort t) a done b → Kept (abort t) done
      at_stage idle g y s' = absurd (no_some y (ap must_not_be_idle g))
      at_stage active g y s' =
          let c : Chain after (aborts t ∷ []) a.policy b.policy =
          subst (λ (x : Stage). Chain after (abort_moves t x) a.policy b.policy) g (last_alone facts after strict s' refl refl) in
          let h : Ended t (facts a.policy) (facts b.policy) =
          keeps a.policy b.policy (aborts t) (one_move facts after strict (aborts t) a.policy b.policy c) in (
            order,
            abort_keeps t (view facts a) (view facts b) L order inv (record {
              rule = h;
              quiet = record { shared = s'.shared; pending = s'.other_pending };
            }),
          )
      at_stage broken g y s' =
          let out : (facts a.policy).active t ≡ false = sound.agree t ∙ ap in_transaction g in
          let c : b.policy ≡ a.policy =
          subst (λ (x : Stage). Chain after (abort_moves t x) a.policy b.policy) g (last_alone facts after strict s' refl refl) in (
            order,
            subst (λ (X : Ledger). Invariant (view facts b) X order) (sym (ends_nothing t b.shared L aborted (inv.idle t out)))
                (idle_keeps (view facts a) (view facts b) L order inv (record {
                  facts = ap facts c;
                  shared = s'.shared;
                  pending = λ u l v. s'.other_pending u (λ q. both_ways _ out (subst (λ (w : ℕ). (facts a.policy).active w ≡ true) q l)) v;
                })),
          )

  snapshot_kept : (t : ℕ) (vs : List ℕ) (room : ℕ) (r : Answer) → Step facts after strict (snapshot t vs room) a r b → Kept (snapshot t vs room) r
  snapshot_kept t vs room r s = by_answer facts after strict s (Kept c) (unasked c)
      (λ x y p z. let w = the_place (facts p) t 0 vs x z in
      subst (λ (why : Barred). Step facts after strict c a (refused (by_policy why)) b → Kept c (refused (by_policy why))) w.2 (λ s'.
      let g : Begun t (facts a.policy) (facts s'.opened) = begun s' s'.opening in
      let h = ended_by_read facts after strict keeps t w.1 s'.between b.policy s'.closing in (
        order,
        bar_snap_keeps t w.1 (take w.0 vs) (view facts a) (view facts b) L order inv (record {
          opened = facts s'.opened;
          between = facts s'.between;
          begun = g;
          earlier = made_reads facts after strict keeps t (take w.0 vs) s'.reads s'.opened s'.between g.active s'.reads_made s'.reading;
          barred = h.0;
          ends = h.1;
          quiet = record { shared = s'.shared; pending = s'.other_pending };
        }),
      )))
      (λ p k y s' e.
      let g : Begun t (facts a.policy) (facts s'.opened) = begun s' s'.opening in
      let h : Committed strict t (facts s'.between) (facts b.policy) =
      keeps s'.between b.policy (commits t) (one_move facts after strict (commits t) s'.between b.policy s'.closing) in (
        _,
        snap_keeps strict t vs (sees facts c a p) (view facts a) (view facts b) L order inv (record {
          opened = facts s'.opened;
          between = facts s'.between;
          begun = g;
          rule = made_reads facts after strict keeps t vs s'.reads s'.opened s'.between g.active s'.reads_made s'.reading;
          ends = h;
          values = λ v. rw (subst (λ (q : P). (facts q).writes t v ≡ false) e (g.writes v)) refl;
          quiet = record { shared = s'.shared; pending = s'.other_pending };
        }),
      ))
    where
      c : Call
      c = snapshot t vs room

      begun : {q : Answer} (s' : Step facts after strict c a q b) → Chain after (begins t ∷ []) a.policy s'.opened → Begun t (facts a.policy) (facts s'.opened)
      begun s' o = keeps a.policy s'.opened (begins t) (one_move facts after strict (begins t) a.policy s'.opened o)

  -- every call keeps the invariant
  pub step_keeps : (c : Call) (r : Answer) → Step facts after strict c a r b → Kept c r
  step_keeps (begin t) r s = begin_kept t r s
  step_keeps (read t v) r s = read_kept t v r s
  step_keeps (write t v x) r s = write_kept t v x r s
  step_keeps (collect t vs room) r s = collect_kept t vs room r s
  step_keeps (snapshot t vs room) r s = snapshot_kept t vs room r s
  step_keeps (commit t) r s = commit_kept t r s
  step_keeps (abort t) r s = abort_kept t r s
