-- Changing one row changes what the rows say of one task.
use Rattle.std.proofs.Common.{◌≡◌, ℕ, zero, suc, ◌<◌, Bool, true, false, cond, ◌&&◌, eqb, ltb, ◌⊎◌, List, length, get_or, set, replicate, is_some, Some, None, Option, Result, IfOk, ok_or, sym, refl, ap, subst, ◌∙◌, inl, inr, arith, get_or-set_other, get_or-set_same}
use Rattle.std.proofs.lemmas.Bool.{cases_Bool, cases_eq, lt-ltb, eq-eqb, ne_eqb, eqb-true}
use Rattle.std.proofs.lemmas.Bool.Decides.{nat_tests}
use Rattle.policy.specs.Limits.{tasks}
use Rattle.varset.specs.Members.{member, Holds, plus}
use Rattle.transactions.specs.Sets.{Sets, no_transactions, begun, ended, has_read, has_written}
use Rattle.transactions.specs.Rows.{reads_in, writes_in, note_in, row, sets_of, notes_of, noted, sets, notes, IsOf, Puts}
use Rattle.policy.specs.declared.PolicyFault.{PolicyFault}
use Rattle.policy.specs.declared.PolicyFault.TheVariants.{Unfit}
use Rattle.transactions.specs.declared.transaction.Transaction.{Transaction}
use Rattle.transactions.specs.declared.Transactions.{Transactions}

-- sets that agree everywhere are the same
pub same_sets : {a b : Sets} → ((u : ℕ) → a.active u ≡ b.active u) → ((u w : ℕ) → a.reads u w ≡ b.reads u w) → ((u w : ℕ) → a.writes u w ≡ b.writes u w) → a ≡ b
same_sets p q r = λ i. record { active = λ u. p u i; reads = λ u w. q u w i; writes = λ u w. r u w i }

-- a function of a choice
chosen : {A B : Type 0} (f : A → B) (b : Bool) (x y : A) → f (cond b x y) ≡ cond b (f x) (f y)
chosen f true x y = refl
chosen f false x y = refl

module _ {N : Type 0} where
  -- a write to the list of rows puts the row
  pub put_row : (rows : List (Option (Transaction N))) (t : ℕ) (o : Option (Transaction N)) → t < tasks → length rows ≡ tasks → Puts t o rows (set rows t o)
  unfolding row
  put_row rows t o h l u = go (cases_eq u t)
    where
      go : (u ≡ t) ⊎ (u ≡ t → ⊥) → cond (ltb u tasks) (get_or (set rows t o) u None) None ≡ cond (eqb u t && ltb t tasks) o (cond (ltb u tasks) (get_or rows u None) None)
      go (inl e) =
          let k : t < length rows = omega arith in
          let i : get_or (set rows t o) u None ≡ o = ap (λ (n : ℕ). get_or (set rows t o) n None) e ∙ get_or-set_same rows t o None k in
          let a : ltb u tasks ≡ true = lt-ltb u tasks (omega arith) in
          let b : eqb u t ≡ true = eq-eqb u t e in
          let c : ltb t tasks ≡ true = lt-ltb t tasks h in
          rw (a, b, c, i)
      go (inr k) =
          let i : get_or (set rows t o) u None ≡ get_or rows u None = rw get_or-set_other in
          let b : eqb u t ≡ false = ne_eqb u t k in
          rw (b, i)

  -- a row of no task has no transaction
  pub beyond : (rows : List (Option (Transaction N))) (u : ℕ) → ltb u tasks ≡ false → row rows u ≡ None
  unfolding row
  beyond rows u e = rw e

  -- a row with a transaction is the row of a task
  pub there_fit : (rows : List (Option (Transaction N))) (t : ℕ) → is_some (row rows t) ≡ (ltb t tasks && is_some (row rows t))
  there_fit rows t = let n : ltb t tasks ≡ false → is_some (row rows t) ≡ false = λ e. ap is_some (beyond rows t e) in grind arith

  module _ (before after : List (Option (Transaction N))) (t : ℕ) (o : Option (Transaction N)) (p : Puts t o before after) where
    -- whatever is asked of a row, the answer changes at one task
    pub put_changes : {A : Type 0} (ask : Option (Transaction N) → A) (u : ℕ) → ask (row after u) ≡ cond (eqb u t && ltb t tasks) (ask o) (ask (row before u))
    put_changes ask u = ap ask (p u) ∙ chosen ask (eqb u t && ltb t tasks) o (row before u)

    -- the sets of a row that was put
    put_sets : (s : Sets)
        → ((u : ℕ) → cond (eqb u t && ltb t tasks) (is_some o) (is_some (row before u)) ≡ s.active u)
        → ((u w : ℕ) → cond (eqb u t && ltb t tasks) (reads_in o w) (reads_in (row before u) w) ≡ s.reads u w)
        → ((u w : ℕ) → cond (eqb u t && ltb t tasks) (writes_in o w) (writes_in (row before u) w) ≡ s.writes u w) → sets_of after ≡ s
    put_sets s a r w = same_sets
        (λ u. put_changes is_some u ∙ a u)
        (λ u v. put_changes (λ x. reads_in x v) u ∙ r u v)
        (λ u v. put_changes (λ x. writes_in x v) u ∙ w u v)

    -- what is asked of the row of a task, and of a row of no task
    same_row : {A : Type 0} (ask : Option (Transaction N) → A) (u : ℕ) → eqb u t ≡ true → ask (row before u) ≡ ask (row before t)
    same_row ask u e = ap (λ n. ask (row before n)) (eqb-true u t e)

    no_row : {A : Type 0} (ask : Option (Transaction N) → A) (u : ℕ) → ltb u tasks ≡ false → ask (row before u) ≡ ask None
    no_row ask u e = ap ask (beyond before u e)

    -- a new transaction with empty sets
    pub put_begun : is_some o ≡ true → ((w : ℕ) → reads_in o w ≡ false) → ((w : ℕ) → writes_in o w ≡ false) → sets_of after ≡ begun t (sets_of before)
    put_begun a r w = put_sets (begun t (sets_of before))
        (λ u. let n = no_row is_some u in grind (arith, nat_tests))
        (λ u v. let n = no_row (λ x. reads_in x v) u in let e = r v in grind (arith, nat_tests))
        (λ u v. let n = no_row (λ x. writes_in x v) u in let e = w v in grind (arith, nat_tests))

    -- no transaction any more
    pub put_ended : is_some o ≡ false → ((w : ℕ) → reads_in o w ≡ false) → ((w : ℕ) → writes_in o w ≡ false) → sets_of after ≡ ended t (sets_of before)
    put_ended a r w = put_sets (ended t (sets_of before))
        (λ u. let n = no_row is_some u in grind (arith, nat_tests))
        (λ u v. let n = no_row (λ x. reads_in x v) u in let e = r v in grind (arith, nat_tests))
        (λ u v. let n = no_row (λ x. writes_in x v) u in let e = w v in grind (arith, nat_tests))

    -- the note of a row that was put
    pub put_noted : (n : Option N) → note_in o ≡ n → notes_of after ≡ noted t n (notes_of before)
    put_noted n e i u = (put_changes note_in u ∙ ap (λ m. cond (eqb u t && ltb t tasks) m (note_in (row before u))) e) i

    -- what is noted of a transaction stays
    pub put_kept : note_in o ≡ note_in (row before t) → notes_of after ≡ notes_of before
    put_kept e i u = (put_changes note_in u ∙ go (cases_Bool (eqb u t)) (cases_Bool (ltb t tasks))) i
      where
        go : (eqb u t ≡ true) ⊎ (eqb u t ≡ false) → (ltb t tasks ≡ true) ⊎ (ltb t tasks ≡ false) → cond (eqb u t && ltb t tasks) (note_in o) (note_in (row before u)) ≡ note_in (row before u)
        go (inl a) (inl b) = rw (a, b) (e ∙ sym (same_row note_in u a))
        go (inl a) (inr b) = rw (a, b)
        go (inr a) b = rw a

  module _ (before after : List (Option (Transaction N))) (t v : ℕ) (x y : Transaction N) (was : row before t ≡ Some x) (p : Puts t (Some y) before after) where
    -- what was asked of the row of the task
    was_row : {A : Type 0} (ask : Option (Transaction N) → A) (u : ℕ) → eqb u t ≡ true → ask (row before u) ≡ ask (Some x)
    was_row ask u e = same_row before after t (Some y) p ask u e ∙ ap ask was

    -- a row with a transaction is the row of a task
    fit : ltb t tasks ≡ true
    fit = let a : is_some (row before t) ≡ true = ap is_some was in let b = there_fit before t in grind arith

    -- v in the read set, unless it is in the write set
    pub put_has_read : Holds y.reads (cond (member x.writes v) (member x.reads) (plus (member x.reads) v)) → y.writes ≡ x.writes
        → sets_of after ≡ has_read t v (sets_of before)
    put_has_read r w = put_sets before after t (Some y) p (has_read t v (sets_of before))
        (λ u. let k = was_row is_some u in grind arith)
        (λ u z.
        let k = was_row (λ o. reads_in o z) u in
        let a : is_some (row before t) ≡ true = ap is_some was in
        let b : writes_in (row before t) v ≡ member x.writes v = ap (λ o. writes_in o v) was in
        let i = fit in
        let e = r z in
        grind arith)
        (λ u z. let k = was_row (λ o. writes_in o z) u in let e : member y.writes z ≡ member x.writes z = ap (λ m. member m z) w in grind arith)

    -- v in the write set
    pub put_has_written : y.reads ≡ x.reads → Holds y.writes (plus (member x.writes) v) → sets_of after ≡ has_written t v (sets_of before)
    put_has_written r w = put_sets before after t (Some y) p (has_written t v (sets_of before))
        (λ u. let k = was_row is_some u in grind arith)
        (λ u z. let k = was_row (λ o. reads_in o z) u in let e : member y.reads z ≡ member x.reads z = ap (λ m. member m z) r in grind arith)
        (λ u z.
        let k = was_row (λ o. writes_in o z) u in
        let a : is_some (row before t) ≡ true = ap is_some was in
        let i = fit in
        let e = w z in
        grind arith)

  -- a task without a transaction reads and writes nothing
  module _ (rows : List (Option (Transaction N))) (t v : ℕ) (none : row rows t ≡ None) where
    idle : is_some (row rows t) ≡ false
    idle = ap is_some none

    pub none_has_read : sets_of rows ≡ has_read t v (sets_of rows)
    none_has_read = same_sets (λ u. refl) (λ u w. let l = idle in grind arith) (λ u w. refl)

    pub none_has_written : sets_of rows ≡ has_written t v (sets_of rows)
    none_has_written = same_sets (λ u. refl) (λ u w. refl) (λ u w. let l = idle in grind arith)

  -- what a row tells of a task, if it has a transaction
  pub told_open : (p : Transactions N) (t : ℕ) (o : Option (Transaction N)) (r : Result (Transaction N) PolicyFault) → o ≡ row p.rows t → r ≡ ok_or o Unfit → IfOk r (IsOf p t)
  unfolding sets notes
  told_open p t (Some x) r e f =
      let tells : IsOf p t x = record { reads = λ v. ap (λ o. reads_in o v) e; writes = λ v. ap (λ o. writes_in o v) e; note = ap note_in (sym e) } in
      subst (λ q. IfOk q (IsOf p t)) (sym f) tells
  told_open p t None r e f = subst (λ q. IfOk q (IsOf p t)) (sym f) tt

-- rows without a transaction
module _ (N : Type 0) (n : ℕ) where
  abbrev no_rows : List (Option (Transaction N))
  no_rows = replicate n None

  all_none : (t : ℕ) → row no_rows t ≡ None
  unfolding row
  all_none t = go (ltb t tasks)
    where
      alike : (k u : ℕ) → get_or {A = Option (Transaction N)} (replicate k None) u None ≡ None
      alike zero u = refl
      alike (suc k) zero = refl
      alike (suc k) (suc u) = alike k u

      go : (b : Bool) → cond b (get_or no_rows t None) None ≡ None
      go true = alike n t
      go false = refl

  pub none_sets : sets_of no_rows ≡ no_transactions
  none_sets = same_sets (λ u. ap is_some (all_none u)) (λ u w. ap (λ o. reads_in o w) (all_none u)) (λ u w. ap (λ o. writes_in o w) (all_none u))

  pub none_noted : notes_of no_rows ≡ (λ u. None)
  none_noted i u = ap note_in (all_none u) i
