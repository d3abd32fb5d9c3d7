-- What each change of a table of transactions does to what a clock policy holds.
use Rattle.std.proofs.Common.{◌≡◌, ℕ, Bool, true, false, cond, not, ◌&&◌, ◌||◌, eqb, ltb, List, Some, None, Option, Ok, Err, ok_or, sym, refl, ap, ap₂, ◌∙◌, inl, inr, arith}
use Rattle.std.proofs.lemmas.Bool.{cases_Bool, eq-eqb, eqb-true, and_right, and_parts}
use Rattle.policy.specs.Limits.{tasks, variables}
use Rattle.varset.specs.Members.{member, nothing, plus}
use Rattle.transactions.specs.declared.transaction.Transaction.{Transaction}
use Rattle.transactions.specs.declared.Transactions.{Transactions}
use Rattle.transactions.specs.Sets.{Sets, fit_access, begun as begun_sets, ended, has_read, has_written}
use Rattle.transactions.specs.Rows.{sets, notes, noted, IsOf}
use Rattle.clock.specs.Held.{Running, writes_of}
use Rattle.clock.specs.Steps.{with_transaction, begun, with_read, with_write}
use Rattle.clock.specs.Rows.{rows}
use Rattle.clock.specs.Told.{told, rows_told, rows_idle, rows_writes}
use Rattle.clock.proofs.Arrays.{holding}
use Rattle.clock.proofs.Reading.{same_held}

told_same : (n m : Option ℕ) (r q w p : ℕ → Bool) → n ≡ m → ((v : ℕ) → r v ≡ q v) → ((v : ℕ) → w v ≡ p v) → told n r w ≡ told m q p
told_same n m r q w p e f g = λ i. told (e i) (λ v. f v i) (λ v. g v i)

told_read : (v : ℕ) (n : Option ℕ) (r w : ℕ → Bool) → with_read v (told n r w) ≡ told n (cond (w v) r (plus r v)) w
told_read v None r w = refl
told_read v (Some n) r w = refl

told_write : (v : ℕ) (n : Option ℕ) (r w : ℕ → Bool) → with_write v (told n r w) ≡ told n r (plus w v)
told_write v None r w = refl
told_write v (Some n) r w = refl

-- an access that is fit gives the transaction in the row
pub row_found : {A E : Type 0} (fit : Bool) (o : Option A) (why : E) (x : A) → Ok x ≡ cond fit (ok_or o why) (Err why) → o ≡ Some x
row_found true (Some y) why x e = cc
row_found true None why x e = cc
row_found false o why x e = cc

module _ (clock : ℕ) (ns : List ℕ) (x y : Transactions ℕ) (t : ℕ) where
  -- one row changes
  changed : (o : Option Running) → rows y t ≡ o → ((u : ℕ) → eqb u t ≡ false → rows y u ≡ rows x u)
      → holding clock ns y ≡ with_transaction t o (holding clock ns x)
  changed o here other =
      same_held (holding clock ns y) (with_transaction t o (holding clock ns x)) refl (λ v. refl)
      (λ u.
      elim (cases_Bool (eqb u t)) [
        | inl e ↦ ap (rows y) (eqb-true u t e) ∙ here ∙ sym (ap (λ b. cond b o (rows x u)) e)
        | inr e ↦ other u e ∙ sym (ap (λ b. cond b o (rows x u)) e)
      ])

  -- the row of a task by what the table tells of it
  rows_by : (u : ℕ) (s : Sets) (n m : Option ℕ) (r w : ℕ → Bool) → sets y ≡ s → notes y u ≡ n → n ≡ m
      → ((v : ℕ) → s.reads u v ≡ r v) → ((v : ℕ) → s.writes u v ≡ w v) → rows y u ≡ told m r w
  rows_by u s n m r w e k l f g =
      rows_told y u
      ∙ told_same (notes y u) m ((sets y).reads u) r ((sets y).writes u) w (k ∙ l)
      (λ v. ap (λ (z : Sets). z.reads u v) e ∙ f v)
      (λ v. ap (λ (z : Sets). z.writes u v) e ∙ g v)

  -- no other row changes where the table tells of it what it told before
  kept : (s : Sets) (n : ℕ → Option ℕ) → sets y ≡ s → notes y ≡ n
      → ((u : ℕ) → eqb u t ≡ false → n u ≡ notes x u)
      → ((u v : ℕ) → eqb u t ≡ false → s.reads u v ≡ (sets x).reads u v)
      → ((u v : ℕ) → eqb u t ≡ false → s.writes u v ≡ (sets x).writes u v)
      → (u : ℕ) → eqb u t ≡ false → rows y u ≡ rows x u
  kept s n e k l f g u h =
      rows_by u s (n u) (notes x u) ((sets x).reads u) ((sets x).writes u) e (ap (λ m. m u) k) (l u h) (λ v. f u v h) (λ v. g u v h)
      ∙ sym (rows_told x u)

  same : eqb t t ≡ true
  same = eq-eqb t t refl

  -- a transaction that begins
  pub begun_held : ltb t tasks ≡ true → sets y ≡ begun_sets t (sets x) → notes y ≡ noted t (Some clock) (notes x)
      → holding clock ns y ≡ with_transaction t (Some (begun clock)) (holding clock ns x)
  begun_held there e k =
      let s : Sets = sets x in
      changed (Some (begun clock))
      (rows_by t (begun_sets t s) (noted t (Some clock) (notes x) t) (Some clock) nothing nothing e (ap (λ n. n t) k)
      (ap₂ (λ a b. cond (a && b) (Some clock) (notes x t)) same there) (λ v. and_right (s.reads t v) _ (ap not same))
      (λ v. and_right (s.writes t v) _ (ap not same)))
      (kept (begun_sets t s) (noted t (Some clock) (notes x)) e k (λ u h. ap (λ b. cond (b && ltb t tasks) (Some clock) (notes x u)) h)
      (λ u v h. grind arith) (λ u v h. grind arith))

  -- one that ends
  pub ended_held : ltb t tasks ≡ true → sets y ≡ ended t (sets x) → notes y ≡ noted t None (notes x)
      → holding clock ns y ≡ with_transaction t None (holding clock ns x)
  ended_held there e k =
      let s : Sets = sets x in
      let gone : notes y t ≡ None = ap (λ n. n t) k ∙ ap₂ (λ a b. cond (a && b) None (notes x t)) same there in
      changed None (rows_idle y t gone)
      (kept (ended t s) (noted t None (notes x)) e k (λ u h. ap (λ b. cond (b && ltb t tasks) None (notes x u)) h)
      (λ u v h. grind arith) (λ u v h. grind arith))

  -- the write set of the transaction that the table tells
  pub writes_held : (z : Transaction ℕ) → IsOf x t z → member z.writes ≡ writes_of (rows x t)
  writes_held z tells = λ i v. (tells.writes v ∙ sym (rows_writes x t v)) i

  module _ (v : ℕ) (fit : true ≡ fit_access (sets x) t v) where
    parts : (ltb v variables ≡ true) × ((sets x).active t ≡ true)
    parts = and_parts (ltb v variables) ((sets x).active t) (and_parts (ltb t tasks) (ltb v variables && (sets x).active t) (sym fit)).1

    there : ltb v variables ≡ true
    there = parts.0

    open' : (sets x).active t ≡ true
    open' = parts.1

    gains : (r w : ℕ → Bool) (a : ℕ) → (r a || ((eqb t t && eqb a v) && ((sets x).active t && (ltb v variables && not (w v)))))
        ≡ cond (w v) r (plus r v) a
    gains r w a =
        elim (cases_Bool (w v)) [
          | inl p ↦ rw (same, open', there, p) (grind arith)
          | inr p ↦ rw (same, open', there, p) (grind arith)
        ]

    -- one that reads
    pub read_held : sets y ≡ has_read t v (sets x) → notes y ≡ notes x
        → holding clock ns y ≡ with_transaction t (with_read v (rows x t)) (holding clock ns x)
    read_held e k =
        let s : Sets = sets x in
        let r : ℕ → Bool = s.reads t in
        let w : ℕ → Bool = s.writes t in
        changed (with_read v (rows x t))
        (rows_by t (has_read t v s) (notes x t) (notes x t) (cond (w v) r (plus r v)) w e (ap (λ n. n t) k) refl
        (λ a. gains r w a) (λ a. refl)
        ∙ sym (ap (with_read v) (rows_told x t) ∙ told_read v (notes x t) r w))
        (kept (has_read t v s) (notes x) e k (λ u h. refl) (λ u a h. grind arith) (λ u a h. refl))

    -- one that writes
    pub written_held : sets y ≡ has_written t v (sets x) → notes y ≡ notes x
        → holding clock ns y ≡ with_transaction t (with_write v (rows x t)) (holding clock ns x)
    written_held e k =
        let s : Sets = sets x in
        let r : ℕ → Bool = s.reads t in
        let w : ℕ → Bool = s.writes t in
        changed (with_write v (rows x t))
        (rows_by t (has_written t v s) (notes x t) (notes x t) r (plus w v) e (ap (λ n. n t) k) refl
        (λ a. refl) (λ a. rw (same, open', there) (grind arith))
        ∙ sym (ap (with_write v) (rows_told x t) ∙ told_write v (notes x t) r w))
        (kept (has_written t v s) (notes x) e k (λ u h. refl) (λ u a h. refl) (λ u a h. grind arith))
