-- What the notes of the transactions make of the state.
use Rattle.std.proofs.Common.{◌≡◌, ℕ, Bool, true, false, cond, not, ◌&&◌, ◌||◌, eqb, ltb, is_some, Some, None, Option, sym, refl, ap, ◌∙◌, arith}
use Rattle.std.proofs.lemmas.Bool.{eqb-true}
use Rattle.policy.specs.Limits.{tasks, variables}
use Rattle.policy.specs.Facts.{some_below}
use Rattle.policy.specs.Moves.{commit, abort}
use Rattle.policy.proofs.SomeBelow.{some_below_empty, some_below_same}
use Rattle.varset.specs.Members.{member, both}
use Rattle.transactions.specs.Sets.{ended, conflict}
use Rattle.transactions.specs.Rows.{sets, notes, noted, row, reads_in, writes_in, note_in}
use Rattle.transactions.specs.declared.transaction.Transaction.{Transaction}
use Rattle.transactions.specs.declared.Transactions.{Transactions}
use Rattle.transactions.proofs.Sound.{no_note}
use Rattle.own.specs.Ownership.{is_behind, state_of, overtaken, Overtaken, next}
use Rattle.own.specs.declared.Standing.{Standing}
use Rattle.own.specs.declared.Standing.TheVariants.{InTime, Behind}

-- a note that is taken away; of a task that there isn't nothing is noted
gone : (b d : Bool) (o : Option Standing) → (b ≡ true → d ≡ false → is_behind o ≡ false) → is_behind (cond (b && d) None o) ≡ (is_behind o && not b)
gone true true o h = grind arith
gone true false o h = let z = h refl refl in grind arith
gone false d o h = grind arith

-- a transaction that ends takes its note with it
pub state_ended : (p q : Transactions Standing) (t : ℕ) → sets q ≡ ended t (sets p) → notes q ≡ noted t None (notes p)
    → state_of (sets q) (notes q) ≡ next (abort t) (state_of (sets p) (notes p))
state_ended p q t e f i = record { sets = e i; flags = λ u. flag u i }
  where
    flag : (u : ℕ) → is_behind (notes q u) ≡ (is_behind (notes p u) && not (eqb u t))
    flag u =
        let n : ltb t tasks ≡ false → is_behind (notes p t) ≡ false = λ k. ap is_behind (no_note p t k) in
        let k : eqb u t ≡ true → is_behind (notes p u) ≡ is_behind (notes p t) = λ k. ap (λ m. is_behind (notes p m)) (eqb-true u t k) in
        ap (λ g. is_behind (g u)) f ∙ gone (eqb u t) (ltb t tasks) (notes p u) (λ a b. k a ∙ n b)

-- who reads nothing has read nothing that was written
nothing_read : (written : ℕ → Bool) → some_below variables (λ v. false && written v) ≡ false
nothing_read written = some_below_empty variables (λ v. false && written v) (λ v h. refl)

-- the note of a transaction that may have been overtaken
fallen : (b : Bool) (n : Standing) → is_behind (Some (cond b Behind n)) ≡ (is_behind (Some n) || b)
fallen true InTime = refl
fallen true Behind = refl
fallen false InTime = refl
fallen false Behind = refl

module _ (written : ℕ → Bool) where
  row_behind : (o : Option (Transaction Standing)) → is_behind (note_in (overtaken written o)) ≡ (is_behind (note_in o) || some_below variables (λ v. reads_in o v && written v))
  row_behind None = sym (nothing_read written)
  row_behind (Some x) = fallen (some_below variables (both (member x.reads) written)) x.note

  row_there : (o : Option (Transaction Standing)) → is_some (overtaken written o) ≡ is_some o
  row_there None = refl
  row_there (Some x) = refl

  row_reads : (o : Option (Transaction Standing)) (v : ℕ) → reads_in (overtaken written o) v ≡ reads_in o v
  row_reads None v = refl
  row_reads (Some x) v = refl

  row_writes : (o : Option (Transaction Standing)) (v : ℕ) → writes_in (overtaken written o) v ≡ writes_in o v
  row_writes None v = refl
  row_writes (Some x) v = refl

-- to end a transaction once those are behind that it overtakes is to commit it
pub state_committed : (p q : Transactions Standing) (t : ℕ) (written : ℕ → Bool) → ((v : ℕ) → written v ≡ (sets p).writes t v) → Overtaken written p.rows q.rows
    → next (abort t) (state_of (sets q) (notes q)) ≡ next (commit t) (state_of (sets p) (notes p))
unfolding sets notes
state_committed p q t written w o i = record {
  sets = ended t (same i);
  flags = λ u. (ap (λ b. b && not (eqb u t)) (flag u)) i;
}
  where
    same : sets q ≡ sets p
    same j = record {
      active = λ u. (ap is_some (o u) ∙ row_there written (row p.rows u)) j;
      reads = λ u v. (ap (λ r. reads_in r v) (o u) ∙ row_reads written (row p.rows u) v) j;
      writes = λ u v. (ap (λ r. writes_in r v) (o u) ∙ row_writes written (row p.rows u) v) j;
    }

    flag : (u : ℕ) → is_behind (notes q u) ≡ (is_behind (notes p u) || conflict (sets p) u t)
    flag u =
        ap (λ r. is_behind (note_in r)) (o u)
        ∙ row_behind written (row p.rows u)
        ∙ ap (λ b. is_behind (notes p u) || b) (some_below_same variables (λ v. reads_in (row p.rows u) v && written v) (λ v. (sets p).reads u v && (sets p).writes t v) (λ v h. ap (λ b. reads_in (row p.rows u) v && b) (w v)))
