-- What holds of the sets of all transactions.
use Rattle.std.proofs.Common.{◌≡◌, ℕ, ◌<◌, true, false, ltb, ◌⊎◌, List, is_some, Some, None, Option, refl, inl, inr}
use Rattle.std.proofs.lemmas.Bool.{cases_Bool, ltb-true, both_ways}
use Rattle.policy.specs.Limits.{tasks, variables}
use Rattle.varset.proofs.Below.{member_below}
use Rattle.transactions.specs.Sets.{Sound}
use Rattle.transactions.specs.Rows.{reads_in, writes_in, row, sets, notes}
use Rattle.transactions.specs.declared.transaction.Transaction.{Transaction}
use Rattle.transactions.specs.declared.Transactions.{Transactions}

none_read : {N : Type 0} (o : Option (Transaction N)) (v : ℕ) → is_some o ≡ false → reads_in o v ≡ false
none_read None v e = refl
none_read (Some x) v e = absurd (both_ways true e refl)

none_written : {N : Type 0} (o : Option (Transaction N)) (v : ℕ) → is_some o ≡ false → writes_in o v ≡ false
none_written None v e = refl
none_written (Some x) v e = absurd (both_ways true e refl)

read_in_below : {N : Type 0} (o : Option (Transaction N)) (v : ℕ) → reads_in o v ≡ true → v < variables
read_in_below None v e = absurd (both_ways false refl e)
read_in_below (Some x) v e = member_below x.reads v e

written_in_below : {N : Type 0} (o : Option (Transaction N)) (v : ℕ) → writes_in o v ≡ true → v < variables
written_in_below None v e = absurd (both_ways false refl e)
written_in_below (Some x) v e = member_below x.writes v e

task_below : {N : Type 0} (rows : List (Option (Transaction N))) (t : ℕ) → is_some (row rows t) ≡ true → t < tasks
unfolding row
task_below rows t e = go (cases_Bool (ltb t tasks))
  where
    go : (ltb t tasks ≡ true) ⊎ (ltb t tasks ≡ false) → t < tasks
    go (inl k) = ltb-true t tasks k
    go (inr k) = absurd (both_ways false refl (rw k at e))

pub sound : {N : Type 0} (x : Transactions N) → Sound (sets x)
unfolding sets
sound x = record {
  no_reads = λ t v. none_read (row x.rows t) v;
  no_writes = λ t v. none_written (row x.rows t) v;
  task = λ t. task_below x.rows t;
  read_below = λ t v. read_in_below (row x.rows t) v;
  written_below = λ t v. written_in_below (row x.rows t) v;
}

-- nothing is noted of a task that there isn't
pub no_note : {N : Type 0} (x : Transactions N) (t : ℕ) → ltb t tasks ≡ false → notes x t ≡ None
unfolding notes row
no_note x t e = rw e
