-- What every clock policy holds is sound, and what is sound makes one.
use Rattle.std.specs.Prelude.{◌≡◌, ℕ, ◌<◌, ◌≤◌, true, false, List, length, get_or, Some, None, Option, nat_lt, slice_index, slice_index_or}
use Rattle.std.proofs.Common.{sym, subst, ◌∙◌, inl, inr, arith}
use Rattle.std.proofs.lemmas.List.{get_or_past}
use Rattle.std.proofs.lemmas.Bool.{cases_lt, cond_both, cond-true, cond-false, ltb-false, lt-ltb, le-ltb}
use Rattle.policy.specs.Limits.{tasks, variables}
use Rattle.varset.proofs.Below.{member_below}
use Rattle.transactions.specs.declared.transaction.Transaction.{Transaction}
use Rattle.transactions.specs.declared.Transactions.{Transactions}
use Rattle.transactions.specs.Rows.{notes}
use Rattle.transactions.proofs.Sound.{sound}
use Rattle.clock.specs.Told.{rows_active, rows_reads, rows_writes, rows_begun, begun_rows, rows_at as rows_there, rows_past}
use Rattle.clock.specs.Held.{Running, Sound, reads_of, writes_of}
use Rattle.clock.specs.Rows.{row, rows, numbers, begun_after}

-- no version of a policy is above its clock
numbers_le : (clock : ℕ) (ns : List ℕ) → ((v : ℕ) → nat_lt clock (slice_index ns v) ≡ false) → (v : ℕ) → numbers ns v ≤ clock
numbers_le clock ns h v =
    cond_both (nat_lt v variables) (slice_index ns v) 0 (λ (n : ℕ). n ≤ clock)
    (λ e. ltb-false clock (slice_index ns v) (h v)) (λ e. omega arith)

-- what holds of no transaction and of the row of a task that there is holds of what is told of any task
rows_at : (x : Transactions ℕ) (t : ℕ) (P : Option Running → Type 0) → P None
    → (t < tasks → P (row (slice_index_or x.rows t None))) → P (rows x t)
rows_at x t P none some =
    elim (cases_lt t tasks) [
      | inl l ↦ subst P (sym (rows_there x t l)) (some l)
      | inr l ↦ subst P (sym (rows_past x t l)) none
    ]

-- no row has read or written a variable that there isn't
row_reads : (o : Option (Transaction ℕ)) (v : ℕ) → reads_of (row o) v ≡ true → v < variables
row_reads None v e = cc
row_reads (Some x) v e = member_below x.reads v e

row_writes : (o : Option (Transaction ℕ)) (v : ℕ) → writes_of (row o) v ≡ true → v < variables
row_writes None v e = cc
row_writes (Some x) v e = member_below x.writes v e

-- a clock, versions and transactions in which no number is above the clock
pub sound_fields : (clock : ℕ) (ns : List ℕ) (x : Transactions ℕ) → ((v : ℕ) → nat_lt clock (slice_index ns v) ≡ false)
    → ((t : ℕ) → begun_after clock (notes x t) ≡ false)
    → Sound (record { clock = clock; version = numbers ns; transaction = rows x })
sound_fields clock ns x written begun =
    let told = sound x in
    record {
      versions = numbers_le clock ns written;
      read_versions = λ t y e. rows_begun x t clock y (begun t) e;
      task = λ t e. told.task t (sym (rows_active x t) ∙ e);
      unwritten = λ v h. cond-false (nat_lt v variables) (slice_index ns v) 0 (le-ltb v variables h);
      read_below = λ t v e. told.read_below t v (sym (rows_reads x t v) ∙ e);
      written_below = λ t v e. told.written_below t v (sym (rows_writes x t v) ∙ e);
    }

-- and back: what the type of a policy asks of its versions
pub written_from : (clock : ℕ) (ns : List ℕ) → length ns ≡ variables → ((v : ℕ) → numbers ns v ≤ clock)
    → (v : ℕ) → nat_lt clock (slice_index ns v) ≡ false
written_from clock ns wide h v =
    elim (cases_lt v variables) [
      | inl l ↦
          le-ltb clock (slice_index ns v)
          (subst (λ (n : ℕ). n ≤ clock) (cond-true (nat_lt v variables) (slice_index ns v) 0 (lt-ltb v variables l)) (h v))
      | inr l ↦ le-ltb clock (slice_index ns v) (let e : get_or ns v 0 ≡ 0 = get_or_past ns v 0 (omega arith) in omega arith)
    ]

-- and of its transactions
pub begun_from : (clock : ℕ) (x : Transactions ℕ) → ((t : ℕ) (y : Running) → rows x t ≡ Some y → y.read_version ≤ clock)
    → (t : ℕ) → begun_after clock (notes x t) ≡ false
begun_from clock x h t = begun_rows x t clock (h t)
